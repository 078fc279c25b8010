-- `load_table`: each need by its law.
use mathlib.Core.Path.{refl}
use Rattle.load_body.proofs.Loads.{table_none, low_inside, high_inside, table_one, table_low, table_two, table_high, table_some}
use Rattle.load_body.proofs.load_table.Goals as goal

pub shape_of-to-then-h : goal.shape_of-to-then-h
shape_of-to-then-h c = c.put_table.auto.net

pub returns-then-h : goal.returns-then-h
returns-then-h c = table_none _ _ _ _ _ c.requires c.if-h.true _ c.put_table.ensures

pub overflow_add-at : goal.overflow_add-at
overflow_add-at c = table_one _ _ _ _ _ c.requires c.if-h.false _ refl c.well_formed.0.0

pub overflow_add-at-2 : goal.overflow_add-at-2
overflow_add-at-2 c = table_low _ _ _ _ _ c.requires c.if-h.false _ refl c.well_formed.0.0

pub nth-low-requires : goal.nth-low-requires
nth-low-requires c = low_inside _ _ _ _ _ c.requires c.if-h.false _ refl

pub overflow_add-at-3 : goal.overflow_add-at-3
overflow_add-at-3 c = table_two _ _ _ _ _ c.requires c.if-h.false _ refl c.well_formed.0.0

pub overflow_add-at-4 : goal.overflow_add-at-4
overflow_add-at-4 c = table_high _ _ _ _ _ c.requires c.if-h.false _ refl c.well_formed.0.0

pub nth-high-requires : goal.nth-high-requires
nth-high-requires c = high_inside _ _ _ _ _ c.requires c.if-h.false _ refl

pub shape_of-to : goal.shape_of-to
shape_of-to c = c.put_table-2.auto.net

pub returns : goal.returns
returns c = table_some _ _ _ _ _ c.requires c.if-h.false _ refl _ _ c.nth-low.ensures c.nth-high.ensures _ c.put_table-2.ensures
