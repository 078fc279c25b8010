-- Both areas are long enough where neither is short, and what the work left in them is cleared.
use borrow.Author.Rules.{rules}
use Rattle.tables.proofs.Entering.{long_a, long_b, areas_both, both}
use Rattle.lending.proofs.lend.Goals as goal

pub slice_bounds-work-end : goal.slice_bounds-work-end
slice_bounds-work-end g c = long_a _ _ _ c.areas_short.ensures c.if-areas_short.false

pub slice_bounds-work-end-3 : goal.slice_bounds-work-end-3
slice_bounds-work-end-3 g c = long_b _ _ _ c.areas_short.ensures c.if-areas_short.false

pub clear_areas-requires : goal.clear_areas-requires
clear_areas-requires g c = let w = c.work-answer in
    areas_both _ _ _ c.areas_short.ensures c.if-areas_short.false w.new.arg4 w.auto.arg4 w.new.arg5 w.auto.arg5

pub returns-clause-cleared : goal.returns-clause-cleared
returns-clause-cleared g c = λ h. let w = c.work-answer in
    both _ _ _ c.areas_short.ensures c.if-areas_short.false w.new.arg4 w.auto.arg4 w.new.arg5 w.auto.arg5 _ _ c.clear_areas.ensures

pub slice_bounds-work-end-2 : goal.slice_bounds-work-end-2
slice_bounds-work-end-2 g c = let h = long_a _ _ _ c.areas_short.ensures c.if-areas_short.false in search rules

pub slice_bounds-work-end-4 : goal.slice_bounds-work-end-4
slice_bounds-work-end-4 g c = let h = long_b _ _ _ c.areas_short.ensures c.if-areas_short.false in search rules
