use Prim.Native.Nat.{zero-le}
use mathlib.Core.Path.{refl}
use Rattle.laws.proofs.Turns.{turn_less}
use Rattle.dedup.proofs.Endings.{cells_none, cells_long, cells_room, cells_next, cells_end}
use Rattle.dedup.proofs.ends.remap_cells.Goals as goal

pub loop-k-init : goal.loop-k-init
loop-k-init c = (zero-le, refl, cells_none _)

pub input_at-requires : goal.input_at-requires
input_at-requires c = cells_room _ _ c.requires _ _ c.loop-k.invariant c.loop-k-test.true

pub translate-s-requires : goal.translate-s-requires
translate-s-requires c = cells_long _ _ c.requires _ _ c.loop-k.invariant

pub put_input-requires : goal.put_input-requires
put_input-requires c = cells_room _ _ c.requires _ _ c.loop-k.invariant c.loop-k-test.true

pub loop-k-smaller : goal.loop-k-smaller
loop-k-smaller c = turn_less c.loop-k-test.true

pub loop-k-preserved : goal.loop-k-preserved
loop-k-preserved c = cells_next _ _ c.requires _ _ c.loop-k.invariant c.loop-k-test.true _ _ _ c.input_at.ensures c.translate-s.ensures c.put_input.auto.net c.put_input.ensures

pub shape_of-to : goal.shape_of-to
shape_of-to c = c.loop-k.invariant.1

pub returns : goal.returns
returns c = cells_end _ _ c.requires _ _ c.loop-k.invariant c.loop-k-test.false
