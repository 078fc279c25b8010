use Prim.Native.Nat.{zero-le}
use mathlib.Core.Path.{refl, ◌∙◌}
use Rattle.laws.proofs.Turns.{turn_up}
use Rattle.remap.proofs.Moves.{move_none, move_place, move_next, move_done}
use Rattle.remap.proofs.remap_nodes.Goals as goal

pub loop-k-init : goal.loop-k-init
loop-k-init c = (zero-le, refl, move_none _ _ _ _ c.requires)

pub remap_gate-at-requires : goal.remap_gate-at-requires
remap_gate-at-requires c = move_place _ _ _ _ c.requires _ _ _ c.loop-k.invariant.2 c.loop-k-test.true _ c.number-v.ensures

pub loop-k-preserved : goal.loop-k-preserved
loop-k-preserved c = (turn_up c.loop-k-test.true, c.remap_gate-at.auto.to ∙ c.loop-k.invariant.1, move_next _ _ _ _ c.requires _ _ _ c.loop-k.invariant.2 c.loop-k-test.true _ c.number-v.ensures _ _ c.remap_gate-at.ensures)

pub returns : goal.returns
returns c = move_done _ _ _ _ _ _ c.loop-k.invariant.2 c.loop-k.invariant.0 c.loop-k-test.false
