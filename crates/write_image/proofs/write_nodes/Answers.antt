use Prim.Native.Nat.{zero-le}
use mathlib.Core.Path.{refl, ◌∙◌}
use Rattle.laws.proofs.Turns.{turn_up}
use Rattle.write_image.proofs.Writes.{nodes_none, node_writes, nodes_next}
use Rattle.write_image.proofs.write_nodes.Goals as goal

pub loop-v-init : goal.loop-v-init
loop-v-init c = (zero-le, refl, nodes_none _ _)

pub write_gate-at-requires : goal.write_gate-at-requires
write_gate-at-requires c = node_writes _ _ _ _ _ c.loop-v.invariant.2 _ c.requires c.loop-v-test.true c.loop-v.invariant.1

pub loop-v-preserved : goal.loop-v-preserved
loop-v-preserved c = (turn_up c.loop-v-test.true, c.write_gate-at.auto.out ∙ c.loop-v.invariant.1, nodes_next _ _ _ _ _ c.loop-v.invariant.2 _ _ c.write_gate-at.ensures)
