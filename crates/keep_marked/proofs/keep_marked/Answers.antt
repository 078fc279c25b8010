use Prim.Native.Nat.{zero-le}
use mathlib.Core.Path.{refl, ◌∙◌}
use Rattle.laws.proofs.Turns.{turn_up}
use Rattle.keep_marked.proofs.Kept.{keep_start, keep_end}
use Rattle.keep_marked.proofs.keep_marked.Goals as goal

pub loop-v-init : goal.loop-v-init
loop-v-init c = (zero-le, refl, keep_start _ _ _ c.requires)

pub loop-v-preserved : goal.loop-v-preserved
loop-v-preserved c = (turn_up c.loop-v-test.true, c.keep_node-k.auto.to ∙ c.loop-v.invariant.1, c.keep_node-k.ensures)

pub returns : goal.returns
returns c = keep_end _ _ _ _ _ c.loop-v.invariant.2 c.loop-v.invariant.0 c.loop-v-test.false
