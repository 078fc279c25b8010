use Prim.Native.Nat.{zero-le}
use mathlib.Core.Path.{refl, ◌∙◌}
use Rattle.laws.proofs.Turns.{turn_up}
use Rattle.load_body.proofs.Loads.{loading_none, loading_fits, loading_next, loading_end}
use Rattle.load_body.proofs.load_nodes.Goals as goal

pub loop-v-init : goal.loop-v-init
loop-v-init c = (zero-le, refl, loading_none _ _ _ c.requires)

pub load_gate-p-requires : goal.load_gate-p-requires
load_gate-p-requires c = loading_fits _ _ _ c.requires _ _ _ c.loop-v.invariant.2 c.loop-v-test.true

pub loop-v-preserved : goal.loop-v-preserved
loop-v-preserved c = (turn_up c.loop-v-test.true, c.load_gate-p.auto.to ∙ c.loop-v.invariant.1, loading_next _ _ _ c.requires _ _ _ c.loop-v.invariant.2 c.loop-v-test.true _ _ c.load_gate-p.ensures)

pub shape_of-to : goal.shape_of-to
shape_of-to c = c.loop-v.invariant.1

pub returns : goal.returns
returns c = loading_end _ _ _ c.requires _ _ _ c.loop-v.invariant.2 c.loop-v-test.false c.loop-v.invariant.0
