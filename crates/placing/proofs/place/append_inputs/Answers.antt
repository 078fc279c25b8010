use Prim.Native.Nat.{zero-le}
use mathlib.Core.Path.{refl}
use Rattle.placing.proofs.Fills.{append_none, append_next, append_end}
use Rattle.placing.proofs.place.append_inputs.Goals as goal

pub loop-j-init : goal.loop-j-init
loop-j-init c = (zero-le, refl, append_none _ _)

pub loop-j-preserved : goal.loop-j-preserved
loop-j-preserved c = append_next _ _ _ c.requires _ _ c.loop-j.invariant c.loop-j-test.true _ _ c.word-s.ensures c.put_input.auto.net c.put_input.ensures

pub returns : goal.returns
returns c = append_end _ _ _ c.requires _ _ c.loop-j.invariant c.loop-j-test.false
