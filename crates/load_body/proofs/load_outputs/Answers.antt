use Prim.Native.Nat.{zero-le}
use mathlib.Core.Path.{refl}
use Rattle.load_body.proofs.Copying.{outputs_none, outputs_word, outputs_at, outputs_room, outputs_next, outputs_end}
use Rattle.load_body.proofs.load_outputs.Goals as goal

pub loop-j-init : goal.loop-j-init
loop-j-init c = (zero-le, refl, outputs_none _ _ _)

pub overflow_add-at : goal.overflow_add-at
overflow_add-at c = outputs_at _ _ _ _ c.requires _ _ c.loop-j.invariant c.loop-j-test.true c.well_formed.0.0

pub nth-s-requires : goal.nth-s-requires
nth-s-requires c = outputs_word _ _ _ _ c.requires _ _ c.loop-j.invariant c.loop-j-test.true

pub put_output-requires : goal.put_output-requires
put_output-requires c = outputs_room _ _ _ _ c.requires _ _ c.loop-j.invariant c.loop-j-test.true

pub loop-j-preserved : goal.loop-j-preserved
loop-j-preserved c = outputs_next _ _ _ _ c.requires _ _ c.loop-j.invariant c.loop-j-test.true _ _ c.nth-s.ensures c.put_output.auto.net c.put_output.ensures

pub shape_of-to : goal.shape_of-to
shape_of-to c = c.loop-j.invariant.1

pub returns : goal.returns
returns c = outputs_end _ _ _ _ c.requires _ _ c.loop-j.invariant c.loop-j-test.false
