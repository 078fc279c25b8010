use Prim.Native.Nat.{zero-le}
use mathlib.Core.Path.{refl}
use Rattle.load_body.proofs.Copying.{inputs_none, inputs_word, inputs_at, inputs_place, inputs_room, inputs_next, inputs_end}
use Rattle.load_body.proofs.load_inputs.Goals as goal

pub loop-j-init : goal.loop-j-init
loop-j-init c = (zero-le, refl, inputs_none _ _ _ _)

pub overflow_add-at : goal.overflow_add-at
overflow_add-at c = inputs_at _ _ _ _ _ c.requires _ _ c.loop-j.invariant c.loop-j-test.true c.well_formed.0.0

pub nth-s-requires : goal.nth-s-requires
nth-s-requires c = inputs_word _ _ _ _ _ c.requires _ _ c.loop-j.invariant c.loop-j-test.true

pub overflow_add-first : goal.overflow_add-first
overflow_add-first c = inputs_place _ _ _ _ _ c.requires _ _ c.loop-j.invariant c.loop-j-test.true

pub put_input-requires : goal.put_input-requires
put_input-requires c = inputs_room _ _ _ _ _ c.requires _ _ c.loop-j.invariant c.loop-j-test.true

pub loop-j-preserved : goal.loop-j-preserved
loop-j-preserved c = inputs_next _ _ _ _ _ c.requires _ _ c.loop-j.invariant c.loop-j-test.true _ _ c.nth-s.ensures c.put_input.auto.net c.put_input.ensures

pub shape_of-to : goal.shape_of-to
shape_of-to c = c.loop-j.invariant.1

pub returns : goal.returns
returns c = inputs_end _ _ _ _ _ c.requires _ _ c.loop-j.invariant c.loop-j-test.false
