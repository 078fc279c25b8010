-- By its enable, and then by the other two inputs.
use mathlib.Core.Path.{ap}
use mathlib.Core.Bool.{not}
use Rattle.flip_flops.proofs.States.{state_holds, state_stores}
use Rattle.flip_flops.proofs.new_state.Goals as goal

pub returns-then-not-value : goal.returns-then-not-value
returns-then-not-value c = state_holds _ _ _ _ _ c.value.ensures (ap not c.if-not-value.true)

pub returns : goal.returns
returns c = state_stores _ _ _ _ _ c.value.ensures (ap not c.if-not-value.false) _ _ c.value-2.ensures c.value-3.ensures
