-- The j-th input's value, read.
use Rattle.signal_values.proofs.Turns.{input_is}
use Rattle.signal_values.proofs.gate_inputs.Inputs.value.Goals as goal

pub returns : goal.returns
returns c = input_is _ _ _ _ _ _ c.input_at.ensures c.value.ensures
