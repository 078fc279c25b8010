use Rattle.signal_values.proofs.Turns.{turns}
use borrow.Author.Rules.{rules}
use Rattle.signal_values.proofs.gate_inputs.Inputs.weight.Goals as goal

pub loop-j-init : goal.loop-j-init
loop-j-init c = search (rules, turns)

pub overflow_mul-w : goal.overflow_mul-w
overflow_mul-w c = search (rules, turns)

pub overflow_add-w : goal.overflow_add-w
overflow_add-w c = search (rules, turns)

pub loop-j-preserved : goal.loop-j-preserved
loop-j-preserved c = search (rules, turns)
