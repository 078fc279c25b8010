use Rattle.signal_values.proofs.Turns.{turns}
use borrow.Author.Rules.{rules}
use Rattle.signal_values.proofs.gate_inputs.Inputs.ones.Goals as goal

pub loop-j-init : goal.loop-j-init
loop-j-init c = search (rules, turns)

pub overflow_add-n : goal.overflow_add-n
overflow_add-n c = search (rules, turns)

pub loop-j-preserved : goal.loop-j-preserved
loop-j-preserved c = search (rules, turns)
