use Rattle.signal_values.proofs.Deciding.{decides}
use borrow.Author.Rules.{rules}
use Rattle.signal_values.proofs.gate_inputs.Inputs.all_are.Goals as goal

pub loop-j-init : goal.loop-j-init
loop-j-init c = search (rules, decides)

pub returns-then-value-b : goal.returns-then-value-b
returns-then-value-b c = search (rules, decides)

pub loop-j-preserved : goal.loop-j-preserved
loop-j-preserved c = search (rules, decides)
