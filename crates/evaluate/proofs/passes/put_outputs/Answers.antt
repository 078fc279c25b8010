use Rattle.evaluate.proofs.Turns.{turns}
use borrow.Author.Rules.{rules}
use Rattle.evaluate.proofs.passes.put_outputs.Goals as goal

pub loop-j-init : goal.loop-j-init
loop-j-init c = search (rules, turns)

pub loop-j-preserved : goal.loop-j-preserved
loop-j-preserved c = search (rules, turns)

pub returns : goal.returns
returns c = search (rules, turns)
