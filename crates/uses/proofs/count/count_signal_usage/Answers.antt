-- `count_signal_usage`: each need by its law.
use borrow.Author.Rules.{rules}
use Rattle.uses.proofs.Walks.{marks}
use Rattle.uses.proofs.count.count_signal_usage.Goals as goal

pub returns : goal.returns
returns c = search (rules, marks)
