-- `takes`: each need by its law.
use borrow.Author.Rules.{rules}
use Rattle.uses.proofs.Slots.{taking}
use Rattle.uses.proofs.count.takes.Goals as goal

pub returns : goal.returns
returns c = search (rules, taking)
