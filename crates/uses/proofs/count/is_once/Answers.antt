-- `is_once`: each need by its law.
use borrow.Author.Rules.{rules}
use Rattle.uses.proofs.Tallies.{notes}
use Rattle.uses.proofs.count.is_once.Goals as goal

pub returns : goal.returns
returns c = search (rules, notes)
