-- `show`: each need by its law.
use borrow.Author.Rules.{rules}
use Rattle.share.proofs.Shows.{shows}
use Rattle.share.proofs.show.Goals as goal

pub returns-in-Ok : goal.returns-in-Ok
returns-in-Ok c = search (rules, shows)
