-- One input, read as it is.
use Rattle.values.proofs.Deciding.{decides}
use borrow.Author.Rules.{rules}
use Rattle.values.proofs.buf.Goals as goal

pub returns : goal.returns
returns c = search (rules, decides)
