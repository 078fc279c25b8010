-- Two inputs, both one.
use Rattle.values.proofs.Deciding.{decides}
use borrow.Author.Rules.{rules}
use Rattle.values.proofs.and_2.Goals as goal

pub returns : goal.returns
returns c = search (rules, decides)
