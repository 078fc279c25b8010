-- Two inputs that differ.
use Rattle.values.proofs.Deciding.{decides}
use borrow.Author.Rules.{rules}
use Rattle.values.proofs.xor_2.Goals as goal

pub returns : goal.returns
returns c = search (rules, decides)
