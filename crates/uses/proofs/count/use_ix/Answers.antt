-- `use_ix`: each need by its law.
use borrow.Author.Rules.{rules}
use Rattle.uses.proofs.Tallies.{notes}
use Rattle.uses.proofs.count.use_ix.Goals as goal

pub returns-then-s-lt2147483648 : goal.returns-then-s-lt2147483648
returns-then-s-lt2147483648 c = search (rules, notes)

pub returns : goal.returns
returns c = search (rules, notes)
