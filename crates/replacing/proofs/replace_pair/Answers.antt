-- `replace_pair`: each need by its law.
use borrow.Author.Rules.{rules}
use Rattle.replacing.proofs.Replacings.{swapped}
use Rattle.replacing.proofs.replace_pair.Goals as goal

pub swap_all-requires : goal.swap_all-requires
swap_all-requires c = search (rules, swapped)

pub returns : goal.returns
returns c = search (rules, swapped)
