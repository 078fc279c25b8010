-- `clean`: each need by its law.
use borrow.Author.Rules.{rules}
use Rattle.flatten_nary.proofs.Flattening.{flattens}
use Rattle.flatten_nary.proofs.clean.Goals as goal

pub dedup-requires : goal.dedup-requires
dedup-requires c = search (rules, flattens)

pub returns : goal.returns
returns c = search (rules, flattens)
