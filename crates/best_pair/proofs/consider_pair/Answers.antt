-- `consider_pair`: each need by its law.
use borrow.Author.Rules.{rules}
use Rattle.best_pair.proofs.Tops.{considers}
use Rattle.best_pair.proofs.consider_pair.Goals as goal

pub count_pair-n-requires : goal.count_pair-n-requires
count_pair-n-requires c = search (rules, considers)

pub wins-requires : goal.wins-requires
wins-requires c = search (rules, considers)

pub returns-then-wins : goal.returns-then-wins
returns-then-wins c = search (rules, considers)

pub returns : goal.returns
returns c = search (rules, considers)
