-- `cleanup`: each need by its law.
use borrow.Author.Rules.{rules}
use Rattle.cleanup.proofs.Walks.{cleans}
use Rattle.cleanup.proofs.cleanup.Goals as goal

pub mark_all-requires : goal.mark_all-requires
mark_all-requires c = search (rules, cleans)

pub keep_marked-m-requires : goal.keep_marked-m-requires
keep_marked-m-requires c = search (rules, cleans)

pub remap-requires : goal.remap-requires
remap-requires c = search (rules, cleans)

pub shape_of-to : goal.shape_of-to
shape_of-to c = search (rules, cleans)

pub returns : goal.returns
returns c = search (rules, cleans)
