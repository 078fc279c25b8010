use borrow.Author.Rules.{rules}
use Rattle.stack_search.proofs.Visits.{visits}
use Rattle.stack_search.proofs.visit_all.Goals as goal

pub loop-t-init : goal.loop-t-init
loop-t-init c = search (rules, visits)

pub visit-t-requires : goal.visit-t-requires
visit-t-requires c = search (rules, visits)

pub loop-t-smaller : goal.loop-t-smaller
loop-t-smaller c = search (rules, visits)

pub loop-t-preserved : goal.loop-t-preserved
loop-t-preserved c = search (rules, visits)

pub shape_of-to : goal.shape_of-to
shape_of-to c = search (rules, visits)

pub returns : goal.returns
returns c = search (rules, visits)
