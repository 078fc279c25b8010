-- `finalize`: each need by its law.
use borrow.Author.Rules.{rules}
use Rattle.factoring_run.proofs.Runs.{finals}
use Rattle.factoring_run.proofs.finalize.Goals as goal

pub count_signal_usage-requires : goal.count_signal_usage-requires
count_signal_usage-requires c = search (rules, finals)

pub give_back-requires : goal.give_back-requires
give_back-requires c = search (rules, finals)

pub join_gates-requires : goal.join_gates-requires
join_gates-requires c = search (rules, finals)

pub shape_of-to : goal.shape_of-to
shape_of-to c = search (rules, finals)

pub returns : goal.returns
returns c = search (rules, finals)
