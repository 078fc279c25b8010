-- `load_lists`: each need by its law.
use borrow.Author.Rules.{rules}
use Rattle.factoring_run.proofs.Runs.{loads}
use Rattle.factoring_run.proofs.load_lists.Goals as goal

pub count_signal_usage-requires : goal.count_signal_usage-requires
count_signal_usage-requires c = search (rules, loads)

pub separate_exclusive_signals-requires : goal.separate_exclusive_signals-requires
separate_exclusive_signals-requires c = search (rules, loads)

pub returns : goal.returns
returns c = search (rules, loads)
