use borrow.Author.Rules.{rules}
use Rattle.count_pair.proofs.Counts.{counts}
use Rattle.count_pair.proofs.count_pair.Goals as goal

pub loop-i-preserved : goal.loop-i-preserved
loop-i-preserved c = search (rules, counts)

pub returns : goal.returns
returns c = search (rules, counts)
