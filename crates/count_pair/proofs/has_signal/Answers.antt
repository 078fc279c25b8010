use borrow.Author.Rules.{rules}
use Rattle.count_pair.proofs.Counts.{has_end, has_hit, has_miss}
use Rattle.count_pair.proofs.has_signal.Goals as goal

pub returns-then-sig_at-x : goal.returns-then-sig_at-x
returns-then-sig_at-x c = search (rules, has_hit)

pub loop-j-preserved : goal.loop-j-preserved
loop-j-preserved c = search (rules, has_miss)

pub returns : goal.returns
returns c = search (rules, has_end)
