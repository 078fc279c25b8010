use borrow.Author.Rules.{rules}
use Rattle.best_pair.proofs.Tops.{overs}
use Rattle.best_pair.proofs.find_best_pair.Goals as goal

pub loop-i-init : goal.loop-i-init
loop-i-init c = search (rules, overs)

pub best_in-u-requires : goal.best_in-u-requires
best_in-u-requires c = search (rules, overs)

pub loop-i-smaller : goal.loop-i-smaller
loop-i-smaller c = search (rules, overs)

pub loop-i-preserved : goal.loop-i-preserved
loop-i-preserved c = search (rules, overs)

pub returns-then-u-eq0 : goal.returns-then-u-eq0
returns-then-u-eq0 c = search (rules, overs)

pub returns : goal.returns
returns c = search (rules, overs)
