use borrow.Author.Rules.{rules}
use Rattle.best_pair.proofs.Tops.{ins}
use Rattle.best_pair.proofs.best_in.Goals as goal

pub left_at-n-requires : goal.left_at-n-requires
left_at-n-requires c = search (rules, ins)

pub loop-j-init : goal.loop-j-init
loop-j-init c = search (rules, ins)

pub best_with-u-requires : goal.best_with-u-requires
best_with-u-requires c = search (rules, ins)

pub loop-j-smaller : goal.loop-j-smaller
loop-j-smaller c = search (rules, ins)

pub loop-j-preserved : goal.loop-j-preserved
loop-j-preserved c = search (rules, ins)

pub returns : goal.returns
returns c = search (rules, ins)
