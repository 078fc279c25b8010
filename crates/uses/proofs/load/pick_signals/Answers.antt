use borrow.Author.Rules.{rules}
use Rattle.uses.proofs.Picking.{picks}
use Rattle.uses.proofs.load.pick_signals.Goals as goal

pub loop-j-init : goal.loop-j-init
loop-j-init c = search (rules, picks)

pub pick_one-w-requires : goal.pick_one-w-requires
pick_one-w-requires c = search (rules, picks)

pub overflow_add-w : goal.overflow_add-w
overflow_add-w c = search (rules, picks)

pub loop-j-preserved : goal.loop-j-preserved
loop-j-preserved c = search (rules, picks)

pub returns : goal.returns
returns c = search (rules, picks)
