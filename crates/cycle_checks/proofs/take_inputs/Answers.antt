use Rattle.cycle_checks.proofs.Checking.{taken_more, turns}
use borrow.Author.Rules.{rules}
use Rattle.cycle_checks.proofs.take_inputs.Goals as goal

pub loop-k-init : goal.loop-k-init
loop-k-init c = search (rules, turns)

pub loop-k-preserved : goal.loop-k-preserved
loop-k-preserved c = taken_more _ _ _ _ _ _ c.loop-k.invariant _ _ c.loop-k-test.true c.from.ensures c.put_word.ensures
