use Rattle.evaluate.proofs.Turns.{forwarded_more, turns}
use borrow.Author.Rules.{rules}
use Rattle.evaluate.proofs.passes.forward.Goals as goal

pub loop-v-init : goal.loop-v-init
loop-v-init c = search (rules, turns)

pub loop-v-preserved : goal.loop-v-preserved
loop-v-preserved c = forwarded_more _ _ _ _ _ _ c.loop-v.invariant _ _ c.requires c.loop-v-test.true c.node_word.ensures c.put_word.ensures
