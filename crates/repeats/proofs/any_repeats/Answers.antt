use borrow.Author.Rules.{rules}
use Rattle.repeats.proofs.Searched.{clear_next, clear_skip, met_here, searched}
use Rattle.repeats.proofs.any_repeats.Goals as goal
use Rattle.repeats.proofs.any_repeats.Goals.{else-takes-via-then-takes+else-repeats, else-takes-via-else-takes}

pub loop-v-preserved : goal.loop-v-preserved
loop-v-preserved c = elim c.else-takes.branch [
  | else-takes-via-then-takes+else-repeats w ↦ clear_next _ _ _ c.loop-v.invariant c.loop-v-test.true _ c.takes.ensures w.if-takes.true _ w.repeats.ensures w.if-repeats.false
  | else-takes-via-else-takes w ↦ clear_skip _ _ _ c.loop-v.invariant c.loop-v-test.true _ c.takes.ensures w.if-takes.false
]

pub returns-then-repeats : goal.returns-then-repeats
returns-then-repeats c = met_here _ _ _ c.loop-v.invariant c.loop-v-test.true _ c.takes.ensures c.if-takes.true _ c.repeats.ensures c.if-repeats.true

pub loop-v-init : goal.loop-v-init
loop-v-init c = search (rules, searched)
