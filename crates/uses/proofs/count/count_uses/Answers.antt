use mathlib.Core.Path.{◌∙◌}
use borrow.Author.Rules.{rules}
use Rattle.uses.proofs.Walks.{uses_next, uses_skip, uses_counts}
use Rattle.uses.proofs.count.count_uses.Goals as goal
use Rattle.uses.proofs.count.count_uses.Goals.{then-takes, else-takes}

pub loop-v-preserved : goal.loop-v-preserved
loop-v-preserved c = elim c.if-takes.branch [
  | then-takes w ↦ uses_next _ _ _ _ _ _ c.loop-v.invariant c.loop-v-test.true _ c.takes.ensures w.if-takes.true _ (w.to-is ∙ w.count_gate.ensures) c.if-takes.auto.to
  | else-takes w ↦ rw w.to-is (uses_skip _ _ _ _ _ _ c.loop-v.invariant c.loop-v-test.true _ c.takes.ensures w.if-takes.false)
]

pub loop-v-init : goal.loop-v-init
loop-v-init c = search (rules, uses_counts)
