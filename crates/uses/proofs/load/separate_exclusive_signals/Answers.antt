use mathlib.Core.Path.{◌∙◌}
use borrow.Author.Rules.{rules}
use Rattle.uses.proofs.Loads.{load_next, load_skip, separates}
use Rattle.uses.proofs.load.separate_exclusive_signals.Goals as goal
use Rattle.uses.proofs.load.separate_exclusive_signals.Goals.{then-takes, else-takes}

pub loop-v-preserved : goal.loop-v-preserved
loop-v-preserved c = elim c.if-takes.branch [
  | then-takes w ↦
      rw (w.i-is, w.at-is)
      (load_next _ _ _ _ _ _ _ _ c.loop-v.invariant c.requires c.loop-v-test.true _ c.takes.ensures w.if-takes.true _ _ (w.to-is ∙ w.load_gate.ensures) c.if-takes.auto.to w.count_at-at.ensures)
  | else-takes w ↦ rw (w.to-is, w.i-is, w.at-is) (load_skip _ _ _ _ _ _ _ _ c.loop-v.invariant c.requires c.loop-v-test.true _ c.takes.ensures w.if-takes.false)
]

pub loop-v-init : goal.loop-v-init
loop-v-init c = search (rules, separates)

pub load_gate-requires : goal.load_gate-requires
load_gate-requires c = search (rules, separates)

pub overflow_add-at : goal.overflow_add-at
overflow_add-at c = search (rules, separates)

pub overflow_add-i : goal.overflow_add-i
overflow_add-i c = search (rules, separates)

pub returns : goal.returns
returns c = search (rules, separates)
