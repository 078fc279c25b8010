use mathlib.Core.Path.{◌∙◌}
use borrow.Author.Rules.{rules}
use Rattle.give_back.proofs.Givings.{give_next, give_skip, give_backs}
use Rattle.give_back.proofs.give_back.Goals as goal
use Rattle.give_back.proofs.give_back.Goals.{then-takes, else-takes}

pub loop-v-init : goal.loop-v-init
loop-v-init c = search (rules, give_backs)

pub takes-requires : goal.takes-requires
takes-requires c = search (rules, give_backs)

pub give_gate-requires : goal.give_gate-requires
give_gate-requires c = search (rules, give_backs)

pub overflow_add-i : goal.overflow_add-i
overflow_add-i c = search (rules, give_backs)

pub loop-v-smaller : goal.loop-v-smaller
loop-v-smaller c = search (rules, give_backs)

pub loop-v-preserved : goal.loop-v-preserved
loop-v-preserved c = elim c.if-takes.branch [
  | then-takes w ↦
      rw w.i-is (give_next _ _ _ _ _ _ _ c.loop-v.invariant c.requires c.loop-v-test.true _ c.takes.ensures w.if-takes.true _ (w.to-is ∙ w.give_gate.ensures) c.if-takes.auto.to)
  | else-takes w ↦ rw (w.to-is, w.i-is) (give_skip _ _ _ _ _ _ _ c.loop-v.invariant c.requires c.loop-v-test.true _ c.takes.ensures w.if-takes.false)
]

pub shape_of-to : goal.shape_of-to
shape_of-to c = search (rules, give_backs)

pub returns : goal.returns
returns c = search (rules, give_backs)
