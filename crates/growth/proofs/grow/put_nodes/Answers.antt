use mathlib.Core.Path.{◌∙◌}
use borrow.Author.Rules.{rules}
use Rattle.growth.proofs.Growings.{nodes_other, nodes_taken, writes}
use Rattle.growth.proofs.grow.put_nodes.Goals as goal
use Rattle.growth.proofs.grow.put_nodes.Goals.{then-takes, else-takes}

pub loop-v-init : goal.loop-v-init
loop-v-init c = search (rules, writes)

pub takes-requires : goal.takes-requires
takes-requires c = search (rules, writes)

pub start_at-requires : goal.start_at-requires
start_at-requires c = search (rules, writes)

pub sig_at-s-requires : goal.sig_at-s-requires
sig_at-s-requires c = search (rules, writes)

pub put_buf-requires : goal.put_buf-requires
put_buf-requires c = search (rules, writes)

pub overflow_add-i : goal.overflow_add-i
overflow_add-i c = search (rules, writes)

pub overflow_add-at : goal.overflow_add-at
overflow_add-at c = search (rules, writes)

pub copy_gate-requires : goal.copy_gate-requires
copy_gate-requires c = search (rules, writes)

pub count_at-at-requires : goal.count_at-at-requires
count_at-at-requires c = search (rules, writes)

pub loop-v-smaller : goal.loop-v-smaller
loop-v-smaller c = search (rules, writes)

pub shape_of-to : goal.shape_of-to
shape_of-to c = search (rules, writes)

pub returns : goal.returns
returns c = search (rules, writes)

pub loop-v-preserved : goal.loop-v-preserved
loop-v-preserved c = elim c.if-takes.branch [
  | then-takes w ↦
      rw (w.i-is, w.at-is)
      (nodes_taken _ _ _ _ _ _ _ _ c.loop-v.invariant c.requires c.loop-v-test.true _ c.takes.ensures w.if-takes.true _ _ w.start_at.ensures _ w.sig_at-s.ensures (w.to-is ∙ w.put_buf.ensures) c.if-takes.auto.to)
  | else-takes w ↦
      rw (w.i-is, w.at-is)
      (nodes_other _ _ _ _ _ _ _ _ c.loop-v.invariant c.requires c.loop-v-test.true _ c.takes.ensures w.if-takes.false _ w.count_at-at.ensures _ (w.to-is ∙ w.copy_gate.ensures) c.if-takes.auto.to)
]
