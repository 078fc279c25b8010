use borrow.Author.Rules.{rules}
use Rattle.room.proofs.Rooms.{sum_count, sum_other, sum_taken, sums}
use Rattle.room.proofs.buf_inputs.Goals as goal
use Rattle.room.proofs.buf_inputs.Goals.{then-takes, else-takes}

pub overflow_add-t : goal.overflow_add-t
overflow_add-t c = elim c.if-takes.branch [
  | then-takes w ↦ rw w.t-is (search (rules, sums))
  | else-takes w ↦ rw w.t-is (sum_count _ _ _ _ _ c.loop-v.invariant c.requires c.loop-v-test.true _ w.count_at.ensures)
]

pub loop-v-preserved : goal.loop-v-preserved
loop-v-preserved c = elim c.if-takes.branch [
  | then-takes w ↦ rw w.t-is (sum_taken _ _ _ _ _ c.loop-v.invariant c.requires c.loop-v-test.true _ c.takes.ensures w.if-takes.true)
  | else-takes w ↦ rw w.t-is (sum_other _ _ _ _ _ c.loop-v.invariant c.requires c.loop-v-test.true _ c.takes.ensures w.if-takes.false _ w.count_at.ensures)
]

pub loop-v-init : goal.loop-v-init
loop-v-init c = search (rules, sums)
