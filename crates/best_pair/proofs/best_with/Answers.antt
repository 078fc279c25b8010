use borrow.Author.Rules.{rules}
use Rattle.count_pair.proofs.Counts.{sig_fits, sig_room}
use Rattle.best_pair.proofs.Tops.{with_end, with_start, with_step}
use Rattle.best_pair.proofs.best_with.Goals as goal

pub overflow_add-f : goal.overflow_add-f
overflow_add-f c = search (rules, sig_fits)

pub sig_at-a-requires : goal.sig_at-a-requires
sig_at-a-requires c = search (rules, sig_room)

pub loop-k-init : goal.loop-k-init
loop-k-init c = search (rules, with_start)

pub overflow_add-f-in-loop-k : goal.overflow_add-f-in-loop-k
overflow_add-f-in-loop-k c = search (rules, sig_fits)

pub sig_at-requires : goal.sig_at-requires
sig_at-requires c = search (rules, sig_room)

pub loop-k-preserved : goal.loop-k-preserved
loop-k-preserved c = search (rules, with_step)

pub returns : goal.returns
returns c = search (rules, with_end)
