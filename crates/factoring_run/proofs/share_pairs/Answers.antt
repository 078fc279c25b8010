-- `share_pairs`: each need by its law.
use native.Mathlib.Omega.{arith}
use Rattle.factoring.proofs.Turns.{ready_next, ready_of}
use Rattle.factoring_run.proofs.Runs.{share_done, share_full}
use Rattle.factoring_run.proofs.share_pairs.Goals as goal

pub returns-in_err-k : goal.returns-in_err-k
returns-in_err-k c = rw c.from_residual.ensures (share_full _ _ _ _ _ _ c.consume_binary_gates.ensures c.in_err-k.was)

pub consume_pairs-requires : goal.consume_pairs-requires
consume_pairs-requires c =
    let r = ready_of _ _ _ 0 _ c.args.p.old c.args.p.fits c.requires (omega arith) in
    let s = ready_next _ _ _ _ _ _ _ _ _ r c.consume_binary_gates.ensures c.in_ok-k.was in
    record { laid = s.laid; more = s.more }

pub returns : goal.returns
returns c = share_done _ _ _ _ _ _ c.consume_binary_gates.ensures _ c.in_ok-k.was _ _ c.consume_pairs.ensures
