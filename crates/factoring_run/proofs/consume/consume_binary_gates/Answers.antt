-- `consume_binary_gates`: each need by its law.
use native.Mathlib.Omega.{arith}
use Rattle.factoring.proofs.Turns.{ready_fewer, ready_next, ready_of, gates_full, gates_done}
use Rattle.factoring_run.proofs.consume.consume_binary_gates.Goals as goal

pub returns-in_err-t : goal.returns-in_err-t
returns-in_err-t c = rw c.from_residual.ensures (gates_full _ _ _ _ _ _ _ c.consume_twos.ensures c.in_err-t.was)

pub consume_twos-requires-2 : goal.consume_twos-requires-2
consume_twos-requires-2 c =
    let r = ready_of _ _ _ _ _ c.args.p.old c.args.p.fits c.requires.laid c.requires.more in
    let s = ready_fewer _ _ _ _ _ _ (omega arith) (ready_next _ _ _ _ _ _ _ _ _ r c.consume_twos.ensures c.in_ok-t.was) in
    record { laid = s.laid; more = s.more }

pub returns : goal.returns
returns c = gates_done _ _ _ _ _ _ _ c.consume_twos.ensures _ c.in_ok-t.was _ _ c.consume_twos-2.ensures
