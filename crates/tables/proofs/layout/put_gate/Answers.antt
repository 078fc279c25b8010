-- `put_gate`: each need by its law.
use lib.ListN.{length-set}
use native.Mathlib.Omega.{arith}
use Rattle.tables.proofs.Places.{gate_put}
use Rattle.tables.proofs.layout.put_gate.Goals as goal

pub bounds-net-j : goal.bounds-net-j
bounds-net-j c = simp length-set (omega arith)

pub bounds-net-k : goal.bounds-net-k
bounds-net-k c = simp length-set (omega arith)

pub returns : goal.returns
returns c = gate_put _ _ _ _ _ _ _ _ c.kind_ix-i.ensures c.first_ix-j.ensures c.count_ix-k.ensures
