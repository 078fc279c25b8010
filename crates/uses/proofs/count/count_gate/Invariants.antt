-- `count_gate`: what its loop keeps, and each need by its law.
use Prim.Native.Nat.{◌-◌}
use Rattle.uses.proofs.Walks.{Tallied}
use Rattle.uses.proofs.count.count_gate.Given as goal

abbrev pub invariant-loop-j : goal.invariant-loop-j
invariant-loop-j l = Tallied l.from l.initial.to l.to l.v l.j

abbrev pub decreases-loop-j : goal.decreases-loop-j
decreases-loop-j l = l.n - l.j
