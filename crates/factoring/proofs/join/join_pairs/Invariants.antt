-- `join_pairs`: what its loop keeps, and each need by its law.
use Prim.Native.Nat.{◌-◌}
use Rattle.factoring.proofs.Joining.{Paired}
use Rattle.factoring.proofs.join.join_pairs.Given as goal

abbrev pub invariant-loop-j : goal.invariant-loop-j
invariant-loop-j l = Paired l.initial.area l.area l.f l.v l.h l.j

abbrev pub decreases-loop-j : goal.decreases-loop-j
decreases-loop-j l = l.h - l.j
