-- `join_gates`: what its loop keeps, and each need by its law.
use Prim.Native.Nat.{◌-◌}
use Rattle.model.specs.Sharing.{join_gates}
use Rattle.factoring.proofs.Turns.{Walked}
use Rattle.factoring.proofs.Factoring.join_gates.Given as goal

abbrev pub invariant-loop-i : goal.invariant-loop-i
invariant-loop-i l = Walked join_gates l.initial.area l.area l.self.gates l.self.nodes l.k l.self.room l.m l.i

abbrev pub decreases-loop-i : goal.decreases-loop-i
decreases-loop-i l = l.self.gates - l.i
