-- `join_gate`: what its loop keeps, and each need by its law.
use Prim.Native.Nat.{◌-◌}
use Rattle.factoring.proofs.Rounds.{Rounded}
use Rattle.factoring.proofs.Factoring.join_gate.Given as goal

abbrev pub invariant-loop-self : goal.invariant-loop-self
invariant-loop-self l = Rounded l.initial.area l.area l.self.gates l.self.nodes l.k l.self.room l.i l.t

abbrev pub decreases-loop-self : goal.decreases-loop-self
decreases-loop-self l = l.self.room - l.t
