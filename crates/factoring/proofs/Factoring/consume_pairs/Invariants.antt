-- `consume_pairs`: what its loop keeps, and each need by its law.
use Prim.Native.Nat.{◌-◌}
use Rattle.factoring.proofs.Turns.{Greedy}
use Rattle.factoring.proofs.Factoring.consume_pairs.Given as goal

abbrev pub invariant-loop-a : goal.invariant-loop-a
invariant-loop-a l = Greedy l.initial.area l.area l.self.gates l.self.nodes l.k l.self.room l.m

abbrev pub decreases-loop-a : goal.decreases-loop-a
decreases-loop-a l = l.self.room - l.m
