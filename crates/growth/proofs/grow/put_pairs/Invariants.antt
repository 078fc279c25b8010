-- `put_pairs`: what its loop keeps, and each need by its law.
use Prim.Native.Nat.{◌-◌}
use Rattle.growth.proofs.Wholes.{Pairing}
use Rattle.growth.proofs.grow.put_pairs.Given as goal

abbrev pub invariant-loop-j : goal.invariant-loop-j
invariant-loop-j l = Pairing l.f l.initial.to l.to l.n l.k l.at l.j

abbrev pub decreases-loop-j : goal.decreases-loop-j
decreases-loop-j l = l.k - l.j
