-- `count_uses`: what its loop keeps, and each need by its law.
use Prim.Native.Nat.{◌-◌}
use Rattle.uses.proofs.Walks.{Tallies}
use Rattle.uses.proofs.count.count_uses.Given as goal

abbrev pub invariant-loop-v : goal.invariant-loop-v
invariant-loop-v l = Tallies l.f l.from l.initial.to l.to l.n l.v

abbrev pub decreases-loop-v : goal.decreases-loop-v
decreases-loop-v l = l.n - l.v
