-- `put_nodes`: what its loop keeps, and each need by its law.
use Prim.Native.Nat.{◌-◌}
use Rattle.growth.proofs.Growings.{Writing}
use Rattle.growth.proofs.grow.put_nodes.Given as goal

abbrev pub invariant-loop-v : goal.invariant-loop-v
invariant-loop-v l = Writing l.f l.from l.initial.to l.to l.n l.i l.at l.v

abbrev pub decreases-loop-v : goal.decreases-loop-v
decreases-loop-v l = l.n - l.v
