-- `give_back`: what its loop keeps, and each need by its law.
use Prim.Native.Nat.{◌-◌}
use Rattle.give_back.proofs.Givings.{Giving}
use Rattle.give_back.proofs.give_back.Given as goal

abbrev pub invariant-loop-v : goal.invariant-loop-v
invariant-loop-v l = Giving l.f l.from l.initial.to l.to l.n l.v l.i

abbrev pub decreases-loop-v : goal.decreases-loop-v
decreases-loop-v l = l.n - l.v
