-- The loop keeps that no node passed meets 9.
use Prim.Native.Nat.{◌-◌}
use Rattle.repeats.proofs.Searched.{Clear}
use Rattle.repeats.proofs.any_repeats.Given as goal

abbrev pub invariant-loop-v : goal.invariant-loop-v
invariant-loop-v l = Clear l.from l.n l.v

abbrev pub decreases-loop-v : goal.decreases-loop-v
decreases-loop-v l = l.n - l.v
