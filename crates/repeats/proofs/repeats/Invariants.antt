-- The loops keep that no repeat was passed; what leaves both is one.
use Prim.Native.Nat.{◌-◌}
use Rattle.repeats.proofs.Listed.{Inner, Outer}
use Rattle.repeats.proofs.repeats.Given as goal

abbrev pub invariant-loop-j : goal.invariant-loop-j
invariant-loop-j l = Inner l.from l.v l.n l.i l.x l.j l.found

abbrev pub decreases-loop-j : goal.decreases-loop-j
decreases-loop-j l = l.n - l.j

abbrev pub invariant-outer : goal.invariant-outer
invariant-outer l = Outer l.from l.v l.n l.i l.found

abbrev pub decreases-outer : goal.decreases-outer
decreases-outer l = l.n - l.i
