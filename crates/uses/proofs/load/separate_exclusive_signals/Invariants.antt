-- `separate_exclusive_signals`: what its loop keeps, and each need by its law.
use Prim.Native.Nat.{◌-◌}
use Rattle.uses.proofs.Loads.{Loading}
use Rattle.uses.proofs.load.separate_exclusive_signals.Given as goal

abbrev pub invariant-loop-v : goal.invariant-loop-v
invariant-loop-v l = Loading l.f l.from l.initial.to l.to l.n l.v l.i l.at

abbrev pub decreases-loop-v : goal.decreases-loop-v
decreases-loop-v l = l.n - l.v
