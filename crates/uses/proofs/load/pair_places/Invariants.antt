-- `pair_places`: what its loop keeps, and each need by its law.
use Prim.Native.Nat.{◌-◌}
use Rattle.uses.proofs.Picking.{Summed}
use Rattle.uses.proofs.load.pair_places.Given as goal

abbrev pub invariant-loop-i : goal.invariant-loop-i
invariant-loop-i l = Summed l.to l.g l.t l.i

abbrev pub decreases-loop-i : goal.decreases-loop-i
decreases-loop-i l = l.g - l.i
