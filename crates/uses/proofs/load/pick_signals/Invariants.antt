-- `pick_signals`: what its loop keeps, and each need by its law.
use Prim.Native.Nat.{◌-◌}
use Rattle.uses.proofs.Picking.{Picking}
use Rattle.uses.proofs.load.pick_signals.Given as goal

abbrev pub invariant-loop-j : goal.invariant-loop-j
invariant-loop-j l = Picking l.from l.initial.to l.to l.v l.at l.once l.w l.j

abbrev pub decreases-loop-j : goal.decreases-loop-j
decreases-loop-j l = l.n - l.j
