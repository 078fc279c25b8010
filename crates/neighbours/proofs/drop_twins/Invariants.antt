-- `drop_twins`: what its loop keeps.
use Prim.Native.Nat.{◌-◌}
use lib.ListN.{length}
use Rattle.neighbours.specs.Fronts.{fewer}
use Rattle.neighbours.proofs.Walks.{Pass}
use Rattle.neighbours.proofs.drop_twins.Given as goal

abbrev pub invariant-loop-i : goal.invariant-loop-i
invariant-loop-i g l = Pass (fewer g.row.GONE) l.initial.list l.list l.k l.i

abbrev pub decreases-loop-i : goal.decreases-loop-i
decreases-loop-i g l = length l.list - l.i
