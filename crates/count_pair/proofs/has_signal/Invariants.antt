-- `has_signal`: what its loop keeps, and each need by its law.
use Prim.Native.Nat.{◌-◌, ◌≤◌}
use mathlib.Core.Path.{◌≡◌}
use lib.ListN.{drop}
use Rattle.model.specs.Network.{has}
use Rattle.pairs.specs.Lists.{list_at}
use Rattle.count_pair.proofs.has_signal.Given as goal

abbrev pub invariant-loop-j : goal.invariant-loop-j
invariant-loop-j l = (l.j ≤ l.n) × (has l.x (drop l.j (list_at l.area l.i)) ≡ has l.x (list_at l.area l.i))

abbrev pub decreases-loop-j : goal.decreases-loop-j
decreases-loop-j l = l.n - l.j
