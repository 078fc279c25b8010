-- `count_pair`: what its loop keeps, and each need by its law.
use Prim.Native.Nat.{◌+◌, ◌-◌, ◌≤◌}
use mathlib.Core.Path.{◌≡◌}
use lib.ListN.{drop}
use Rattle.model.specs.Sharing.{together}
use Rattle.pairs.specs.Lists.{lists_of}
use Rattle.count_pair.proofs.count_pair.Given as goal

abbrev pub invariant-loop-i : goal.invariant-loop-i
invariant-loop-i l = (l.i ≤ l.g) × (l.n ≤ l.i) × (l.n + together l.a l.b (drop l.i (lists_of l.area l.g)) ≡ together l.a l.b (lists_of l.area l.g))

abbrev pub decreases-loop-i : goal.decreases-loop-i
decreases-loop-i l = l.g - l.i
