-- `best_with`: what its loop keeps, and each need by its law.
use Prim.Native.Nat.{◌-◌, ◌≤◌}
use mathlib.Core.Path.{◌≡◌}
use lib.ListN.{drop}
use Rattle.model.specs.Sharing.{top_with}
use Rattle.pairs.specs.Lists.{list_at, lists_of}
use Rattle.best_pair.specs.Search.{in_top}
use Rattle.top_pair.specs.Tops.{top_of}
use Rattle.best_pair.proofs.best_with.Given as goal

abbrev pub invariant-loop-k : goal.invariant-loop-k
invariant-loop-k l = (l.k ≤ l.n) × (in_top (lists_of l.area l.g) (top_of l.initial.u) (list_at l.area l.i) l.j ≡ top_with (lists_of l.area l.g) (top_of l.u) l.a (drop l.k (list_at l.area l.i)))

abbrev pub decreases-loop-k : goal.decreases-loop-k
decreases-loop-k l = l.n - l.k
