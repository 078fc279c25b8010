-- `best_in`: what its loop keeps, and each need by its law.
use Prim.Native.Nat.{◌-◌, ◌≤◌}
use mathlib.Core.Path.{◌≡◌}
use lib.ListN.{drop}
use Rattle.model.specs.Sharing.{top_in}
use Rattle.pairs.specs.Lists.{list_at, lists_of}
use Rattle.top_pair.specs.Tops.{top_of}
use Rattle.best_pair.proofs.best_in.Given as goal

abbrev pub invariant-loop-j : goal.invariant-loop-j
invariant-loop-j l = (l.j ≤ l.n) × (top_in (lists_of l.area l.g) (top_of l.initial.u) (list_at l.area l.i) ≡ top_in (lists_of l.area l.g) (top_of l.u) (drop l.j (list_at l.area l.i)))

abbrev pub decreases-loop-j : goal.decreases-loop-j
decreases-loop-j l = l.n - l.j
