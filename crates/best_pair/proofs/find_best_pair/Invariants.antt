-- `find_best_pair`: what its loop keeps, and each need by its law.
use Prim.Native.Nat.{◌-◌, ◌≤◌}
use mathlib.Core.Path.{◌≡◌}
use lib.ListN.{drop}
use Rattle.model.specs.Sharing.{find_best_pair, top_over}
use Rattle.pairs.specs.Lists.{lists_of}
use Rattle.top_pair.specs.Tops.{top_of}
use Rattle.best_pair.proofs.find_best_pair.Given as goal

abbrev pub invariant-loop-i : goal.invariant-loop-i
invariant-loop-i l = (l.i ≤ l.g) × (find_best_pair (lists_of l.area l.g) ≡ top_over (lists_of l.area l.g) (top_of l.u) (drop l.i (lists_of l.area l.g)))

abbrev pub decreases-loop-i : goal.decreases-loop-i
decreases-loop-i l = l.g - l.i
