-- `swap_all`: what its loop keeps, and each need by its law.
use Prim.Native.Nat.{◌-◌, ◌≤◌}
use mathlib.Core.Path.{◌≡◌}
use lib.ListN.{length}
use Rattle.pairs.specs.Lists.{Laid}
use Rattle.replacing.specs.Swapped.{replaced_all}
use Rattle.replacing.proofs.swap_all.Given as goal

abbrev pub invariant-loop-i : goal.invariant-loop-i
invariant-loop-i l = (l.i ≤ l.g) × (length l.area ≡ length l.initial.area) × Laid l.area l.g × (l.area ≡ replaced_all l.initial.area l.i l.a l.b l.z)

abbrev pub decreases-loop-i : goal.decreases-loop-i
decreases-loop-i l = l.g - l.i
