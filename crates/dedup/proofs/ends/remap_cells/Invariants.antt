-- `remap_cells`: what its loop keeps, and each need by its law.
use Prim.Native.Nat.{◌≤◌}
use mathlib.Core.Path.{◌≡◌}
use lib.ListN.{length}
use Rattle.dedup.specs.States.{turned}
use Rattle.dedup.proofs.ends.remap_cells.Given as goal

abbrev pub invariant-loop-k : goal.invariant-loop-k
invariant-loop-k l = (l.k ≤ l.n) × (length l.to ≡ length l.initial.to) × (l.to ≡ turned l.initial.to l.k)
