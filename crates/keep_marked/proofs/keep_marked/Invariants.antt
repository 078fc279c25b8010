-- `keep_marked`: what its loop keeps, and each need by its law.
use Prim.Native.Nat.{◌≤◌}
use mathlib.Core.Path.{◌≡◌}
use lib.ListN.{length}
use Rattle.keep_marked.specs.Orders.{Keeping}
use Rattle.keep_marked.proofs.keep_marked.Given as goal

abbrev pub invariant-loop-v : goal.invariant-loop-v
invariant-loop-v l = (l.v ≤ l.c.nodes) × (length l.to ≡ length l.initial.to) × Keeping l.from l.to l.c l.v l.k
