-- `count_deps`: what its loop keeps, and each need by its law.
use Prim.Native.Nat.{◌≤◌}
use mathlib.Core.Path.{◌≡◌}
use lib.ListN.{length}
use Rattle.count_deps.specs.Counting.{count_gates}
use Rattle.count_deps.proofs.count_deps.Given as goal

abbrev pub invariant-loop-v : goal.invariant-loop-v
invariant-loop-v l = (l.v ≤ l.fn.c.nodes) × (length l.to ≡ length l.initial.to) × (l.to ≡ count_gates l.from l.initial.to l.v)
