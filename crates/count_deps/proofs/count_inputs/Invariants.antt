-- `count_inputs`: what its loop keeps, and each need by its law.
use Prim.Native.Nat.{◌≤◌}
use mathlib.Core.Path.{◌≡◌}
use lib.ListN.{length}
use Rattle.count_deps.specs.Counting.{count_ins}
use Rattle.count_deps.proofs.count_inputs.Given as goal

abbrev pub invariant-loop-j : goal.invariant-loop-j
invariant-loop-j l = (l.j ≤ l.n) × (length l.to ≡ length l.initial.to) × (l.to ≡ count_ins l.from l.f l.initial.to l.j)
