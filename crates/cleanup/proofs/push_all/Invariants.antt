-- `push_all`: what its loop keeps.
use Prim.Native.Nat.{◌≤◌, ◌+◌, ℕ}
use mathlib.Core.Path.{◌≡◌}
use lib.ListN.{length}
use Rattle.cleanup.specs.Marking.{Tells, Pushing}
use Rattle.cleanup.proofs.push_all.Given as goal

abbrev pub invariant-loop-j : goal.invariant-loop-j
invariant-loop-j g l = (length l.to ≡ length l.initial.to) × (l.top + l.j ≤ l.sp + l.n) × ((h : ℕ → ℕ) → Tells (goal.F-post g l.signal) h l.n → Pushing h l.initial.to l.n l.sp l.to l.top l.j)
