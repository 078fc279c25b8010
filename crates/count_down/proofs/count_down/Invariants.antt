-- `count_down`: what its loop keeps, and each need by its law.
use Prim.Native.Nat.{◌≤◌}
use mathlib.Core.Path.{◌≡◌}
use lib.ListN.{length}
use Rattle.count_down.specs.Lowering.{Lowered, down_ins}
use Rattle.count_down.proofs.count_down.Given as goal

abbrev pub invariant-loop-j : goal.invariant-loop-j
invariant-loop-j l = (l.j ≤ l.n) × (length l.to ≡ length l.initial.to) × Lowered (down_ins l.from l.f l.initial.to l.sp l.j) l.to l.top
