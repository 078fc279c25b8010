-- `start`: what its loop keeps, and each need by its law.
use Prim.Native.Nat.{◌≤◌}
use mathlib.Core.Path.{◌≡◌}
use lib.ListN.{length}
use Rattle.stack_start.specs.Starting.{Started}
use Rattle.stack_start.proofs.start.Given as goal

abbrev pub invariant-loop-v : goal.invariant-loop-v
invariant-loop-v l = (l.v ≤ l.c.nodes) × (length l.to ≡ length l.initial.to) × Started l.from l.to l.c l.v l.sp
