-- `gather`: what its loop keeps, and each need by its law.
use Prim.Native.Nat.{◌≤◌}
use mathlib.Core.Path.{◌≡◌}
use lib.ListN.{length}
use Rattle.placing.specs.Lists.{of_flip_flops, gathered}
use Rattle.placing.proofs.list.gather.Given as goal

abbrev pub invariant-loop-j : goal.invariant-loop-j
invariant-loop-j l = (l.j ≤ l.n) × (length l.to ≡ length l.initial.to) × (l.to ≡ gathered l.from l.initial.to (of_flip_flops l.by) l.first l.j)
