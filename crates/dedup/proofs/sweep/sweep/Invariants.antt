-- `sweep`: what its loop keeps, and each need by its law.
use Prim.Native.Nat.{◌≤◌}
use mathlib.Core.Path.{◌≡◌}
use lib.ListN.{length}
use Rattle.placing.specs.Lists.{of_flip_flops}
use Rattle.dedup.specs.States.{Sweeping}
use Rattle.dedup.proofs.sweep.sweep.Given as goal

abbrev pub invariant-loop-v : goal.invariant-loop-v
invariant-loop-v l = Sweeping l.from l.to l.fn.c (of_flip_flops l.by) l.canonical l.v l.built × (l.v ≤ l.fn.c.nodes) × (length l.to ≡ length l.initial.to)
