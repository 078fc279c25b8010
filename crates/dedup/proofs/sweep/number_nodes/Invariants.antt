-- `number_nodes`: what its loop keeps, and each need by its law.
use Prim.Native.Nat.{◌≤◌}
use mathlib.Core.Path.{◌≡◌}
use lib.ListN.{length}
use Rattle.dedup.specs.States.{numbered}
use Rattle.dedup.proofs.sweep.number_nodes.Given as goal

abbrev pub invariant-loop-v : goal.invariant-loop-v
invariant-loop-v l = (l.v ≤ l.n) × (length l.to ≡ length l.initial.to) × (l.to ≡ numbered l.initial.to l.v)
