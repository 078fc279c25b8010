-- `remap_nodes`: what its loop keeps, and each need by its law.
use Prim.Native.Nat.{◌≤◌}
use mathlib.Core.Path.{◌≡◌}
use lib.ListN.{length}
use Rattle.remap.specs.Remapping.{Moving}
use Rattle.remap.proofs.remap_nodes.Given as goal

abbrev pub invariant-loop-k : goal.invariant-loop-k
invariant-loop-k l = (l.k ≤ l.m) × (length l.to ≡ length l.initial.to) × Moving l.from l.initial.to l.to l.k l.at
