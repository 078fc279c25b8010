-- `load_nodes`: what its loop keeps, and each need by its law.
use Prim.Native.Nat.{◌≤◌}
use mathlib.Core.Path.{◌≡◌}
use lib.ListN.{length}
use Rattle.load_body.specs.Loading.{Loading}
use Rattle.load_body.proofs.load_nodes.Given as goal

abbrev pub invariant-loop-v : goal.invariant-loop-v
invariant-loop-v l = (l.v ≤ l.nodes) × (length l.to ≡ length l.initial.to) × Loading l.body l.to l.v l.p
