-- `stir_inputs`: what its loop keeps, and each need by its law.
use Prim.Native.Nat.{◌≤◌, ◌<◌, ◌-◌}
use mathlib.Core.Path.{◌≡◌}
use Rattle.tables.specs.Layout.{cell}
use Rattle.same_gate.specs.Listed.{list_base}
use Rattle.lookup.specs.Chains.{stirred}
use Rattle.lookup.proofs.chain.stir_inputs.Given as goal

abbrev pub invariant-loop-j : goal.invariant-loop-j
invariant-loop-j l = (l.j ≤ l.n) × (l.a < 4294967296) × (l.a ≡ stirred l.kind (cell l.to list_base) l.j)

abbrev pub decreases-loop-j : goal.decreases-loop-j
decreases-loop-j l = l.n - l.j
