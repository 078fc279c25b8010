-- `same_inputs`: what its loop keeps, and each need by its law.
use Prim.Native.Nat.{◌≤◌, ◌-◌}
use mathlib.Core.Path.{◌≡◌}
use mathlib.Core.Bool.{true}
use Rattle.same_gate.specs.Listed.{same_ins}
use Rattle.same_gate.proofs.same_inputs.Given as goal

abbrev pub invariant-loop-j : goal.invariant-loop-j
invariant-loop-j l = (l.j ≤ l.n) × (same_ins l.to l.first l.j ≡ true)

abbrev pub decreases-loop-j : goal.decreases-loop-j
decreases-loop-j l = l.n - l.j
