-- `put_inputs`: what its loop keeps.
use Prim.Native.Nat.{◌≤◌}
use Rattle.text_parts.specs.Putting.{Wrote}
use Rattle.listing.specs.Fields.{inputs_text}
use Rattle.listing.proofs.put_inputs.Given as goal

abbrev pub invariant-loop-j : goal.invariant-loop-j
invariant-loop-j l = (l.j ≤ l.n) × Wrote l.initial.to (inputs_text l.from l.first l.j) l.to
