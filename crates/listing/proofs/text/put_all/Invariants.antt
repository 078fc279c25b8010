-- `put_all`: what its loop keeps.
use Prim.Native.Nat.{◌≤◌}
use lib.ListN.{length, take}
use Rattle.text_parts.specs.Putting.{Wrote}
use Rattle.listing.proofs.text.put_all.Given as goal

abbrev pub invariant-loop-b : goal.invariant-loop-b
invariant-loop-b l = (l.b-index ≤ length l.text) × Wrote l.initial.to (take l.b-index l.text) l.to
