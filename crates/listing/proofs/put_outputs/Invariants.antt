-- `put_outputs`: what its loop keeps.
use Prim.Native.Nat.{◌≤◌}
use Rattle.model.specs.Listing.{numbered, output_line}
use Rattle.tables.specs.Layout.{outputs_of}
use Rattle.text_parts.specs.Putting.{Wrote}
use Rattle.listing.proofs.put_outputs.Given as goal

abbrev pub invariant-loop-o : goal.invariant-loop-o
invariant-loop-o l = (l.o ≤ l.outs) × Wrote l.initial.to (numbered output_line 0 (outputs_of l.from l.o)) l.to
