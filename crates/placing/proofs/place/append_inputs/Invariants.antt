-- `append_inputs`: what its loop keeps, and each need by its law.
use Prim.Native.Nat.{◌≤◌}
use mathlib.Core.Path.{◌≡◌}
use lib.ListN.{length}
use Rattle.tables.specs.Layout.{cell}
use Rattle.tables.specs.Building.{put_inputs}
use Rattle.same_gate.specs.Listed.{list_base}
use Rattle.placing.proofs.place.append_inputs.Given as goal

abbrev pub invariant-loop-j : goal.invariant-loop-j
invariant-loop-j l = (l.j ≤ l.n) × (length l.to ≡ length l.initial.to) × (l.to ≡ put_inputs l.initial.to l.at (cell l.initial.to list_base) l.j)
