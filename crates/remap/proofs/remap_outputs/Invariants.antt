-- `remap_outputs`: what its loop keeps, and each need by its law.
use Prim.Native.Nat.{◌≤◌}
use mathlib.Core.Path.{◌≡◌}
use lib.ListN.{length}
use Rattle.tables.specs.Layout.{cell, tr_base}
use Rattle.tables.specs.Building.{put_outputs}
use Rattle.translation.specs.Tables.{outputs_by}
use Rattle.remap.proofs.remap_outputs.Given as goal

abbrev pub invariant-loop-j : goal.invariant-loop-j
invariant-loop-j l = (l.j ≤ l.o) × (length l.to ≡ length l.initial.to) × (l.to ≡ put_outputs l.initial.to (outputs_by l.from (cell l.initial.to tr_base)) l.j)
