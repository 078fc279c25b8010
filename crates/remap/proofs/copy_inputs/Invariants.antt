-- `copy_inputs`: what its loop keeps, and each need by its law.
use Prim.Native.Nat.{◌≤◌}
use mathlib.Core.Path.{◌≡◌}
use lib.ListN.{length}
use Rattle.tables.specs.Layout.{cell, tr_base}
use Rattle.tables.specs.Building.{put_inputs}
use Rattle.remap.specs.Remapping.{inputs_by}
use Rattle.remap.proofs.copy_inputs.Given as goal

abbrev pub invariant-loop-j : goal.invariant-loop-j
invariant-loop-j l = (l.j ≤ l.n) × (length l.to ≡ length l.initial.to) × (l.to ≡ put_inputs l.initial.to l.at (inputs_by l.from (cell l.initial.to tr_base) l.f) l.j)
