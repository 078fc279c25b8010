-- `remap_outputs`: what its loop keeps.
use Prim.Native.Nat.{◌≤◌}
use mathlib.Core.Path.{◌≡◌}
use lib.ListN.{length}
use Rattle.tables.specs.Building.{put_outputs}
use Rattle.translation.specs.Tables.{tr_of, outputs_by}
use Rattle.translation.proofs.remap_outputs.Given as goal

abbrev pub invariant-loop-o : goal.invariant-loop-o
invariant-loop-o l = (l.o ≤ l.n) × (length l.to ≡ length l.initial.to) × (l.to ≡ put_outputs l.initial.to (outputs_by l.from (tr_of l.initial.to)) l.o)
