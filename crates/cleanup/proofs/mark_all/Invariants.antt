-- `mark_all`: what its loop keeps, and each need by its law.
use mathlib.Core.Path.{◌≡◌}
use lib.ListN.{length}
use Rattle.cleanup.specs.Marking.{Walking, left_of}
use Rattle.cleanup.proofs.mark_all.Given as goal

abbrev pub invariant-loop-sp : goal.invariant-loop-sp
invariant-loop-sp l = (length l.to ≡ length l.initial.to) × Walking l.from l.to l.c l.sp

abbrev pub decreases-loop-sp : goal.decreases-loop-sp
decreases-loop-sp l = left_of l.from l.to l.c l.sp
