-- `visit_all`: what its loop keeps, and each need by its law.
use mathlib.Core.Path.{◌≡◌}
use lib.ListN.{length}
use Rattle.stack_search.specs.Searching.{Live, left_of}
use Rattle.stack_search.proofs.visit_all.Given as goal

abbrev pub invariant-loop-t : goal.invariant-loop-t
invariant-loop-t l = (length l.to ≡ length l.initial.to) × Live l.from l.to l.c l.t.sp l.t.pos

abbrev pub decreases-loop-t : goal.decreases-loop-t
decreases-loop-t l = left_of l.from l.to l.c l.t.sp
