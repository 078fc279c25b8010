-- `put_flip_flops`: what its loop keeps, and each need by its law.
use mathlib.Core.Path.{◌≡◌}
use lib.ListN.{length}
use Rattle.stack_search.specs.Searching.{Flips}
use Rattle.topo_sort.proofs.order.put_flip_flops.Given as goal

abbrev pub invariant-loop-i : goal.invariant-loop-i
invariant-loop-i l = (length l.to ≡ length l.initial.to) × Flips l.from l.to l.c l.i l.at
