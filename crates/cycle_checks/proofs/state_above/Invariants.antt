-- The loop keeps that no flip-flop's byte passed is above 1.
use Rattle.cycle_checks.specs.Checks.{cell_above}
use Rattle.cycle_checks.proofs.Checking.{None}
use Rattle.cycle_checks.proofs.state_above.Given as goal

abbrev pub invariant-loop-v : goal.invariant-loop-v
invariant-loop-v l = None (cell_above l.from l.state) l.v l.n
