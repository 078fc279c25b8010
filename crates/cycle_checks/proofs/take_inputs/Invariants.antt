-- The loop keeps the words as `inputs_to` has them, and whether a byte passed is above 1.
use Rattle.cycle_checks.proofs.Checking.{Taken}
use Rattle.cycle_checks.proofs.take_inputs.Given as goal

abbrev pub invariant-loop-k : goal.invariant-loop-k
invariant-loop-k l = Taken l.inputs l.initial.to l.to l.above l.k l.i
