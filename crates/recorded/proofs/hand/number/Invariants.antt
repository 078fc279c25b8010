-- `number`: what its loop keeps.
use Rattle.std.proofs.Common.{◌<◌}
use Rattle.recorded.proofs.hand.number.Given as goal

abbrev pub invariant-loop-c : goal.invariant-loop-c
invariant-loop-c l = l.n < 4294967296
