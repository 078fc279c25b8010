-- `end`: what its loop keeps.
use Rattle.std.proofs.Common.{◌+◌, ◌*◌, ◌≤◌, length}
use Rattle.recorded.proofs.end.Given as goal

abbrev pub invariant-loop-part : goal.invariant-loop-part
invariant-loop-part l = (l.part-index ≤ length l.parts) × (l.at ≤ 64 + l.part-index * 17179869188)
