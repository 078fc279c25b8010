-- `replay_records`: what its loop keeps.
use Rattle.std.proofs.Common.{◌≤◌}
use Rattle.replay.proofs.files.replay_records.Given as goal

abbrev pub invariant-loop-k : goal.invariant-loop-k
invariant-loop-k g l = l.differ ≤ l.k
