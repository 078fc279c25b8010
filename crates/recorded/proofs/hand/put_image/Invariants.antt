-- `put_image`: what its loop keeps.
use Rattle.std.proofs.Common.{◌≡◌, ◌≤◌, length}
use Rattle.recorded.proofs.hand.put_image.Given as goal

abbrev pub invariant-loop-word : goal.invariant-loop-word
invariant-loop-word l = (64 ≤ l.at) × (l.at ≤ length l.dst) × (length l.dst ≡ length l.initial.dst)
