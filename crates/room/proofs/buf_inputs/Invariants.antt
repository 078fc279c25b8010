-- `buf_inputs`: what its loop keeps, and each need by its law.
use Prim.Native.Nat.{◌-◌}
use Rattle.room.proofs.Rooms.{Summing}
use Rattle.room.proofs.buf_inputs.Given as goal

abbrev pub invariant-loop-v : goal.invariant-loop-v
invariant-loop-v l = Summing l.f l.from l.n l.t l.v

abbrev pub decreases-loop-v : goal.decreases-loop-v
decreases-loop-v l = l.n - l.v
