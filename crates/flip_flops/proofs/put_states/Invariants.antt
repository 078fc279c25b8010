-- The buffer is filled from the front; the byte of a node that is no flip-flop stays.
use Rattle.flip_flops.specs.Storing.{new_byte}
use Rattle.flip_flops.proofs.Filling.{Filled}
use Rattle.flip_flops.proofs.put_states.Given as goal

abbrev pub invariant-loop-v : goal.invariant-loop-v
invariant-loop-v l = Filled (new_byte l.from l.to l.initial.state) l.initial.state l.state l.v l.n
