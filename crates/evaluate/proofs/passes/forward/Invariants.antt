-- The loop keeps the values as `forward_to` has them.
use Rattle.evaluate.proofs.Turns.{Forwarded}
use Rattle.evaluate.proofs.passes.forward.Given as goal

abbrev pub invariant-loop-v : goal.invariant-loop-v
invariant-loop-v l = Forwarded l.from l.state l.initial.to l.to l.v l.n
