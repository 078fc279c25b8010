-- `flatten_nodes`: what its loop keeps, and each need by its law.
use Rattle.flatten.proofs.Wholes.{Flattened}
use Rattle.flatten.proofs.flatten_nodes.Given as goal

abbrev pub invariant-loop-v : goal.invariant-loop-v
invariant-loop-v l = Flattened l.from l.initial.to l.to l.fn.counts l.limit l.at l.v
