-- Block after block: the loop keeps how many words at the front are zero.
use Rattle.clearing.proofs.Zeros.{Fronts}
use Rattle.clearing.proofs.clear.Given as goal

abbrev pub invariant-loop-k : goal.invariant-loop-k
invariant-loop-k l = Fronts l.initial.area l.area l.k
