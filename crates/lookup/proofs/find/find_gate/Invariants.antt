-- `find_gate`: what its loop keeps, and what falls.
use Rattle.same_gate.specs.Listed.{listed}
use Rattle.lookup.specs.Lists.{counted}
use Rattle.lookup.proofs.Chains.{Seeking}
use Rattle.lookup.proofs.find.find_gate.Given as goal

abbrev pub invariant-loop-at : goal.invariant-loop-at
invariant-loop-at l = Seeking l.to l.nodes l.h (listed l.to l.g) (counted l.at) l.found

abbrev pub decreases-loop-at : goal.decreases-loop-at
decreases-loop-at l = counted l.at
