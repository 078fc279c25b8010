-- The inputs passed are all b.
use Rattle.signal_values.proofs.Deciding.{Alike}
use Rattle.signal_values.proofs.gate_inputs.Inputs.all_are.Given as goal

abbrev pub invariant-loop-j : goal.invariant-loop-j
invariant-loop-j l = Alike l.self.from.now l.self.to.now l.self.first l.b l.j l.self.count
