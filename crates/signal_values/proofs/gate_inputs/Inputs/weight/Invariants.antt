-- From the last input to the first: the loop keeps the weight of the inputs passed.
use Rattle.signal_values.proofs.Turns.{Weight}
use Rattle.signal_values.proofs.gate_inputs.Inputs.weight.Given as goal

abbrev pub invariant-loop-j : goal.invariant-loop-j
invariant-loop-j l = Weight l.self.from.now l.self.to.now l.self.first l.w l.j l.self.count
