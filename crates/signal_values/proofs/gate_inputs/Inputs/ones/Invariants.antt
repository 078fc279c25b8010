-- The loop keeps the number of ones among the inputs passed.
use Rattle.signal_values.proofs.Turns.{Ones}
use Rattle.signal_values.proofs.gate_inputs.Inputs.ones.Given as goal

abbrev pub invariant-loop-j : goal.invariant-loop-j
invariant-loop-j l = Ones l.self.from.now l.self.to.now l.self.first l.n l.j l.self.count
