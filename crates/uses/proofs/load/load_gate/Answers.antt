-- `load_gate`: each need by its law.
use borrow.Author.Rules.{rules}
use Rattle.uses.proofs.Loads.{gate_loads}
use Rattle.uses.proofs.load.load_gate.Goals as goal

pub pick_signals-w-requires : goal.pick_signals-w-requires
pick_signals-w-requires c = search (rules, gate_loads)

pub overflow_cast-w : goal.overflow_cast-w
overflow_cast-w c = search (rules, gate_loads)

pub returns : goal.returns
returns c = search (rules, gate_loads)
