use native.Mathlib.Omega.{arith}
use borrow.Author.Rules.{rules}
use Rattle.uses.proofs.Walks.{gate_step, gate_counts}
use Rattle.uses.proofs.count.count_gate.Goals as goal

pub loop-j-preserved : goal.loop-j-preserved
loop-j-preserved c = gate_step _ _ _ _ _ c.loop-j.invariant _ _ _ _ c.first_at-f.ensures c.count_at-n.ensures (omega arith) c.input_at.ensures c.note_use.ensures (search rules)

pub loop-j-init : goal.loop-j-init
loop-j-init c = search (rules, gate_counts)

pub returns : goal.returns
returns c = search (rules, gate_counts)
