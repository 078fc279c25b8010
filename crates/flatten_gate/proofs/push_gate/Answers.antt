-- `push_gate`: each need by its law.
use Rattle.flatten_gate.proofs.Gated.{push_gate_done, push_gate_full}
use native.Mathlib.Omega.{arith}
use borrow.Author.Rules.{rules}
use Rattle.flatten_gate.proofs.push_gate.Goals as goal

pub returns-then-at-n : goal.returns-then-at-n
returns-then-at-n c = push_gate_full _ _ _ _ c.requires _ c.count_at-n.ensures (omega arith)

pub returns : goal.returns
returns c = search (rules, push_gate_done)
