use Prim.Native.Nat.{zero-le}
use mathlib.Core.Path.{sym, ◌∙◌}
use Rattle.laws.proofs.Turns.{turn_up}
use Rattle.same_gate.proofs.Searches.{same_none, same_more, same_differ, same_end}
use Rattle.same_gate.proofs.same_inputs.Goals as goal

pub loop-j-init : goal.loop-j-init
loop-j-init c = (zero-le, same_none _ _)

pub returns-then-word-input_at : goal.returns-then-word-input_at
returns-then-word-input_at c = same_differ _ _ _ _ c.loop-j-test.true (λ e. c.if-word-input_at.true (c.word.ensures ∙ e ∙ sym c.input_at.ensures))

pub loop-j-preserved : goal.loop-j-preserved
loop-j-preserved c = (turn_up c.loop-j-test.true, same_more _ _ _ c.loop-j.invariant.1 (sym c.word.ensures ∙ c.if-word-input_at.false ∙ c.input_at.ensures))

pub returns : goal.returns
returns c = same_end _ _ _ c.requires _ c.loop-j.invariant.0 c.loop-j-test.false c.loop-j.invariant.1
