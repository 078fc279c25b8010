-- `push_all`: the row that is pushed, by law.
use mathlib.Core.Path.{◌∙◌}
use native.Mathlib.Omega.{arith}
use Rattle.cleanup.proofs.Pushes.{row_end, row_told}
use Rattle.cleanup.proofs.push_all.Goals as goal

pub loop-j-preserved : goal.loop-j-preserved
loop-j-preserved g c = (
  c.push_signal-top.auto.to ∙ c.loop-j.invariant.0,
  omega (arith, c.push_signal-top.ensures.top, c.loop-j.invariant.1, c.loop-j-test.true),
  λ h t. row_told _ h _ _ _ _ _ _ _ _ _ (c.loop-j.invariant.2 h t) c.loop-j-test.true t c.signal.ensures c.push_signal-top.ensures,
)

pub returns : goal.returns
returns g c = λ h t. row_end h _ _ _ _ _ _ (c.loop-j.invariant.2 h t) c.loop-j-test.false
