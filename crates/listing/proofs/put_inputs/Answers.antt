-- `put_inputs`: a space and a signal more at each turn.
use native.Mathlib.Omega.{arith}
use Rattle.listing.proofs.Lines.{inputs_none, inputs_next}
use Rattle.listing.proofs.put_inputs.Goals as goal

pub loop-j-init : goal.loop-j-init
loop-j-init c = (omega arith, inputs_none _ _ _)

pub loop-j-preserved : goal.loop-j-preserved
loop-j-preserved c = (omega arith, inputs_next _ _ _ _ _ c.input_at-a.ensures c.loop-j.invariant.1 c.put.ensures c.put_signal.ensures)
