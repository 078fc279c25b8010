use Prim.Native.Nat.{zero-le}
use mathlib.Core.Path.{refl}
use borrow.Author.Rules.{rules}
use Rattle.remap.proofs.Moves.{copy_none, copy_done, copy_next}
use Rattle.remap.proofs.copy_inputs.Goals as goal

pub loop-j-init : goal.loop-j-init
loop-j-init c = (zero-le, refl, copy_none _ _ _)

pub loop-j-preserved : goal.loop-j-preserved
loop-j-preserved c = copy_next _ _ _ _ _ c.requires _ _ c.loop-j.invariant c.loop-j-test.true _ _ _ c.input_at.ensures (search rules) c.put_input.auto.net c.put_input.ensures

pub returns : goal.returns
returns c = copy_done _ _ _ _ _ c.requires _ _ c.loop-j.invariant c.loop-j-test.false
