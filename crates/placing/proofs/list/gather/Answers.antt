use Prim.Native.Nat.{zero-le}
use mathlib.Core.Path.{refl}
use Rattle.placing.proofs.Fills.{gather_none, gather_next, gather_end}
use Rattle.placing.proofs.list.gather.Goals as goal

pub loop-j-init : goal.loop-j-init
loop-j-init c = (zero-le, refl, gather_none _ _ _ _)

pub loop-j-preserved : goal.loop-j-preserved
loop-j-preserved c = gather_next _ _ _ _ _ c.requires _ _ c.loop-j.invariant c.loop-j-test.true _ _ _ c.input_at.ensures c.looked_up-s.ensures c.put_word.auto.area c.put_word.ensures

pub returns : goal.returns
returns c = gather_end _ _ _ _ _ c.requires _ _ c.loop-j.invariant c.loop-j-test.false
