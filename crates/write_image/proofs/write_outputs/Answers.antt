use Prim.Native.Nat.{zero-le}
use mathlib.Core.Path.{refl}
use Rattle.write_image.proofs.Writes.{outs_none, outs_next}
use Rattle.write_image.proofs.write_outputs.Goals as goal

pub loop-j-init : goal.loop-j-init
loop-j-init c = (zero-le, refl, outs_none _ _ _ _ c.requires)

pub loop-j-preserved : goal.loop-j-preserved
loop-j-preserved c = outs_next _ _ _ _ c.requires _ _ c.loop-j.invariant c.loop-j-test.true _ c.output_at.ensures _ c.put_word.auto.dst c.put_word.ensures
