use Prim.Native.Nat.{zero-le}
use mathlib.Core.Path.{refl}
use borrow.Author.Rules.{rules}
use Rattle.remap.proofs.Moves.{out_none, out_done, out_next}
use Rattle.remap.proofs.remap_outputs.Goals as goal

pub loop-j-init : goal.loop-j-init
loop-j-init c = (zero-le, refl, out_none _ _)

pub loop-j-preserved : goal.loop-j-preserved
loop-j-preserved c = out_next _ _ _ c.requires _ _ c.loop-j.invariant c.loop-j-test.true _ _ _ c.output_at.ensures (search rules) c.put_output.auto.net c.put_output.ensures

pub returns : goal.returns
returns c = out_done _ _ _ c.requires _ _ c.loop-j.invariant c.loop-j-test.false
