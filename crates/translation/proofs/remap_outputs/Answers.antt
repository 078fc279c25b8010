use Prim.Native.Nat.{zero-le}
use mathlib.Core.Path.{refl}
use Rattle.laws.proofs.Turns.{turn_less}
use Rattle.translation.proofs.Translated.{outs_none, outs_long, outs_source, outs_room, outs_next, outs_end}
use Rattle.translation.proofs.remap_outputs.Goals as goal

pub loop-o-init : goal.loop-o-init
loop-o-init c = (zero-le, refl, outs_none c.args.from.now _)

pub output_at-requires : goal.output_at-requires
output_at-requires c = outs_source _ _ _ c.requires _ _ c.loop-o.invariant c.loop-o-test.true

pub translate-s-requires : goal.translate-s-requires
translate-s-requires c = outs_long _ _ _ c.requires _ _ c.loop-o.invariant

pub put_output-requires : goal.put_output-requires
put_output-requires c = outs_room _ _ _ c.requires _ _ c.loop-o.invariant c.loop-o-test.true

pub loop-o-smaller : goal.loop-o-smaller
loop-o-smaller c = turn_less c.loop-o-test.true

pub loop-o-preserved : goal.loop-o-preserved
loop-o-preserved c = outs_next _ _ _ c.requires _ _ c.loop-o.invariant c.loop-o-test.true _ _ _ c.output_at.ensures c.translate-s.ensures c.put_output.auto.net c.put_output.ensures

pub shape_of-to : goal.shape_of-to
shape_of-to c = c.loop-o.invariant.1

pub returns : goal.returns
returns c = outs_end _ _ _ c.requires _ _ c.loop-o.invariant c.loop-o-test.false
