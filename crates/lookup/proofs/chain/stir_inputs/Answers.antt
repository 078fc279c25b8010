use mathlib.Core.Path.{refl}
use Rattle.lookup.proofs.Chains.{stir_none, stir_next, stir_end}
use Rattle.lookup.proofs.chain.stir_inputs.Goals as goal

pub loop-j-init : goal.loop-j-init
loop-j-init c = stir_none _ _ _ c.requires _ c.ranges.kind.fits refl

pub loop-j-preserved : goal.loop-j-preserved
loop-j-preserved c = stir_next _ _ _ c.requires _ _ c.loop-j.invariant c.loop-j-test.true _ _ c.word.ensures c.stir-a.ensures

pub returns : goal.returns
returns c = stir_end _ _ _ c.requires _ _ c.loop-j.invariant c.loop-j-test.false
