use Rattle.write_image.proofs.Writes.{mapping_none, mapping_next, mapping_all}
use Rattle.write_image.proofs.write_mapping.Goals as goal

pub loop-i-init : goal.loop-i-init
loop-i-init c = mapping_none _ _ _ c.requires

pub loop-i-preserved : goal.loop-i-preserved
loop-i-preserved c = mapping_next _ _ _ c.requires _ _ c.loop-i.invariant c.loop-i-test.true _ c.word.ensures

pub returns : goal.returns
returns c = mapping_all _ _ _ c.requires _ _ c.loop-i.invariant c.loop-i.auto.i-end c.loop-i-test.false
