use mathlib.Core.Path.{refl, ◌∙◌}
use Rattle.cleanup.proofs.Walks.{walk_table, walk_outs, walk_start, walk_end}
use Rattle.cleanup.proofs.mark_all.Goals as goal

pub clear_table-requires : goal.clear_table-requires
clear_table-requires c = walk_table _ _ _ _ c.requires refl

pub push_outputs-sp-requires : goal.push_outputs-sp-requires
push_outputs-sp-requires c = walk_outs _ _ _ _ c.requires c.clear_table.ensures _ refl

pub loop-sp-init : goal.loop-sp-init
loop-sp-init c = (refl, walk_start _ _ _ _ c.requires c.clear_table.ensures _ _ c.push_outputs-sp.ensures)

pub mark-sp-requires : goal.mark-sp-requires
mark-sp-requires c = (c.loop-sp.invariant.1, c.loop-sp-test.true)

pub loop-sp-smaller : goal.loop-sp-smaller
loop-sp-smaller c = c.mark-sp.ensures.less

pub loop-sp-preserved : goal.loop-sp-preserved
loop-sp-preserved c = (c.mark-sp.auto.to ∙ c.loop-sp.invariant.0, c.mark-sp.ensures.live)

pub shape_of-to : goal.shape_of-to
shape_of-to c = c.loop-sp.invariant.0 ∙ c.push_outputs-sp.auto.to ∙ c.clear_table.auto.to

pub returns : goal.returns
returns c = walk_end _ _ _ _ c.loop-sp.invariant.1 c.loop-sp-test.false
