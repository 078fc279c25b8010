-- The turn that keeps a word.
use Rattle.neighbours.specs.Fronts.{fewer}
use Rattle.neighbours.proofs.Walks.{pass_keep, fewer_keep}
use Rattle.neighbours.proofs.drop_twins.Goals as goal

pub loop-i-preserved : goal.loop-i-preserved
loop-i-preserved g c = pass_keep (fewer g.row.GONE) _ _ _ _ c.loop-i.invariant _ c.loop-i-test.true (fewer_keep _ _ _ c.loop-i-test.true c.has_twin.ensures g.row.GONE c.if-has_twin.false)
