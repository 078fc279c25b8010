use Rattle.laws.proofs.Turns.{turn_less}
use Rattle.factoring.proofs.Joining.{pairs_start, pairs_two, pairs_step, pairs_end}
use Rattle.factoring.proofs.join.join_pairs.Goals as goal

pub loop-j-init : goal.loop-j-init
loop-j-init c = pairs_start _ _ _ _

pub join_two-requires : goal.join_two-requires
join_two-requires c = pairs_two _ _ _ _ _ _ c.loop-j.invariant c.loop-j-test.true c.requires.1 c.requires.2 c.requires.0

pub loop-j-smaller : goal.loop-j-smaller
loop-j-smaller c = turn_less c.loop-j-test.true

pub loop-j-preserved : goal.loop-j-preserved
loop-j-preserved c = pairs_step _ _ _ _ _ _ c.loop-j.invariant c.loop-j-test.true c.requires.1 c.requires.2 _ c.join_two.ensures c.join_two.auto.area

pub shape_of-area : goal.shape_of-area
shape_of-area c = c.loop-j.invariant.same

pub returns : goal.returns
returns c = pairs_end _ _ _ _ _ _ c.loop-j.invariant c.loop-j-test.false
