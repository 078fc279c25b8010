-- `put_pair`: each need by its law.
use mathlib.Core.Path.{◌∙◌}
use Rattle.pairs.proofs.Places.{pair_put, pair_start}
use Rattle.pairs.proofs.lists.put_pair.Goals as goal

pub put_start-requires : goal.put_start-requires
put_start-requires c = c.requires

pub put_left-requires : goal.put_left-requires
put_left-requires c = pair_start _ _ _ _ c.put_start.ensures c.requires

pub shape_of-area : goal.shape_of-area
shape_of-area c = c.put_left.auto.area ∙ c.put_start.auto.area

pub returns : goal.returns
returns c = pair_put _ _ _ _ _ _ c.put_start.ensures c.put_left.ensures
