-- `left_at`: each need by its law.
use Rattle.pairs.proofs.Places.{left_in}
use Rattle.pairs.specs.Lists.{left_at}
use Rattle.pairs.proofs.lists.left_at.Goals as goal

pub number-requires : goal.number-requires
number-requires c = left_in _ _ c.requires

pub returns : goal.returns
unfolding left_at
returns c = c.number.ensures
