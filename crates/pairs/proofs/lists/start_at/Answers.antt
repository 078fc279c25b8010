-- `start_at`: each need by its law.
use Rattle.pairs.proofs.Places.{start_in}
use Rattle.pairs.specs.Lists.{start_at}
use Rattle.pairs.proofs.lists.start_at.Goals as goal

pub number-requires : goal.number-requires
number-requires c = start_in _ _ c.requires

pub returns : goal.returns
unfolding start_at
returns c = c.number.ensures
