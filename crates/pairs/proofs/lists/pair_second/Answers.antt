-- `pair_second`: each need by its law.
use Rattle.pairs.proofs.Places.{left_in}
use Rattle.pairs.specs.Lists.{left_at, pair_at}
use Rattle.pairs.proofs.lists.pair_second.Goals as goal

pub word-requires : goal.word-requires
word-requires c = left_in _ _ c.requires

pub returns : goal.returns
unfolding pair_at left_at
returns c = c.word.ensures
