-- `pair_first`: each need by its law.
use Rattle.pairs.proofs.Places.{start_in}
use Rattle.pairs.specs.Lists.{pair_at, start_at}
use Rattle.pairs.proofs.lists.pair_first.Goals as goal

pub word-requires : goal.word-requires
word-requires c = start_in _ _ c.requires

pub returns : goal.returns
unfolding pair_at start_at
returns c = c.word.ensures
