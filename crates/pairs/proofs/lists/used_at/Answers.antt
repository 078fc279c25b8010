-- `used_at`: each need by its law.
use Rattle.pairs.proofs.Places.{used_in}
use Rattle.pairs.specs.Lists.{used_at}
use Rattle.pairs.proofs.lists.used_at.Goals as goal

pub word-requires : goal.word-requires
word-requires c = used_in _ _ c.requires

pub returns : goal.returns
unfolding used_at
returns c = c.word.ensures
