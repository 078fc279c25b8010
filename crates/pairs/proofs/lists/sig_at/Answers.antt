-- `sig_at`: each need by its law.
use Rattle.pairs.proofs.Places.{sig_in}
use Rattle.pairs.specs.Lists.{sig_at}
use Rattle.pairs.proofs.lists.sig_at.Goals as goal

pub word-requires : goal.word-requires
word-requires c = sig_in _ _ c.requires

pub returns : goal.returns
unfolding sig_at
returns c = c.word.ensures
