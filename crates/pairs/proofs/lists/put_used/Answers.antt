-- `put_used`: each need by its law.
use Rattle.pairs.proofs.Places.{used_in}
use Rattle.pairs.specs.Lists.{put_used}
use Rattle.pairs.proofs.lists.put_used.Goals as goal

pub put_word-requires : goal.put_word-requires
put_word-requires c = used_in _ _ c.requires

pub shape_of-area : goal.shape_of-area
shape_of-area c = c.put_word.auto.area

pub returns : goal.returns
unfolding put_used
returns c = c.put_word.ensures
