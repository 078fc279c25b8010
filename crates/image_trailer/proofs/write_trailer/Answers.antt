-- `write_trailer`: its words by the law.
use Rattle.image_trailer.proofs.Fourths.{trailer_put}
use Rattle.image_trailer.proofs.write_trailer.Goals as goal

pub returns : goal.returns
returns c = trailer_put _ _ _ _ _ _ _ c.put_word.ensures c.put_word-2.ensures c.put_word-3.ensures c.put_word-4.ensures
