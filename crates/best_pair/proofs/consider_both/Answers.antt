-- `consider_both`: the pair with its smaller word first.
use Rattle.best_pair.proofs.Tops.{both_is}
use Rattle.best_pair.proofs.consider_both.Goals as goal

pub returns : goal.returns
returns c = both_is _ _ _ _ _ _ _ c.min.ensures c.max.ensures c.consider_pair.ensures
