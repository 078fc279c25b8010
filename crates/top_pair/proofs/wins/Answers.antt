-- `wins`: the comparison of triples is the order of the model.
use mathlib.Core.Path.{◌∙◌}
use Rattle.top_pair.proofs.Winning.{wins_is}
use Rattle.top_pair.proofs.wins.Goals as goal

pub returns : goal.returns
returns c = c.lt.ensures ∙ wins_is _ _ _ _
