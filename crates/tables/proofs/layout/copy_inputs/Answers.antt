-- `copy_inputs`: the words copied at once are those put one by one.
use native.Mathlib.Omega.{arith}
use Rattle.tables.proofs.Places.{inputs_copied}
use Rattle.tables.proofs.layout.copy_inputs.Goals as goal

pub returns : goal.returns
returns c = inputs_copied _ _ _ _ _ c.requires _ _ (omega arith) (omega arith) _ c.copy_words.ensures
