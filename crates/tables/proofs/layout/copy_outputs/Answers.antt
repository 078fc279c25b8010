-- `copy_outputs`: the words copied at once are those put one by one.
use native.Mathlib.Omega.{arith}
use Rattle.tables.proofs.Places.{outputs_copied}
use Rattle.tables.proofs.layout.copy_outputs.Goals as goal

pub returns : goal.returns
returns c = outputs_copied _ _ _ c.requires _ (omega arith) _ c.copy_words.ensures
