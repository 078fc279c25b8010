-- `word`: each need by its law.
use mathlib.Core.Path.{refl}
use Rattle.tables.specs.Layout.{cell}
use Rattle.tables.proofs.scratch.word.Goals as goal

pub returns : goal.returns
unfolding cell
returns c = refl
