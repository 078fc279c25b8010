-- `put_word`: each need by its law.
use mathlib.Core.Path.{refl}
use Rattle.tables.specs.Layout.{store}
use Rattle.tables.proofs.scratch.put_word.Goals as goal

pub returns : goal.returns
unfolding store
returns c = refl
