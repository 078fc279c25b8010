-- `input_at`: each need by its law.
use mathlib.Core.Path.{refl}
use Rattle.tables.specs.Layout.{input_at}
use Rattle.tables.proofs.layout.input_at.Goals as goal

pub returns : goal.returns
unfolding input_at
returns c = refl
