-- `output_at`: each need by its law.
use mathlib.Core.Path.{refl}
use Rattle.tables.specs.Layout.{output_at}
use Rattle.tables.proofs.layout.output_at.Goals as goal

pub returns : goal.returns
unfolding output_at
returns c = refl
