-- `high_at`: each need by its law.
use mathlib.Core.Path.{refl}
use Rattle.tables.specs.Layout.{high_at}
use Rattle.tables.proofs.layout.high_at.Goals as goal

pub returns : goal.returns
unfolding high_at
returns c = refl
