-- `low_at`: each need by its law.
use mathlib.Core.Path.{refl}
use Rattle.tables.specs.Layout.{low_at}
use Rattle.tables.proofs.layout.low_at.Goals as goal

pub returns : goal.returns
unfolding low_at
returns c = refl
