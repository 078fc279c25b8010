-- `count_at`: each need by its law.
use mathlib.Core.Path.{refl}
use Rattle.tables.proofs.Places.{count_read}
use Rattle.tables.proofs.layout.count_at.Goals as goal

pub returns : goal.returns
returns c = count_read _ _ _ _ c.count_ix-i.ensures refl
