-- `first_at`: each need by its law.
use mathlib.Core.Path.{refl}
use Rattle.tables.proofs.Places.{first_read}
use Rattle.tables.proofs.layout.first_at.Goals as goal

pub returns : goal.returns
returns c = first_read _ _ _ _ c.first_ix-i.ensures refl
