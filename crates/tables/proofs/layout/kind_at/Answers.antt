-- `kind_at`: each need by its law.
use Rattle.tables.proofs.Places.{kind_read}
use Rattle.tables.proofs.layout.kind_at.Goals as goal

pub returns : goal.returns
returns c = kind_read _ _ _ c.kind_ix-i.ensures
