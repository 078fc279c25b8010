-- `translate`: the table's part is the translation.
use Rattle.translation.specs.Tables.{tr_of}
use Rattle.translation.proofs.translate.Goals as goal

pub returns : goal.returns
unfolding tr_of
returns c = c.remap_order.ensures
