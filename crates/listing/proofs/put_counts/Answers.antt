-- `put_counts`: the four parts, one behind the other.
use Rattle.listing.proofs.Lines.{counts_put}
use Rattle.listing.proofs.put_counts.Goals as goal

pub returns : goal.returns
returns c = counts_put _ _ _ c.put_field.ensures c.put_field-2.ensures c.put_field-3.ensures c.put.ensures
