-- `put_head`: each need by its law.
use Rattle.listing.proofs.Lines.{head_put}
use Rattle.listing.proofs.put_head.Goals as goal

pub returns : goal.returns
returns c = head_put _ _ _ c.kind_of.ensures c.put_name.ensures c.put.ensures c.put_kind.ensures
