-- `put_output`: each need by its law.
use Rattle.listing.proofs.Lines.{output_put}
use Rattle.listing.proofs.put_output.Goals as goal

pub returns : goal.returns
returns c = output_put _ _ c.put_name.ensures c.put.ensures c.put_signal.ensures c.put-2.ensures
