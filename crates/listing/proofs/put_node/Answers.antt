-- `put_node`: each need by its law.
use Rattle.listing.proofs.Lines.{node_put}
use Rattle.listing.proofs.put_node.Goals as goal

pub returns : goal.returns
returns c = node_put _ _ _ _ _ c.kind_at.ensures
    c.first_at.ensures c.count_at.ensures
    c.put_head.ensures c.put_inputs.ensures c.put_table.ensures c.put.ensures
