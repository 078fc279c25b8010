-- `put_nodes`: a line more at each turn.
use native.Mathlib.Omega.{arith}
use Rattle.listing.proofs.Lines.{nodes_none, nodes_next, node_held}
use Rattle.listing.proofs.put_nodes.Goals as goal

pub loop-v-init : goal.loop-v-init
loop-v-init c = (omega arith, nodes_none _ _)

pub put_node-requires : goal.put_node-requires
put_node-requires c = node_held _ _ _ c.requires (omega arith)

pub loop-v-preserved : goal.loop-v-preserved
loop-v-preserved c = (omega arith, nodes_next _ _ _ _ _ c.put_node.ensures c.loop-v.invariant.1)
