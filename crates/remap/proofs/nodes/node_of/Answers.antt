-- `node_of`: each need by its law.
use borrow.Author.Rules.{rules}
use Rattle.remap.proofs.Moves.{node_low}
use Rattle.remap.proofs.nodes.node_of.Goals as goal

pub var-requires : goal.var-requires
var-requires c = search (rules, node_low)
