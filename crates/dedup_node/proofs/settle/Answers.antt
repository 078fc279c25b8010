-- `settle`: each need by its law.
use Rattle.placing.proofs.Standing.{settle_copy, settle_node}
use Rattle.dedup_node.proofs.settle.Goals as goal

pub returns-in-Copy : goal.returns-in-Copy
returns-in-Copy c = settle_copy _ _ _ _ c.requires _ _ _ _ c.in-Copy.is c.put_word.ensures

pub returns-in-Node : goal.returns-in-Node
returns-in-Node c = settle_node _ _ _ _ c.requires _ _ _ _ _ _ _ _ _ _ _ c.in-Node.is c.from.ensures c.place-p.ensures c.from_var.ensures c.bitxor-s.ensures c.put_word-in-Node.ensures
