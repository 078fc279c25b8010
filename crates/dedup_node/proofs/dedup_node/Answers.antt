-- `dedup_node`: each need by its law.
use mathlib.Core.Path.{ap, ◌∙◌}
use Rattle.kinds.specs.Kinds.{kind_of}
use Rattle.placing.specs.Lists.{of_flip_flops}
use Rattle.placing.proofs.Lookups.{asks_normal, asks_settle, node_did}
use Rattle.dedup_node.proofs.dedup_node.Goals as goal

pub normalize-r-requires : goal.normalize-r-requires
normalize-r-requires c = let a = c.args in
    asks_normal a.from.now a.to.now a.v a.b c.requires (of_flip_flops a.by) a.canonical
    c.gather.new.to c.kind_of-kind.result c.first_at.result c.count_at-n.result
    c.count_at-n.ensures c.first_at.ensures c.gather.ensures (c.kind_of-kind.ensures ∙ ap kind_of c.kind_at.ensures)

pub settle-requires : goal.settle-requires
settle-requires c = let a = c.args in
    asks_settle a.from.now a.to.now a.v a.b c.requires (of_flip_flops a.by) a.canonical
    c.gather.new.to c.kind_of-kind.result c.first_at.result c.count_at-n.result
    c.count_at-n.ensures c.first_at.ensures c.gather.ensures (c.kind_of-kind.ensures ∙ ap kind_of c.kind_at.ensures)
    c.normalize-r.new.list c.normalize-r.result c.normalize-r.auto.list c.normalize-r.ensures

pub returns : goal.returns
returns c = let a = c.args in
    node_did a.from.now a.to.now a.v a.b c.requires (of_flip_flops a.by) a.canonical
    c.gather.new.to c.kind_of-kind.result c.first_at.result c.count_at-n.result
    c.count_at-n.ensures c.first_at.ensures c.gather.ensures (c.kind_of-kind.ensures ∙ ap kind_of c.kind_at.ensures)
    c.normalize-r.new.list c.normalize-r.result c.normalize-r.auto.list c.normalize-r.ensures
    c.settle.new.to c.low_at.result c.high_at.result c.settle.result c.low_at.ensures c.high_at.ensures c.settle.ensures
