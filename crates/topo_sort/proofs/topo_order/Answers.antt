-- `topo_order`: each need by its law.
use Rattle.topo_sort.proofs.Flipped.{order_sound, order_loop, order_full}
use Rattle.topo_sort.proofs.topo_order.Goals as goal

pub count_deps-requires : goal.count_deps-requires
count_deps-requires c = c.requires

pub start-sp-requires : goal.start-sp-requires
start-sp-requires c = (order_sound _ _ _ c.requires, c.count_deps.ensures)

pub visit_all-pos-requires : goal.visit_all-pos-requires
visit_all-pos-requires c = c.start-sp.ensures

pub put_flip_flops-end-requires : goal.put_flip_flops-end-requires
put_flip_flops-end-requires c = c.visit_all-pos.ensures

pub returns-then-end-gt0 : goal.returns-then-end-gt0
returns-then-end-gt0 c = order_loop _ _ _ _ c.put_flip_flops-end.ensures c.if-end-gt0.true

pub returns : goal.returns
returns c = order_full _ _ _ _ c.put_flip_flops-end.ensures c.if-end-gt0.false
