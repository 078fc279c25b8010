-- `topo_sort`: each need by its law.
use mathlib.Core.Path.{refl}
use Rattle.topo_sort.proofs.Flipped.{sort_orders, sort_done}
use Rattle.topo_sort.proofs.topo_sort.Goals as goal

pub remap-requires : goal.remap-requires
remap-requires c = sort_orders _ _ _ _ c.topo_order.ensures _ _ c.requires refl c.in_ok-topo_order.was

pub returns : goal.returns
returns c = sort_done _ _ _ _ c.topo_order.ensures _ c.in_ok-topo_order.was c.remap.ensures
