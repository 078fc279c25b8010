-- `order`: sorted, since it has no loop, and made canonical.
use Rattle.factor_nary.proofs.Passes.{order_asks, order_never, order_next, order_left}
use Rattle.factor_nary.proofs.order.Goals as goal

pub topo_sort-requires : goal.topo_sort-requires
topo_sort-requires c = order_asks _ _ _ c.requires

pub returns-in_err-topo_sort : goal.returns-in_err-topo_sort
returns-in_err-topo_sort c = order_never _ _ _ c.requires _ _ c.in_err-topo_sort.ensures

pub dedup-requires : goal.dedup-requires
dedup-requires c = order_next _ _ _ c.requires _ c.in_ok-topo_sort.ensures

pub returns : goal.returns
returns c = order_left _ _ _ c.requires _ c.in_ok-topo_sort.ensures _ _ c.dedup.ensures
