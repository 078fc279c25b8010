-- `sort_pass`: a loop, or what is written of the sorted network.
use Rattle.std.proofs.lemmas.Result.{err_from_is_err_and}
use Rattle.network_passes.proofs.Passing.{sort_asks, sort_looped, sort_held, sort_written}
use Rattle.network_passes.proofs.sort_pass.Goals as goal

pub topo_sort-requires : goal.topo_sort-requires
topo_sort-requires c = sort_asks _ _ _ c.requires

pub returns-in_err-topo_sort : goal.returns-in_err-topo_sort
returns-in_err-topo_sort c = let p = err_from_is_err_and c.from_residual.result c.from_residual.ensures.1 in
    sort_looped _ _ _ c.requires _ _ c.in_err-topo_sort.ensures _ _ p.1 p.2 _ _

pub write_mapped-requires : goal.write_mapped-requires
write_mapped-requires c = sort_held _ _ _ c.requires _ c.in_ok-topo_sort.ensures

pub returns : goal.returns
returns c = sort_written _ _ _ c.requires _ c.in_ok-topo_sort.ensures _ _ _ _ _ c.write_mapped.ensures
