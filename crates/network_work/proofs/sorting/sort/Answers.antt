-- `sort`: what loading answered, or what the pass makes of the network.
use Rattle.std.proofs.lemmas.Result.{err_from_is_err_and}
use Rattle.network_passes.specs.Passes.{sort_pass}
use Rattle.network_work.specs.Works.{sort_work}
use Rattle.network_work.proofs.Mappings.{load_refused, load_passable, load_passed}
use Rattle.network_work.proofs.sorting.sort.Goals as goal

pub returns-in_err-c : goal.returns-in_err-c
unfolding sort_work
returns-in_err-c c = let p = err_from_is_err_and c.from_residual.result c.from_residual.ensures.1 in
    load_refused _ _ _ _ c.in_err-c.ensures _ _ p.1 p.2 _ _ _

pub sort_pass-requires : goal.sort_pass-requires
sort_pass-requires c = load_passable _ _ _ _ c.in_ok-c.ensures _ c.requires.long_b

pub returns : goal.returns
unfolding sort_work
returns c = load_passed _ _ _ _ c.in_ok-c.ensures sort_pass _ _ _ _ _ c.sort_pass.ensures
