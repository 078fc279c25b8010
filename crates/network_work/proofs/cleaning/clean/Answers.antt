-- `clean`: what loading answered, or what the pass makes of the network.
use Rattle.std.proofs.lemmas.Result.{err_from_is_err_and}
use Rattle.network_passes.specs.Passes.{cleanup_pass}
use Rattle.network_work.specs.Works.{cleanup_work}
use Rattle.network_work.proofs.Mappings.{load_refused, load_passable, load_passed}
use Rattle.network_work.proofs.cleaning.clean.Goals as goal

pub returns-in_err-c : goal.returns-in_err-c
unfolding cleanup_work
returns-in_err-c c = let p = err_from_is_err_and c.from_residual.result c.from_residual.ensures.1 in
    load_refused _ _ _ _ c.in_err-c.ensures _ _ p.1 p.2 _ _ _

pub cleanup_pass-requires : goal.cleanup_pass-requires
cleanup_pass-requires c = load_passable _ _ _ _ c.in_ok-c.ensures _ c.requires.long_b

pub returns : goal.returns
unfolding cleanup_work
returns c = load_passed _ _ _ _ c.in_ok-c.ensures cleanup_pass _ _ _ _ _ c.cleanup_pass.ensures
