-- `merge`: what loading answered, or what the pass makes of the network.
use Rattle.std.proofs.lemmas.Result.{err_from_is_err_and}
use Rattle.network_work.specs.Works.{dedup_pass, dedup_work}
use Rattle.network_work.proofs.Mappings.{load_refused, load_passed}
use Rattle.network_work.proofs.Merging.{dedup_asks}
use Rattle.network_work.proofs.duplicates.merge.Goals as goal

pub returns-in_err-c : goal.returns-in_err-c
unfolding dedup_work dedup_pass
returns-in_err-c c = let p = err_from_is_err_and c.from_residual.result c.from_residual.ensures.1 in
    load_refused _ _ _ _ c.in_err-c.ensures _ _ p.1 p.2 _ _ _

pub pass-requires : goal.pass-requires
pass-requires c = dedup_asks _ _ _ c.in_ok-c.ensures _ c.requires.long_b

pub returns : goal.returns
unfolding dedup_work dedup_pass
returns c = load_passed _ _ _ _ c.in_ok-c.ensures (dedup_pass c.args.canonical) _ _ _ _ _ c.pass.ensures
