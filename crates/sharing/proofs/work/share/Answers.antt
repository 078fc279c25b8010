-- `share`: what refuses it, or what is written.
use Rattle.std.proofs.lemmas.Result.{err_from_is_err_and}
use Rattle.stages.proofs.Staging.{staged_number, next_workable}
use Rattle.sharing.specs.Works.{share_pass}
use Rattle.sharing.proofs.Passing.{share_is, share_first, share_left, work_refused, work_asks, stage_refused, stage_held, stage_written}
use Rattle.sharing.proofs.work.share.Goals as goal

pub returns-in_err-read : goal.returns-in_err-read
returns-in_err-read c = let p = err_from_is_err_and c.from_residual.result c.from_residual.ensures.1 in
    work_refused (share_pass c.args.limit) _ _ _ _ c.in_err-read.ensures _ _ p.1 p.2

pub flatten_nary-requires : goal.flatten_nary-requires
flatten_nary-requires c = work_asks _ _ _ _ c.requires c.load.auto.to _ c.in_ok-read.ensures

pub returns-in_err-flat : goal.returns-in_err-flat
returns-in_err-flat c = let p = err_from_is_err_and c.from_residual-in_err-flat.result c.from_residual-in_err-flat.ensures.1 in
    stage_refused _ _ _ _ _ c.in_ok-read.ensures _ _ (share_is c.args.limit) _ (share_first _ _ _ _ c.in_err-flat.ensures) _ _ p.1 p.2

pub factor_nary-requires : goal.factor_nary-requires
factor_nary-requires c = next_workable _ _ _ _ _ _ (work_asks _ _ _ _ c.requires c.load.auto.to _ c.in_ok-read.ensures) _ _ c.in_ok-flat.ensures c.flatten_nary.auto.from c.flatten_nary.auto.to

pub returns-in_err-shared : goal.returns-in_err-shared
returns-in_err-shared c = let p = err_from_is_err_and c.from_residual-in_err-shared.result c.from_residual-in_err-shared.ensures.1 in
    stage_refused _ _ _ _ _ c.in_ok-read.ensures _ _ (share_is c.args.limit) _ (staged_number _ _ _ _ (share_left _ _ _ _ c.in_ok-flat.ensures _ _ c.in_err-shared.ensures)) _ _ p.1 p.2

pub write-requires : goal.write-requires
write-requires c = (stage_held _ _ _ _ c.in_ok-shared.ensures).holds.held

pub returns : goal.returns
returns c = stage_written _ _ _ _ _ c.in_ok-read.ensures _ _ (share_is c.args.limit) _ _ (share_left _ _ _ _ c.in_ok-flat.ensures _ _ c.in_ok-shared.ensures) _ _ c.write.ensures
