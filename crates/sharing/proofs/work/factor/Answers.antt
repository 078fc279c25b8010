-- `factor`: what refuses it, 9 among that, or what is written.
use mathlib.Core.Path.{◌∙◌}
use Rattle.std.proofs.lemmas.Result.{err_from_is_err_and}
use Rattle.stages.proofs.Staging.{staged_number}
use Rattle.sharing.specs.Works.{factor_pass}
use Rattle.sharing.proofs.Passing.{factor_is, factor_repeats, factor_left, factor_staged, work_refused, work_asks, workable_nodes, stage_refused, stage_held, stage_written}
use Rattle.sharing.proofs.work.factor.Goals as goal

pub returns-in_err-read : goal.returns-in_err-read
returns-in_err-read c = let p = err_from_is_err_and c.from_residual.result c.from_residual.ensures.1 in
    work_refused factor_pass _ _ _ _ c.in_err-read.ensures _ _ p.1 p.2

pub repeats_refusal-requires : goal.repeats_refusal-requires
repeats_refusal-requires c = workable_nodes _ _ _ (work_asks _ _ _ _ c.requires c.load.auto.to _ c.in_ok-read.ensures)

pub returns-in_err-repeats_refusal : goal.returns-in_err-repeats_refusal
returns-in_err-repeats_refusal c = let p = err_from_is_err_and c.from_residual-in_err-repeats_refusal.result c.from_residual-in_err-repeats_refusal.ensures.1 in
    stage_refused _ _ _ _ _ c.in_ok-read.ensures _ _ factor_is _ (factor_repeats _ _ _ c.in_err-repeats_refusal.ensures) _ _ p.1 p.2

pub factor_nary-requires : goal.factor_nary-requires
factor_nary-requires c = work_asks _ _ _ _ c.requires c.load.auto.to _ c.in_ok-read.ensures

pub returns-in_err-factored : goal.returns-in_err-factored
returns-in_err-factored c = let p = err_from_is_err_and c.from_residual-in_err-factored.result c.from_residual-in_err-factored.ensures.1 in
    stage_refused _ _ _ _ _ c.in_ok-read.ensures _ _ factor_is _ (factor_left _ _ c.in_ok-repeats_refusal.ensures ∙ staged_number _ _ _ _ c.in_err-factored.ensures) _ _ p.1 p.2

pub write-requires : goal.write-requires
write-requires c = (stage_held _ _ _ _ c.in_ok-factored.ensures).holds.held

pub returns : goal.returns
returns c = stage_written _ _ _ _ _ c.in_ok-read.ensures _ _ factor_is _ _ (factor_staged _ _ c.in_ok-repeats_refusal.ensures _ _ c.in_ok-factored.ensures) _ _ c.write.ensures
