-- `factor_nary`: what refuses the first pass, or what the second leaves.
use Rattle.std.proofs.lemmas.Result.{err_from_is_err_and}
use Rattle.stages.proofs.Staging.{next_workable}
use Rattle.factor_nary.proofs.Passes.{factor_refused, factor_left}
use Rattle.factor_nary.proofs.factor_nary.Goals as goal

pub returns-in_err-shared : goal.returns-in_err-shared
returns-in_err-shared c = let p = err_from_is_err_and c.from_residual.result c.from_residual.ensures.1 in
    factor_refused _ _ _ c.in_err-shared.ensures _ _ _ p.1 p.2

pub factor_gates-requires-2 : goal.factor_gates-requires-2
factor_gates-requires-2 c = next_workable _ _ _ _ _ _ c.requires _ _ c.in_ok-shared.ensures c.factor_gates.auto.from c.factor_gates.auto.to

pub returns : goal.returns
returns c = factor_left _ _ _ c.in_ok-shared.ensures _ _ c.factor_gates-2.ensures
