-- `factor_gates`: what refuses the pass, or what is left of the grown network.
use Rattle.std.proofs.lemmas.Result.{err_from_is_err_and}
use Rattle.factor_nary.proofs.Passes.{pass_asks, pass_refused, pass_next, pass_left}
use Rattle.factor_nary.proofs.factor_gates.Goals as goal

pub factor_pass-requires : goal.factor_pass-requires
factor_pass-requires c = pass_asks _ _ _ c.requires

pub returns-in_err-grown : goal.returns-in_err-grown
returns-in_err-grown c = let p = err_from_is_err_and c.from_residual.result c.from_residual.ensures.1 in
    pass_refused _ _ _ c.requires _ _ _ c.in_err-grown.ensures _ _ _ p.1 p.2

pub order-requires : goal.order-requires
order-requires c = pass_next _ _ _ c.requires _ _ _ c.in_ok-grown.ensures c.factor_pass.auto.to

pub returns : goal.returns
returns c = pass_left _ _ _ c.requires _ _ _ c.in_ok-grown.ensures _ _ c.order.ensures
