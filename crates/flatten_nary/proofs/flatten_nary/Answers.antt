-- `flatten_nary`: 10, or what cleanup and canonical leave of the merged network.
use Rattle.std.proofs.lemmas.Result.{err_from_is_err_and}
use Rattle.flatten_nary.proofs.Flattening.{merge_asks, merge_refused, merge_next, merge_left}
use Rattle.flatten_nary.proofs.flatten_nary.Goals as goal

pub flatten_gates-requires : goal.flatten_gates-requires
flatten_gates-requires c = merge_asks _ _ _ c.requires

pub returns-in_err-flatten_gates : goal.returns-in_err-flatten_gates
returns-in_err-flatten_gates c = let p = err_from_is_err_and c.from_residual.result c.from_residual.ensures.1 in
    merge_refused _ _ _ c.requires _ _ _ c.in_err-flatten_gates.ensures _ _ _ p.1 p.2

pub clean-requires : goal.clean-requires
clean-requires c = merge_next _ _ _ c.requires _ _ c.in_ok-flatten_gates.ensures c.flatten_gates.auto.to

pub returns : goal.returns
returns c = merge_left _ _ _ c.requires _ _ c.in_ok-flatten_gates.ensures _ _ c.clean.ensures
