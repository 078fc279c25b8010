-- `list`: what loading answered, or the listing of the network.
use Rattle.std.proofs.lemmas.Result.{err_from_is_err_and}
use Rattle.share.proofs.Listed.{list_refused, list_written}
use Rattle.share.proofs.list.Goals as goal

pub returns-in_err-counts : goal.returns-in_err-counts
returns-in_err-counts c = let p = err_from_is_err_and c.from_residual.result c.from_residual.ensures.1 in
    list_refused _ _ _ _ c.in_err-counts.ensures _ _ p.1 p.2

pub returns : goal.returns
returns c = list_written _ _ _ _ c.in_ok-counts.ensures _ _ c.listing.ensures
