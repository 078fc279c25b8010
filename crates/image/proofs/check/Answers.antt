-- `check`: each need by its law.
use Rattle.std.proofs.lemmas.Result.{err_from_is_err_and}
use Rattle.image.proofs.Checks.{check_refused, check_start, check_nodes, check_outs, check_yes, check_no}
use Rattle.image.proofs.check.Goals as goal

pub returns-in_err-f : goal.returns-in_err-f
returns-in_err-f g c =
    let p = err_from_is_err_and c.from_residual.result c.from_residual.ensures.1 in
    check_refused _ _ _ _ _ c.in_err-f.ensures p.1 p.2

pub slice_bounds-check_body-count : goal.slice_bounds-check_body-count
slice_bounds-check_body-count g c = check_start _ _ c.in_ok-f.ensures

pub slice_bounds-check_body-start : goal.slice_bounds-check_body-start
slice_bounds-check_body-start g c = check_start _ _ c.in_ok-f.ensures

pub check_body-requires : goal.check_body-requires
check_body-requires g c = (check_nodes _ _ c.in_ok-f.ensures, check_outs _ _ c.in_ok-f.ensures)

pub returns-in_err-check_body : goal.returns-in_err-check_body
returns-in_err-check_body g c =
    let p = err_from_is_err_and c.from_residual-in_err-check_body.result c.from_residual-in_err-check_body.ensures.1 in
    check_no _ _ c.in_ok-f.ensures _ _ _ _ c.in_err-check_body.ensures p.1 p.2

pub returns : goal.returns
returns g c = check_yes _ _ c.in_ok-f.ensures _ c.in_ok-check_body.ensures
