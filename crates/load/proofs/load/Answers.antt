-- `load`: each need by its law.
use Rattle.std.proofs.lemmas.Result.{err_from_is_err_and}
use Rattle.load.proofs.Accepting.{load_refused, load_framed, load_network}
use Rattle.load.proofs.load.Goals as goal

pub returns-in_err-f : goal.returns-in_err-f
returns-in_err-f g c =
    let p = err_from_is_err_and c.from_residual.result c.from_residual.ensures.1 in
    load_refused _ _ _ _ _ c.in_err-f.ensures p.1 p.2 _

pub load_frame-requires : goal.load_frame-requires
load_frame-requires g c = load_framed _ _ _ c.in_ok-f.ensures _ c.requires

pub returns : goal.returns
returns g c = load_network _ _ _ c.in_ok-f.ensures _ _ c.load_frame.ensures
