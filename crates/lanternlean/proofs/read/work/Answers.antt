-- `work`: what loading answered, or what is written of it.
use Rattle.std.proofs.lemmas.Result.{err_from_is_err_and}
use mathlib.Core.Path.{refl}
use Rattle.load.proofs.Loading.{network_held}
use Rattle.lanternlean.proofs.Working.{read_refused, read_written}
use Rattle.lanternlean.proofs.read.work.Goals as goal

pub returns-in_err-counts : goal.returns-in_err-counts
returns-in_err-counts c = let p = err_from_is_err_and c.from_residual.result c.from_residual.ensures.1 in
    read_refused _ _ _ _ _ _ c.in_err-counts.ensures p.1 p.2

pub write-requires : goal.write-requires
write-requires c = network_held _ _ _ _ c.in_ok-counts.ensures _ refl

pub returns : goal.returns
returns c = read_written _ _ _ _ c.in_ok-counts.ensures _ _ c.write.ensures
