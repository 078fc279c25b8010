-- `run`: each need by its law.
use Rattle.factoring_run.proofs.Runs.{run_full, run_half}
use Rattle.factoring_run.proofs.run.Goals as goal

pub share_pairs-requires : goal.share_pairs-requires
share_pairs-requires c = c.requires.lists.laid

pub returns-in_err-k : goal.returns-in_err-k
returns-in_err-k c = rw c.from_residual.ensures (run_full _ _ _ _ _ _ c.requires c.args.p.old c.args.p.fits _ _ c.share_pairs.ensures c.in_err-k.was)

pub finalize-requires : goal.finalize-requires
finalize-requires c = run_half _ _ _ _ _ _ c.requires c.args.p.old c.args.p.fits _ _ c.share_pairs.ensures _ c.in_ok-k.was c.share_pairs.auto.to
