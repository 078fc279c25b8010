-- `work`: what loading answered, or the cycle of the network that it put into the area.
use Rattle.std.proofs.lemmas.Result.{err_from_is_err_and}
use Rattle.evaluation.proofs.Working.{evaluate_refused, evaluate_runs, evaluate_cycled}
use Rattle.evaluation.proofs.work.Goals as goal

pub returns-in_err-counts : goal.returns-in_err-counts
returns-in_err-counts c = let p = err_from_is_err_and c.from_residual.result c.from_residual.ensures.1 in
    evaluate_refused _ _ _ _ _ _ _ _ c.in_err-counts.ensures p.1 p.2

pub evaluate-requires : goal.evaluate-requires
evaluate-requires c = evaluate_runs c.args.image.now _ c.args.inputs.now c.args.state.now c.args.outputs.now _ c.in_ok-counts.ensures _ c.requires.1

pub returns : goal.returns
returns c = evaluate_cycled _ _ _ _ _ _ c.in_ok-counts.ensures _ _ _ c.evaluate.ensures
