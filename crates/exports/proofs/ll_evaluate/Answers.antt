-- `ll_evaluate`: each need by its path.
use Rattle.exports.proofs.Exporting.{exported2, evaluate_fits}
use Rattle.exports.proofs.ll_evaluate.Goals as goal

pub evaluate-requires : goal.evaluate-requires
evaluate-requires c = tt

pub pack-requires : goal.pack-requires
pack-requires c = evaluate_fits _ _ _ _ _ _ _ _ _ _ _ c.evaluate.ensures

pub shape_of-state : goal.shape_of-state
shape_of-state c = c.state-1.given

pub shape_of-outputs : goal.shape_of-outputs
shape_of-outputs c = c.outputs-1.given

pub shape_of-a : goal.shape_of-a
shape_of-a c = c.a-1.given

pub shape_of-b : goal.shape_of-b
shape_of-b c = c.b-1.given

pub returns : goal.returns
returns c = exported2 _ _ _ _ _ _ _ _ _ _ c.evaluate.ensures _ c.pack.ensures
