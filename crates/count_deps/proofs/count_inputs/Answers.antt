use Rattle.count_deps.proofs.Countings.{ins_turn}
use Rattle.count_deps.proofs.count_inputs.Goals as goal

pub count_one-requires : goal.count_one-requires
count_one-requires c = ins_turn _ _ _ _ _ _ _ c.requires c.loop-j.invariant.2 c.loop-j-test.true c.input_at.ensures
