use Rattle.count_deps.proofs.Countings.{gates_turn}
use Rattle.count_deps.proofs.count_deps.Goals as goal

pub count_gate-requires : goal.count_gate-requires
count_gate-requires c = gates_turn _ _ _ _ c.requires c.clear_table.ensures _ _ c.loop-v.invariant.2 c.loop-v-test.true
