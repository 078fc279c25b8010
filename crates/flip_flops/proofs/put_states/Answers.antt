use borrow.Author.Rules.{rules}
use Rattle.flip_flops.proofs.States.{turns}
use Rattle.flip_flops.proofs.put_states.Goals as goal
use Rattle.flip_flops.proofs.put_states.Goals.{then-is_dff, else-is_dff}

pub loop-v-init : goal.loop-v-init
loop-v-init c = search (rules, turns)

pub loop-v-preserved : goal.loop-v-preserved
loop-v-preserved c = elim c.if-is_dff.branch [
  | else-is_dff w ↦ rw w.state-is (search (rules, turns))
  | then-is_dff w ↦ rw w.state-is (search (rules, turns))
]

pub new_state-requires : goal.new_state-requires
new_state-requires c = search (rules, turns)

pub returns : goal.returns
returns c = search (rules, turns)
