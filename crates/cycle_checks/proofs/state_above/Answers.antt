use borrow.Author.Rules.{rules}
use Rattle.cycle_checks.proofs.Checking.{none_cell, some_cell, turns}
use Rattle.cycle_checks.proofs.state_above.Goals as goal

pub loop-v-init : goal.loop-v-init
loop-v-init c = search (rules, turns)

pub returns-then-is_dff-state : goal.returns-then-is_dff-state
returns-then-is_dff-state c = some_cell _ c.args.state.now _ _ _ c.loop-v-test.true c.is_dff.ensures c.if-is_dff-state.true

pub loop-v-preserved : goal.loop-v-preserved
loop-v-preserved c = none_cell _ c.args.state.now _ _ _ c.loop-v.invariant c.loop-v-test.true c.is_dff.ensures c.if-is_dff-state.false
