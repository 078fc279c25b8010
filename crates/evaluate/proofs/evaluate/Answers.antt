-- 13 or 14, or the cycle.
use native.Mathlib.Omega.{arith}
use Rattle.evaluate.proofs.Steps.{runs_passing, runs_putting, states_there, outs_there, steps}
use borrow.Author.Rules.{rules}
use Rattle.evaluate.proofs.evaluate.Goals as goal

pub returns-then-short : goal.returns-then-short
returns-then-short c = search (rules, steps)

pub take_inputs-above-requires : goal.take_inputs-above-requires
take_inputs-above-requires c = (search rules, search (rules, steps), search (rules, steps))

pub state_above-requires : goal.state_above-requires
state_above-requires c = (search (rules, steps), search rules, search (rules, steps))

pub returns-then-above-state_above : goal.returns-then-above-state_above
returns-then-above-state_above c = search (rules, steps)

pub cycle-requires : goal.cycle-requires
cycle-requires c = let a = c.args in
    let there = c.short.ensures in
    let long = c.if-short.false in (
      runs_passing _ _ _ c.requires _ _ (omega arith) (states_there _ _ _ c.requires a.inputs.now a.state.now a.outputs.now _ there long),
      runs_putting _ _ _ c.requires _ _ (omega arith) (outs_there _ _ _ c.requires a.inputs.now a.state.now a.outputs.now _ there long),
    )

pub returns : goal.returns
returns c = search (rules, steps)
