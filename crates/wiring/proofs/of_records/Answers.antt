use native.Mathlib.Omega.{arith}
use borrow.Author.Rules.{rules}
use Rattle.records.proofs.Layouts.{walk_step, walks}
use Rattle.wiring.proofs.Wires.{gates_step, gates}
use Rattle.wiring.proofs.of_records.Goals as goal

pub loop-v-init : goal.loop-v-init
loop-v-init c = search (rules, walks, gates)

pub nth-h-requires : goal.nth-h-requires
nth-h-requires c = search (rules, walks, gates)

pub overflow_add-at : goal.overflow_add-at
overflow_add-at c = search (rules, walks, gates)

pub reach-r-requires : goal.reach-r-requires
reach-r-requires c = search (rules, walks, gates)

pub overflow_add-at-in-loop-v : goal.overflow_add-at-in-loop-v
overflow_add-at-in-loop-v c = search (rules, walks, gates)

pub loop-v-preserved : goal.loop-v-preserved
loop-v-preserved c = let inv = c.loop-v.invariant in
    let header = c.nth-h.ensures in
    let ins = c.reach-r.ensures in
    let kind = c.kind_of.ensures in
    let dff = c.is_flip_flop.ensures in
    let size = c.size_of-at.ensures in
    (gates_step _ _ _ _ _ _ _ _ inv.0 (omega arith) _ header _ ins _ kind _ dff _ size, walk_step _ _ _ _ _ inv.1 (omega arith) _ header _ size)

pub returns : goal.returns
returns c = search (rules, walks, gates)
