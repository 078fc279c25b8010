use native.Mathlib.Omega.{arith}
use borrow.Author.Rules.{rules}
use Rattle.repeats.proofs.Listed.{inner_next, inner_start, listed}
use Rattle.repeats.proofs.repeats.Goals as goal

pub first_at-f-requires : goal.first_at-f-requires
first_at-f-requires c = search (rules, listed)

pub count_at-n-requires : goal.count_at-n-requires
count_at-n-requires c = search (rules, listed)

pub outer-init : goal.outer-init
outer-init c = search (rules, listed)

pub overflow_add-f : goal.overflow_add-f
overflow_add-f c = search (rules, listed)

pub input_at-x-requires : goal.input_at-x-requires
input_at-x-requires c = search (rules, listed)

pub loop-j-init : goal.loop-j-init
loop-j-init c = inner_start _ _ _ _ _ _ c.outer.invariant (omega arith)

pub overflow_add-f-in-loop-j : goal.overflow_add-f-in-loop-j
overflow_add-f-in-loop-j c = search (rules, listed)

pub input_at-requires : goal.input_at-requires
input_at-requires c = search (rules, listed)

pub loop-j-smaller : goal.loop-j-smaller
loop-j-smaller c = search (rules, listed)

pub loop-j-preserved : goal.loop-j-preserved
loop-j-preserved c = inner_next _ _ _ _ c.first_at-f.ensures c.count_at-n.ensures _ _ _ _ c.loop-j.invariant (omega arith) _ c.input_at.ensures c.if-input_at-x.false

pub outer-smaller : goal.outer-smaller
outer-smaller c = search (rules, listed)

pub outer-preserved : goal.outer-preserved
outer-preserved c = search (rules, listed)

pub returns-after-outer : goal.returns-after-outer
returns-after-outer c = search (rules, listed)

pub returns-then-input_at-x : goal.returns-then-input_at-x
returns-then-input_at-x c = search (rules, listed)
