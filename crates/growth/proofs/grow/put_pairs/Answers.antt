use native.Mathlib.Omega.{arith}
use borrow.Author.Rules.{rules}
use Rattle.growth.proofs.Wholes.{pairings, pairs_next}
use Rattle.growth.proofs.grow.put_pairs.Goals as goal

pub loop-j-init : goal.loop-j-init
loop-j-init c = search (rules, pairings)

pub overflow_add-n : goal.overflow_add-n
overflow_add-n c = search (rules, pairings)

pub pair_first-a-requires : goal.pair_first-a-requires
pair_first-a-requires c = search (rules, pairings)

pub overflow_add-n-in-loop-j : goal.overflow_add-n-in-loop-j
overflow_add-n-in-loop-j c = search (rules, pairings)

pub pair_second-b-requires : goal.pair_second-b-requires
pair_second-b-requires c = search (rules, pairings)

pub overflow_add-n-in-loop-j-2 : goal.overflow_add-n-in-loop-j-2
overflow_add-n-in-loop-j-2 c = search (rules, pairings)

pub overflow_mul-j : goal.overflow_mul-j
overflow_mul-j c = search (rules, pairings)

pub overflow_add-at : goal.overflow_add-at
overflow_add-at c = search (rules, pairings)

pub put_two-requires : goal.put_two-requires
put_two-requires c = search (rules, pairings)

pub loop-j-smaller : goal.loop-j-smaller
loop-j-smaller c = search (rules, pairings)

pub loop-j-preserved : goal.loop-j-preserved
loop-j-preserved c = pairs_next _ _ _ _ _ _ _ c.loop-j.invariant c.requires (omega arith) _ _ _ c.pair_first-a.ensures c.pair_second-b.ensures c.put_two.ensures (search rules)

pub shape_of-to : goal.shape_of-to
shape_of-to c = search (rules, pairings)

pub returns : goal.returns
returns c = search (rules, pairings)
