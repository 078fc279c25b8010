use native.Mathlib.Omega.{arith}
use borrow.Author.Rules.{rules}
use Rattle.replacing.proofs.Swaps.{swap_laid, swap_step, swaps}
use Rattle.replacing.proofs.swap_all.Goals as goal

pub loop-i-init : goal.loop-i-init
loop-i-init c = search (rules, swaps)

pub replace_in-requires : goal.replace_in-requires
replace_in-requires c = search (rules, swaps)

pub loop-i-smaller : goal.loop-i-smaller
loop-i-smaller c = search (rules, swaps)

pub loop-i-preserved : goal.loop-i-preserved
loop-i-preserved c = (omega arith, search rules, swap_laid _ _ _ _ _ _ _ c.replace_in.ensures c.loop-i.invariant.2 (omega arith), swap_step _ 0 _ _ _ _ _ c.loop-i.invariant.3 _ c.replace_in.ensures)

pub shape_of-area : goal.shape_of-area
shape_of-area c = search (rules, swaps)

pub returns : goal.returns
returns c = search (rules, swaps)
