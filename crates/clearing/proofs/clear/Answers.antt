use mathlib.Core.Path.{refl}
use Rattle.clearing.proofs.Zeros.{fronts_part, blocks}
use borrow.Author.Rules.{rules}
use Rattle.clearing.proofs.clear.Goals as goal

pub loop-k-preserved : goal.loop-k-preserved
loop-k-preserved c = fronts_part _ c.requires _ _ c.loop-k.invariant _ _ _ c.loop-k-test.true refl c.clear_block.ensures.whole refl (search rules)

pub returns : goal.returns
returns c = search (rules, blocks)
