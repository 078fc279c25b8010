-- `clear_used`: the slice filled, and what lies behind it.
use native.Mathlib.Omega.{arith}
use borrow.Author.Rules.{rules}
use Rattle.pairs.proofs.Places.{used_cleared}
use Rattle.pairs.proofs.lists.clear_used.Goals as goal

pub returns : goal.returns
returns c = used_cleared _ _ _ _ c.requires (omega arith) (c.fill.ensures.after (search rules))
