use borrow.Author.Rules.{rules}
use Rattle.records.proofs.Layouts.{walk_fits, walk_inside}
use Rattle.records.proofs.skip.Goals as goal

pub nth-requires : goal.nth-requires
nth-requires c = walk_inside _ _ _ _ _ c.loop-v.invariant c.loop-v-test.true c.requires

pub overflow_add-at : goal.overflow_add-at
overflow_add-at c = search (rules, walk_fits)
