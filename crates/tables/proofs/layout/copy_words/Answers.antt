-- `copy_words`: word by word to the end.
use native.Mathlib.Nat.{le_antisymm}
use lib.Seq.{paste-zero}
use Rattle.tables.proofs.Places.{words_next, words_end}
use Rattle.tables.proofs.layout.copy_words.Goals as goal

pub loop-i-init : goal.loop-i-init
loop-i-init c = paste-zero _ 0 c.args.from.now

pub loop-i-preserved : goal.loop-i-preserved
loop-i-preserved c = words_next _ _ c.requires _ _ c.loop-i.invariant c.loop-i-test.true

pub returns : goal.returns
returns c = words_end _ _ c.requires _ _ c.loop-i.invariant (le_antisymm c.loop-i.auto.i-end c.loop-i-test.false)
