-- `copy_words`: what its loop keeps.
use mathlib.Core.Path.{◌≡◌}
use lib.Seq.{paste}
use Rattle.tables.proofs.layout.copy_words.Given as goal

abbrev pub invariant-loop-i : goal.invariant-loop-i
invariant-loop-i l = l.to ≡ paste l.initial.to 0 l.from l.i
