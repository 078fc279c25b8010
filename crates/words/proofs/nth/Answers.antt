-- `nth`: each need by its law.
use native.Mathlib.Omega.{arith}
use mathlib.Core.Path.{sym, ◌∙◌}
use Rattle.model.proofs.Bytes.{get_or_words}
use Rattle.words.proofs.nth.Goals as goal

pub returns : goal.returns
returns c = c.word_at.ensures ∙ sym (get_or_words _ _ (omega arith))
