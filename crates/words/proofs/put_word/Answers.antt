-- `put_word`: the four bytes copied are the word's.
use mathlib.Core.Path.{◌∙◌}
use Rattle.words.proofs.Laws.{put_word_part}
use Rattle.words.proofs.put_word.Goals as goal

pub returns : goal.returns
returns c = put_word_part _ _ _ _ c.requires c.ranges.w.fits (c.copy_from_slice.ensures.after ∙ c.to_le_bytes.ensures)
