-- `Text::put_mark`: the mark, or nothing.
use Rattle.text_parts.proofs.Puts.{mark_none}
use Rattle.text_parts.proofs.Text.put_mark.Goals as goal

pub returns-else-inverted : goal.returns-else-inverted
returns-else-inverted c = mark_none _ _ c.if-inverted.false
