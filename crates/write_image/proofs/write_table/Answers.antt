-- `write_table`: each need by its law.
use Rattle.write_image.proofs.Writes.{put_plain, low_room, high_room, put_lut}
use Rattle.write_image.proofs.write_table.Goals as goal

pub returns-then-ne : goal.returns-then-ne
returns-then-ne c = put_plain _ _ _ _ c.requires _ c.kind_at.ensures _ c.kind_of.ensures _ c.ne.ensures c.if-ne.true

pub put_word-requires : goal.put_word-requires
put_word-requires c = low_room _ _ _ _ c.requires _ c.kind_at.ensures _ c.kind_of.ensures _ c.ne.ensures c.if-ne.false

pub put_word-requires-2 : goal.put_word-requires-2
put_word-requires-2 c = high_room _ _ _ _ c.requires _ c.kind_at.ensures _ c.kind_of.ensures _ c.ne.ensures c.if-ne.false _ c.put_word.auto.dst

pub returns : goal.returns
returns c = put_lut _ _ _ _ c.requires _ c.kind_at.ensures _ c.kind_of.ensures _ c.ne.ensures c.if-ne.false _ _ c.low_at.ensures c.high_at.ensures c.low_at.type_inv _ _ c.put_word.ensures c.put_word-2.ensures
