-- `record_len`: each need by its law.
use Rattle.write_image.proofs.Writes.{len_lut, len_plain}
use Rattle.write_image.proofs.record_len.Goals as goal

pub returns-then-eq : goal.returns-then-eq
returns-then-eq c = len_lut _ _ _ c.count_at-n.ensures _ c.kind_at.ensures _ c.kind_of.ensures _ c.eq.ensures c.requires c.if-eq.true

pub returns-else-eq : goal.returns-else-eq
returns-else-eq c = len_plain _ _ _ c.count_at-n.ensures _ c.kind_at.ensures _ c.kind_of.ensures _ c.eq.ensures c.if-eq.false
