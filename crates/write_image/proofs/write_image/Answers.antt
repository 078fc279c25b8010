-- `write_image`: each need by its law.
use Rattle.write_image.proofs.Writes.{records_room, outs_fit, end_fit, outs_asked, trailer_asked, image_laid}
use Rattle.write_image.proofs.write_image.Goals as goal

pub write_nodes-end-requires : goal.write_nodes-end-requires
write_nodes-end-requires c = records_room _ _ _ c.requires

pub write_outputs-requires : goal.write_outputs-requires
write_outputs-requires c = outs_asked _ _ _ c.requires _ _ c.write_nodes-end.ensures c.write_nodes-end.auto.out

pub overflow_mul-counts : goal.overflow_mul-counts
overflow_mul-counts c = outs_fit _ _ _ c.requires _ _ c.write_nodes-end.ensures

pub overflow_add-end : goal.overflow_add-end
overflow_add-end c = end_fit _ _ _ c.requires _ _ c.write_nodes-end.ensures

pub write_trailer-requires : goal.write_trailer-requires
write_trailer-requires c = trailer_asked _ _ _ c.requires _ _ c.write_nodes-end.ensures c.write_nodes-end.auto.out _ c.write_outputs.auto.out

pub returns : goal.returns
returns c = image_laid _ _ _ c.requires _ _ c.write_nodes-end.ensures _ _ c.write_outputs.ensures c.write_trailer.ensures
