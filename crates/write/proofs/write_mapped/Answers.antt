-- `write_mapped`: each need by its law.
use Rattle.write.proofs.Rooms.{write_room, mapped_short, map_short, mapped_room, mapped_done}
use Rattle.write.proofs.write_mapped.Goals as goal

pub image_len-len-requires : goal.image_len-len-requires
image_len-len-requires c = c.requires.held

pub returns-then-out-len : goal.returns-then-out-len
returns-then-out-len c = mapped_short _ _ _ _ c.image_len-len.ensures _ _ c.requires c.if-out-len.true

pub returns-then-map-old : goal.returns-then-map-old
returns-then-map-old c = map_short _ _ _ _ c.image_len-len.ensures _ _ c.requires c.if-out-len.false c.if-map-old.true

pub write_image-requires : goal.write_image-requires
write_image-requires c = write_room _ _ _ _ c.image_len-len.ensures c.requires.held c.if-out-len.false

pub write_mapping-requires : goal.write_mapping-requires
write_mapping-requires c = mapped_room _ _ _ _ c.requires c.if-map-old.false

pub shape_of-out : goal.shape_of-out
shape_of-out c = c.write_image.auto.out

pub shape_of-map : goal.shape_of-map
shape_of-map c = c.write_mapping.auto.map

pub returns : goal.returns
returns c = mapped_done _ _ _ _ c.image_len-len.ensures _ _ c.requires c.if-out-len.false c.if-map-old.false _ _ c.write_image.ensures c.write_mapping.ensures
