-- `write`: each need by its law.
use Rattle.write.proofs.Rooms.{write_short, write_room, write_done}
use Rattle.write.proofs.write.Goals as goal

pub image_len-len-requires : goal.image_len-len-requires
image_len-len-requires c = c.requires

pub returns-then-out-len : goal.returns-then-out-len
returns-then-out-len c = write_short _ _ _ _ c.image_len-len.ensures c.if-out-len.true

pub write_image-requires : goal.write_image-requires
write_image-requires c = write_room _ _ _ _ c.image_len-len.ensures c.requires c.if-out-len.false

pub shape_of-out : goal.shape_of-out
shape_of-out c = c.write_image.auto.out

pub returns : goal.returns
returns c = write_done _ _ _ _ c.image_len-len.ensures c.if-out-len.false _ c.write_image.ensures
