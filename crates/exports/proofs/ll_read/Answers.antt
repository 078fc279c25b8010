-- `ll_read`: each need by its path.
use Rattle.exports.proofs.Exporting.{exported, read_fits}
use Rattle.exports.proofs.ll_read.Goals as goal

pub read-requires : goal.read-requires
read-requires c = tt

pub pack-requires : goal.pack-requires
pack-requires c = read_fits _ _ _ _ _ _ _ _ c.read.ensures

pub shape_of-out : goal.shape_of-out
shape_of-out c = c.out-1.given

pub shape_of-a : goal.shape_of-a
shape_of-a c = c.a-1.given

pub shape_of-b : goal.shape_of-b
shape_of-b c = c.b-1.given

pub returns : goal.returns
returns c = exported _ _ _ _ _ _ _ _ c.read.ensures _ c.pack.ensures
