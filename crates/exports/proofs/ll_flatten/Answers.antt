-- `ll_flatten`: each need by its path.
use Rattle.exports.proofs.Exporting.{exported, flatten_fits}
use Rattle.exports.proofs.ll_flatten.Goals as goal

pub flatten-requires : goal.flatten-requires
flatten-requires c = tt

pub pack-requires : goal.pack-requires
pack-requires c = flatten_fits _ _ _ _ _ _ _ _ _ c.flatten.ensures

pub shape_of-out : goal.shape_of-out
shape_of-out c = c.out-1.given

pub shape_of-a : goal.shape_of-a
shape_of-a c = c.a-1.given

pub shape_of-b : goal.shape_of-b
shape_of-b c = c.b-1.given

pub returns : goal.returns
returns c = exported _ _ _ _ _ _ _ _ c.flatten.ensures _ c.pack.ensures
