-- `ll_share`: each need by its path.
use Rattle.exports.proofs.Exporting.{exported, share_fits}
use Rattle.exports.proofs.ll_share.Goals as goal

pub share-requires : goal.share-requires
share-requires c = tt

pub pack-requires : goal.pack-requires
pack-requires c = share_fits _ _ _ _ _ _ _ _ _ c.share.ensures

pub shape_of-out : goal.shape_of-out
shape_of-out c = c.out-1.given

pub shape_of-a : goal.shape_of-a
shape_of-a c = c.a-1.given

pub shape_of-b : goal.shape_of-b
shape_of-b c = c.b-1.given

pub returns : goal.returns
returns c = exported _ _ _ _ _ _ _ _ c.share.ensures _ c.pack.ensures
