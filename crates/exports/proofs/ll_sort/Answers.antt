-- `ll_sort`: each need by its path.
use Rattle.exports.proofs.Exporting.{exported2, sort_fits}
use Rattle.exports.proofs.ll_sort.Goals as goal

pub sort-requires : goal.sort-requires
sort-requires c = tt

pub pack-requires : goal.pack-requires
pack-requires c = sort_fits _ _ _ _ _ _ _ _ _ _ c.sort.ensures

pub shape_of-out : goal.shape_of-out
shape_of-out c = c.out-1.given

pub shape_of-map : goal.shape_of-map
shape_of-map c = c.map-1.given

pub shape_of-a : goal.shape_of-a
shape_of-a c = c.a-1.given

pub shape_of-b : goal.shape_of-b
shape_of-b c = c.b-1.given

pub returns : goal.returns
returns c = exported2 _ _ _ _ _ _ _ _ _ _ c.sort.ensures _ c.pack.ensures
