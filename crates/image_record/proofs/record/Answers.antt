-- `record`: each need by its law.
use Rattle.image_record.proofs.Places.{part_inside, part_none, part_order, part_record}
use Rattle.image_record.proofs.record.Goals as goal

pub slice_bounds-result-count : goal.slice_bounds-result-count
slice_bounds-result-count c = part_order _ _ _ c.in-Some.ensures

pub slice_bounds-result-start : goal.slice_bounds-result-start
slice_bounds-result-start c = part_order _ _ _ c.in-Some.ensures

pub slice_bounds-result-end : goal.slice_bounds-result-end
slice_bounds-result-end c = part_inside _ _ _ c.in-Some.ensures

pub returns-in-Some : goal.returns-in-Some
returns-in-Some c = part_record _ _ _ c.in-Some.ensures

pub returns-in-None : goal.returns-in-None
returns-in-None c = part_none _ _ c.in-None.ensures
