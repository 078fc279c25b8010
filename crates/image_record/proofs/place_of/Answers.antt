-- `place_of`: each need by its law.
use mathlib.Core.Path.{◌∙◌}
use Rattle.image_record.proofs.Places.{place_bytes, place_end, place_is, place_none, place_nth, place_refused, place_size, place_skip, place_start, place_sum}
use Rattle.image_record.proofs.place_of.Goals as goal

pub returns-in_err-f : goal.returns-in_err-f
returns-in_err-f c = c.from_residual.ensures ∙ place_refused _ _ _ c.check.ensures c.in_err-f.ensures.value

pub returns-then-f-k : goal.returns-then-f-k
returns-then-f-k c = place_none _ _ c.check.ensures _ c.in_ok-f.ensures.value _ c.if-f-k.true

pub slice_bounds-body-count : goal.slice_bounds-body-count
slice_bounds-body-count c = place_start _ _ c.check.ensures _ c.in_ok-f.ensures.value

pub slice_bounds-body-start : goal.slice_bounds-body-start
slice_bounds-body-start c = place_start _ _ c.check.ensures _ c.in_ok-f.ensures.value

pub skip-at-requires : goal.skip-at-requires
skip-at-requires c = place_skip _ _ c.check.ensures _ c.in_ok-f.ensures.value _ c.if-f-k.false

pub nth-requires : goal.nth-requires
nth-requires c = place_nth _ _ c.check.ensures _ c.in_ok-f.ensures.value _ c.if-f-k.false _ c.skip-at.ensures

pub overflow_mul-from : goal.overflow_mul-from
overflow_mul-from c = place_bytes _ _ c.check.ensures _ c.in_ok-f.ensures.value _ c.if-f-k.false _ c.skip-at.ensures c.well_formed.0.0

pub overflow_add-from : goal.overflow_add-from
overflow_add-from c = place_sum _ _ c.check.ensures _ c.in_ok-f.ensures.value _ c.if-f-k.false _ c.skip-at.ensures c.well_formed.0.0

pub overflow_mul-result : goal.overflow_mul-result
overflow_mul-result c = place_size _ _ c.check.ensures _ c.in_ok-f.ensures.value _ c.if-f-k.false _ c.skip-at.ensures _ _ c.nth.ensures c.size_of-size.ensures c.well_formed.0.0

pub overflow_add-result : goal.overflow_add-result
overflow_add-result c = place_end _ _ c.check.ensures _ c.in_ok-f.ensures.value _ c.if-f-k.false _ c.skip-at.ensures _ _ c.nth.ensures c.size_of-size.ensures c.well_formed.0.0

pub returns : goal.returns
returns c = place_is _ _ c.check.ensures _ c.in_ok-f.ensures.value _ c.if-f-k.false _ c.skip-at.ensures _ _ c.nth.ensures c.size_of-size.ensures
