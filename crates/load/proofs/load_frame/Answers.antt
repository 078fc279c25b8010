-- `load_frame`: each need by its law.
use mathlib.Core.Path.{refl}
use Rattle.load.proofs.Accepting.{frame_start, frame_loadable, frame_counted}
use Rattle.load.proofs.load_frame.Goals as goal

pub slice_bounds-load_body-count : goal.slice_bounds-load_body-count
slice_bounds-load_body-count c = frame_start _ _ _ c.requires

pub slice_bounds-load_body-start : goal.slice_bounds-load_body-start
slice_bounds-load_body-start c = frame_start _ _ _ c.requires

pub load_body-requires : goal.load_body-requires
load_body-requires c = frame_loadable _ _ _ c.requires _ _ _ refl refl refl

pub returns : goal.returns
returns c = frame_counted _ _ _ c.requires _ _ _ refl refl refl _ c.load_body.ensures
