-- `put_output`: each need by its law.
use mathlib.Core.Path.{refl}
use Rattle.tables.specs.Layout.{put_output}
use Rattle.tables.proofs.layout.put_output.Goals as goal

pub returns : goal.returns
unfolding put_output
returns c = refl
