-- `put_input`: each need by its law.
use mathlib.Core.Path.{refl}
use Rattle.tables.specs.Layout.{put_input}
use Rattle.tables.proofs.layout.put_input.Goals as goal

pub returns : goal.returns
unfolding put_input
returns c = refl
