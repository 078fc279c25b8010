-- `areas_short`: each need by its law.
use mathlib.Core.Path.{refl}
use Rattle.model.specs.Answers.{areas_short}
use Rattle.tables.proofs.layout.areas_short.Goals as goal

pub returns : goal.returns
unfolding areas_short
returns c = refl
