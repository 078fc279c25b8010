-- `write_mapping`: what its loop keeps.
use mathlib.Core.Path.{◌≡◌}
use Rattle.model.specs.Answers.{laid_over}
use Rattle.write_image.specs.Writing.{mapping_in}
use Rattle.write_image.proofs.write_mapping.Given as goal

abbrev pub invariant-loop-i : goal.invariant-loop-i
invariant-loop-i l = l.map ≡ laid_over (mapping_in l.from l.i) l.initial.map
