-- `move_forward`: what its loop keeps.
use mathlib.Core.Path.{◌≡◌}
use Rattle.tables.specs.Building.{inputs_from, put_inputs}
use Rattle.tables.proofs.layout.move_forward.Given as goal

abbrev pub invariant-loop-j : goal.invariant-loop-j
invariant-loop-j l = l.net ≡ put_inputs l.initial.net l.at (inputs_from l.initial.net l.f) l.j
