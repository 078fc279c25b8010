-- `reach`: what its loop keeps.
use mathlib.Core.Path.{◌≡◌}
use Prim.Native.Nat.{◌+◌, ◌-◌}
use Rattle.model.specs.Normal.{most}
use Rattle.model.specs.Image.{words}
use Rattle.wiring.specs.Reach.{reach_from}
use Rattle.wiring.proofs.reach.Given as goal

abbrev pub invariant-loop-at : goal.invariant-loop-at
invariant-loop-at l = reach_from l.inputs l.count (words l.body) l.from ≡ most l.top (reach_from l.inputs (l.from + l.count - l.at) (words l.body) l.at)
