-- `layout`: what its loop keeps.
use Prim.Native.Nat.{◌-◌, ◌≤◌}
use mathlib.Core.Path.{◌≡◌}
use Rattle.model.specs.Image.{words}
use Rattle.records.specs.Layouts.{laid_from}
use Rattle.records.proofs.layout.Given as goal

abbrev pub invariant-loop-v : goal.invariant-loop-v
invariant-loop-v l = (laid_from l.nodes (words l.body) 0 0 l.lim ≡ laid_from (l.nodes - l._v) (words l.body) l.at l.ins l.lim) × (l.at ≤ l.lim) × (l.ins ≤ l.at)
