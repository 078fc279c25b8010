-- `of_records`: what its loop keeps, and each need by its law.
use mathlib.Core.Path.{◌≡◌}
use Prim.Native.Nat.{◌-◌}
use Rattle.model.specs.Image.{words, end_from}
use Rattle.wiring.specs.Reach.{wiring_from}
use Rattle.wiring.proofs.Wires.{joined}
use Rattle.wiring.proofs.of_records.Given as goal

abbrev pub invariant-loop-v : goal.invariant-loop-v
invariant-loop-v l = (wiring_from l.inputs l.nodes 0 l.nodes (words l.body) 0 ≡ joined l.named l.sorted (wiring_from l.inputs l.nodes l.v (l.nodes - l.v) (words l.body) l.at))
    × (end_from (l.nodes - l.v) (words l.body) l.at ≡ end_from l.nodes (words l.body) 0)
