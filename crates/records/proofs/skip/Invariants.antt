-- `skip`: what its loop keeps.
use Prim.Native.Nat.{◌-◌}
use mathlib.Core.Path.{◌≡◌}
use Rattle.model.specs.Image.{words, end_from}
use Rattle.records.proofs.skip.Given as goal

abbrev pub invariant-loop-v : goal.invariant-loop-v
invariant-loop-v l = end_from (l.k - l._v) (words l.body) l.at ≡ end_from l.k (words l.body) 0
