-- `made`: what its loop keeps.
use mathlib.Core.Path.{◌≡◌}
use mathlib.Core.List.{map}
use lib.ListN.{take}
use Rattle.gates.proofs.made.Given as goal

abbrev pub invariant-loop-i : goal.invariant-loop-i
invariant-loop-i g l = take l.i l.list ≡ map (λ s. s.a) (take l.i l.ins)
