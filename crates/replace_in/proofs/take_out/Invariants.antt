-- `take_out`: what its loop keeps, and each need by its law.
use Prim.Native.Nat.{◌+◌, ◌-◌, ◌≤◌}
use mathlib.Core.Path.{◌≡◌}
use lib.ListN.{length}
use Rattle.model.specs.Sharing.{take_out}
use Rattle.pairs.specs.Lists.{front, put_list}
use Rattle.replace_in.proofs.take_out.Given as goal

abbrev pub invariant-loop-j : goal.invariant-loop-j
invariant-loop-j l = (l.j ≤ l.n) × (l.w ≤ l.j) × (l.f + l.n ≤ 2048) × (length l.area ≡ length l.initial.area) × (l.w ≡ length (take_out l.a l.b (front l.initial.area l.f l.j))) × (l.area ≡ put_list l.initial.area l.f (take_out l.a l.b (front l.initial.area l.f l.j)))

abbrev pub decreases-loop-j : goal.decreases-loop-j
decreases-loop-j l = l.n - l.j
