-- Laws of the room that a pass has.
use Prim.Native.Nat.{min, suc, zero, ℕ, ◌+◌, ◌-◌, ◌/◌, ◌<◌, ◌≤◌}
use mathlib.Core.Path.{ap, sym, ◌∙◌, ◌≡◌}
use mathlib.Core.Bool.{Bool, cond, false, true}
use mathlib.Core.List.{List, [], ◌++◌, ◌∷◌}
use native.Mathlib.Omega.{arith}
use native.Mathlib.Nat.{add_assoc, le_refl}
use native.Mathlib.Numerals.{add-one}
use mir.Syntax.{w64}
use mir.Val.{Fits}
use lib.ListN.{length}
use Rattle.model.specs.Gate.{Gate, fanin}
use Rattle.model.specs.Sharing.{takes}
use Rattle.shape.specs.Room.{buf_inputs, room_of}
use Rattle.tables.specs.Layout.{count_at, gate_at, nodes_of}
use Rattle.uses.specs.Loading.{Source}
use Rattle.shape.proofs.FactoringGrown.{buf_le}
use Rattle.tables.proofs.Building.{nodes_of_next, nodes_of_none}
use Rattle.tables.proofs.Holding.{fanin_next, length_ins, length_nodes_of}
use Rattle.uses.proofs.Walks.{source_few}
use Rattle.kinds.specs.declared.Family.{Family}

-- one more node
module _ (f : Family) (l : List ℕ) (v : ℕ) where
  buf_append : (a b : List Gate) → buf_inputs f (a ++ b) ≡ buf_inputs f a + buf_inputs f b
  unfolding buf_inputs
  buf_append [] b = omega arith
  buf_append (g ∷ a) b = rw (buf_append a b) (sym (add_assoc (cond (takes f g) 1 (length g.ins)) (buf_inputs f a) (buf_inputs f b)))

  pub buf_taken : takes f (gate_at l v) ≡ true → buf_inputs f (nodes_of l (suc v)) ≡ buf_inputs f (nodes_of l v) + 1
  unfolding buf_inputs
  buf_taken e = rw (nodes_of_next l v, buf_append (nodes_of l v) (gate_at l v ∷ [])) (rw e)

  pub buf_other : takes f (gate_at l v) ≡ false → buf_inputs f (nodes_of l (suc v)) ≡ buf_inputs f (nodes_of l v) + count_at l v
  unfolding buf_inputs
  buf_other e = rw (nodes_of_next l v, buf_append (nodes_of l v) (gate_at l v ∷ [])) (rw (e, length_ins l v) (omega arith))

pub buf_none : (f : Family) (l : List ℕ) → buf_inputs f (nodes_of l 0) ≡ 0
unfolding buf_inputs
buf_none f l = rw (nodes_of_none l)

fanin_upto : (l : List ℕ) (v d : ℕ) → fanin (nodes_of l v) ≤ fanin (nodes_of l (d + v))
fanin_upto l v zero = let e : 0 + v ≡ v = omega arith in rw e (le_refl _)
fanin_upto l v (suc d) = let e : suc d + v ≡ suc (d + v) = omega arith in rw (e, fanin_next l (d + v)) (omega (arith, fanin_upto l v d))

-- the inputs of the first nodes fit
pub fanin_some : (l : List ℕ) (v n : ℕ) → v ≤ n → fanin (nodes_of l v) ≤ fanin (nodes_of l n)
fanin_some l v n h = let e : n ≡ (n - v) + v = omega arith in rw (← e) at (fanin_upto l v (n - v))

pub buf_small : (f : Family) (l : List ℕ) (n v : ℕ) → Source l n → v ≤ n → buf_inputs f (nodes_of l v) ≤ 2048
buf_small f l n v S h = omega (arith, S.room, buf_le f (nodes_of l v), fanin_some l v n h)

-- ---- buf_inputs

pub record Summing (f : Family) (from : List ℕ) (n t v : ℕ) : Type 0 where
  pub upto : v ≤ n
  pub count : t ≡ buf_inputs f (nodes_of from v)

pub sum_start : (f : Family) (from : List ℕ) (n : ℕ) → Summing f from n 0 0
sum_start f from n = record { upto = omega arith; count = sym (buf_none f from) }

module _ (f : Family) (from : List ℕ) (n t v : ℕ) (inv : Summing f from n t v) (S : Source from n) where
  module _ (h : v < n) where
    pub sum_few : v < 512
    sum_few = source_few from n v S h

    pub sum_one : Fits w64 (t + 1)
    sum_one = record { fits = omega (arith, inv.count, buf_small f from n v S inv.upto) }

    pub sum_count : (c : ℕ) → c ≡ count_at from v → Fits w64 (t + c)
    sum_count c e = record { fits = omega (arith, inv.count, buf_small f from n v S inv.upto, (S.nodes v h).ends) }

    module _ (b : Bool) (eb : b ≡ takes f (gate_at from v)) where
      pub sum_taken : b ≡ true → Summing f from n (t + 1) (v + 1)
      sum_taken q = record { upto = omega arith; count = rw (add-one v, buf_taken f from v (sym eb ∙ q)) (ap (λ x. x + 1) inv.count) }

      pub sum_other : b ≡ false → (c : ℕ) → c ≡ count_at from v → Summing f from n (t + c) (v + 1)
      sum_other q c e = record { upto = omega arith; count = rw (add-one v, buf_other f from v (sym eb ∙ q), e) (ap (λ x. x + count_at from v) inv.count) }

  pub sum_end : n ≤ v → t ≡ buf_inputs f (nodes_of from n)
  sum_end h = let a = inv.upto in let e : v ≡ n = omega arith in inv.count ∙ ap (λ k. buf_inputs f (nodes_of from k)) e

pub ruleset sums = (sum_start, sum_few, sum_one, sum_count, sum_taken, sum_other, sum_end)

-- ---- room_for

module _ (f : Family) (from : List ℕ) (n t : ℕ) (S : Source from n) (et : t ≡ buf_inputs f (nodes_of from n)) where
  pub room_small : t ≤ 2048
  room_small = omega (arith, buf_small f from n n S (le_refl _))

  pub room_min : (r : ℕ) → r ≡ min (512 - n) ((2048 - t) / 2) → r ≡ room_of f (nodes_of from n)
  unfolding room_of
  room_min r e = rw (length_nodes_of from n, ← et) e

pub ruleset rooms = (room_small, room_min)
