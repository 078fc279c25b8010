-- The recursion of make_mux: what falls, and that a call on the inverted signals gives the same.
use mathlib.Core.Path.{◌≡◌, sym, ap, ◌∙◌}
use Prim.Native.Nat.{ℕ, ◌+◌, ◌*◌, ◌≤◌, ◌<◌}
use native.Mathlib.Omega.{arith}
use mathlib.Core.Bool.{Bool, true, false, not}
use Rattle.laws.specs.Bools.{bit}
use Rattle.model.specs.Signal.{is_inverted, neg}
use Rattle.model.proofs.Words.{neg_plain}
use Rattle.model.specs.Normal.{Norm, mux_plain, mux_select, make_mux}

turned : (s n : ℕ) → n ≡ neg s → is_inverted s ≡ true → is_inverted n ≡ false
turned s n e h = ap is_inverted e ∙ neg_plain s h

-- inversions left: of the select before the last input
unfoldable pub mux_left : ℕ → ℕ → ℕ
mux_left s b = 2 * bit (is_inverted s) + bit (is_inverted b)

bit_le : (b : Bool) → bit b ≤ 1
bit_le true = omega arith
bit_le false = omega arith

module _ (s a b : ℕ) (z t : Bool) (r : Norm) where
  pub mux_swap : (n : ℕ) → t ≡ is_inverted s → t ≡ true → n ≡ neg s → r ≡ make_mux n b a z → r ≡ make_mux s a b z
  unfolding make_mux
  mux_swap n e h k q = let i : is_inverted n ≡ false = turned s n k (sym e ∙ h) in q ∙ rw (i, ← e, h, k)

  pub mux_flip : (u : Bool) (na nb : ℕ) → t ≡ is_inverted s → t ≡ false → u ≡ is_inverted b → u ≡ true → na ≡ neg a → nb ≡ neg b
      → r ≡ make_mux s na nb (not z) → r ≡ make_mux s a b z
  unfolding make_mux mux_select
  mux_flip u na nb e h f g ea eb q = let i : is_inverted nb ≡ false = turned b nb eb (sym f ∙ g) in q ∙ rw (i, ← e, h, ← f, g, ea, eb)

  pub mux_rest_lem : (u : Bool) → t ≡ is_inverted s → t ≡ false → u ≡ is_inverted b → u ≡ false → r ≡ mux_plain s a b z → r ≡ make_mux s a b z
  unfolding make_mux mux_select
  mux_rest_lem u e h f g q = q ∙ rw (← e, h, ← f, g)

pub mux_swap_falls : (s a b n k : ℕ) (t : Bool) → mux_left s b ≡ k → t ≡ is_inverted s → t ≡ true → n ≡ neg s → mux_left n a < k
unfolding mux_left
mux_swap_falls s a b n k t m e h q =
    let i : is_inverted n ≡ false = turned s n q (sym e ∙ h) in
    let j : is_inverted s ≡ true = sym e ∙ h in
    let p : bit (is_inverted a) ≤ 1 = bit_le (is_inverted a) in
    rw (← m, i, j) (omega arith)

pub mux_flip_falls : (s b nb k : ℕ) (u : Bool) → mux_left s b ≡ k → u ≡ is_inverted b → u ≡ true → nb ≡ neg b → mux_left s nb < k
unfolding mux_left
mux_flip_falls s b nb k u m e h q =
    let i : is_inverted nb ≡ false = turned b nb q (sym e ∙ h) in
    let j : is_inverted b ≡ true = sym e ∙ h in
    rw (← m, i, j) (omega arith)

pub ruleset mux_turns = (mux_swap, mux_flip, mux_rest_lem, mux_swap_falls, mux_flip_falls)
