-- Masks and shifts of a word, as the model says them.
use mathlib.Core.Path.{◌≡◌, sym, ◌∙◌}
use mathlib.Core.Logic.{◌≢◌}
use Prim.Native.Nat.{ℕ, ◌+◌, ◌-◌, ◌*◌, ◌/◌, ◌%◌, ◌≤◌, ◌<◌}
use native.Mathlib.Omega.{arith}
use native.Mathlib.Decide.{ℕ_discrete, dec_lt}
use mathlib.Core.Bool.{Bool, true, false, not, ◌&&◌}
use mathlib.Core.List.{List}
use lib.ListN.{get_or}
use lib.Dec.{eqb}
use lib.Bits.{bit_and, bit_xor, and_mask, and_high, xor_step, xor_zero_r, differ}
use mir.Val.{bool_byte}
use borrow.Author.Tests.{eq-eqb, ne_eqb, lt-ltb, le-ltb, ltb-false, eqb-false, not-true, not-false}
use Rattle.laws.proofs.Bools.{true_false, taut1}
use Rattle.model.specs.Signal.{is_inverted, flip, neg, without_inversion, is_input, is_var, is_constant}
use Rattle.model.proofs.Words.{plain_is, neg_odd, neg_even, flip_false, remap_constant, remap_input, remap_var}
use Rattle.signal.specs.Signals.{remapped}

pub mask_input : (s : ℕ) → s < 4294967296 → not (eqb (bit_and s 2147483648) 0) ≡ is_input s
mask_input s h =
    let e : bit_and s 2147483648 ≡ s / 2147483648 % 2 * 2147483648 = and_high s 1 31 in
    let q : s / 2147483648 < 2 = omega arith in
    elim (dec_lt s 2147483648) [
      | yes l ↦ let d : s / 2147483648 ≡ 0 = omega arith in rw (e, lt-ltb s 2147483648 l, d)
      | no l ↦ let d : s / 2147483648 ≡ 1 = omega arith in rw (e, le-ltb s 2147483648 (omega arith), d)
    ]

pub mask_inverted : (s : ℕ) → not (eqb (bit_and s 1) 0) ≡ is_inverted s
unfolding is_inverted
mask_inverted s =
    let e : bit_and s 1 ≡ s % 2 = and_mask s 1 in
    elim (ℕ_discrete (s % 2) 1) [
      | yes l ↦ rw (e, eq-eqb (s % 2) 1 l, ne_eqb (s % 2) 0 (omega arith))
      | no l ↦ rw (e, ne_eqb (s % 2) 1 l, eq-eqb (s % 2) 0 (omega arith))
    ]

pub mask_plain : (s : ℕ) → s < 4294967296 → bit_and s 4294967294 ≡ without_inversion s
mask_plain s h = let e : bit_and s 4294967294 ≡ s / 2 % 2147483648 * 2 = and_high s 31 1 in let p : without_inversion s ≡ s / 2 * 2 = plain_is s in omega arith

pub mask_not : (s : ℕ) → bit_xor s 1 ≡ neg s
mask_not s =
    let e : bit_xor s 1 ≡ bit_xor (s / 2) 0 * 2 + differ (s % 2) 1 = xor_step s 1 in
    let z : bit_xor (s / 2) 0 ≡ s / 2 = xor_zero_r (s / 2) in
    elim (ℕ_discrete (s % 2) 1) [
      | yes l ↦ let n : neg s ≡ s - 1 = neg_odd s l in let d : differ (s % 2) 1 ≡ 0 = rw l in omega arith
      | no l ↦
          let o : s % 2 ≡ 0 = omega arith in
          let n : neg s ≡ s + 1 = neg_even s o in
          let d : differ (s % 2) 1 ≡ 1 = rw o in
          omega arith
    ]

pub mask_flip : (s : ℕ) (b : Bool) → bit_xor s (bool_byte b) ≡ flip s b
mask_flip s true = mask_not s
mask_flip s false = xor_zero_r s ∙ sym (flip_false s)

-- ---- remap_order

is_var_lem : (s : ℕ) → is_var s ≡ true → (2 ≤ s) × (s < 2147483648)
unfolding is_var
is_var_lem s e = elim (ℕ_discrete (s / 2) 0) [
  | yes h ↦ true_false (sym e ∙ rw (eq-eqb (s / 2) 0 h) (taut1 (λ b. b && false) (λ b. false) tt (not (is_input s))))
  | no h ↦ elim (dec_lt s 2147483648) [
    | yes l ↦ (omega arith, l)
    | no l ↦ true_false (sym e ∙ rw (le-ltb s 2147483648 (omega arith)))
  ]
]

-- what `is_input` and `is_constant` tell
pub input_high : (s : ℕ) (t : Bool) → t ≡ is_input s → t ≡ true → 2147483648 ≤ s
input_high s t e h = ltb-false s 2147483648 (not-true _ (sym e ∙ h))

pub some_low : (s : ℕ) (t : Bool) → t ≡ is_constant s → t ≡ false → 2 ≤ s
some_low s t e h = let d : s / 2 ≢ 0 = eqb-false (s / 2) 0 (sym e ∙ h) in omega arith

-- what `is_var` tells
module _ (s : ℕ) (t : Bool) (e : t ≡ is_var s) where
  pub var_low : not t ≡ false → 2 ≤ s
  var_low f = (is_var_lem s (sym e ∙ not-false t f)).0

  pub var_high : not t ≡ false → s < 2147483648
  var_high f = (is_var_lem s (sym e ∙ not-false t f)).1

  pub remap_stays : (l : List ℕ) → not t ≡ true → s ≡ remapped l s
  unfolding is_var
  remap_stays l f = elim (ℕ_discrete (s / 2) 0) [
    | yes h ↦ sym (remap_constant (λ v. get_or l v 0) s h)
    | no h ↦ elim (dec_lt s 2147483648) [
      | yes k ↦ true_false (rw (lt-ltb s 2147483648 k, ne_eqb (s / 2) 0 h) at (sym e) ∙ not-true t f)
      | no k ↦ sym (remap_input (λ v. get_or l v 0) s (omega arith))
    ]
  ]

pub remap_goes : (s : ℕ) (t : List ℕ) (v w r : ℕ) (i : Bool) → 2 ≤ s → s < 2147483648 → v ≡ s / 2 - 1 → w ≡ get_or t v 0 → i ≡ is_inverted s
    → r ≡ flip w i → r ≡ remapped t s
remap_goes s t v w r i h l e d j f = f ∙ rw (d, e, j) (sym (remap_var (λ v. get_or t v 0) s h l))

pub ruleset masks = (mask_input, mask_inverted, mask_plain, mask_not, mask_flip, var_low, var_high, remap_stays, remap_goes)
