-- The laws of numbers, names and signals as the code meets them.
use mathlib.Core.Path.{◌≡◌, sym, ◌∙◌}
use Prim.Native.Nat.{ℕ, ◌+◌, ◌-◌, ◌/◌, ◌%◌, ◌≤◌, ◌<◌}
use native.Mathlib.Omega.{arith}
use mathlib.Core.Bool.{Bool, true, false}
use mathlib.Core.List.{[], ◌∷◌}
use borrow.Author.Tests.{eqb-true, ltb-true, not-false}
use Rattle.laws.specs.Bools.{bit}
use Rattle.laws.proofs.Choices.{by_bool}
use Rattle.model.specs.Signal.{is_inverted, is_input, is_constant}
use Rattle.model.specs.Listing.{decimal, mark_text, signal_text}
use Rattle.model.proofs.Words.{inv_odd, inv_even, constant_ref, var_ref, input_ref}
use Rattle.signal.proofs.Masks.{input_high, some_low}
use Rattle.text_parts.specs.Putting.{Wrote}
use Rattle.text_parts.specs.declared.Text.{Text}
use Rattle.listing.proofs.Decimals.{decimal_low, decimal_high}
use Rattle.text_parts.proofs.Puts.{wrote_then}

module _ (t : Text) (n : ℕ) where
  pub number_low : n < 10 → (x : ℕ) → x ≡ 48 + n → (t' : Text) → Wrote t (x ∷ []) t' → Wrote t (decimal n) t'
  number_low h x e t' P = rw (decimal_low n h, ← e) P

  pub number_high : 10 ≤ n → (t1 : Text) → Wrote t (decimal (n / 10)) t1 → (x : ℕ) → x ≡ 48 + n % 10 → (t2 : Text) → Wrote t1 (x ∷ []) t2
      → Wrote t (decimal n) t2
  number_high h t1 P x e t2 Q = rw (decimal_high n h, ← e) (wrote_then P Q)

pub ruleset numbers = (number_low, number_high)

-- ---- put_signal

constant_bit : (s : ℕ) → s / 2 ≡ 0 → bit (is_inverted s) ≡ s
constant_bit s h =
    by_bool (is_inverted s)
    (λ e. rw e (omega (arith, inv_odd s e)))
    (λ e. rw e (omega (arith, inv_even s e)))

module _ (t : Text) (s : ℕ) (c : Bool) (e : c ≡ is_constant s) where
  pub signal_constant : c ≡ true → (t' : Text) → Wrote t (decimal s) t' → Wrote t (signal_text s) t'
  unfolding signal_text
  signal_constant h t' P =
      let z : s / 2 ≡ 0 = eqb-true (s / 2) 0 (sym e ∙ h) in
      rw (constant_ref s z, constant_bit s z) P

  module _ (h : c ≡ false) (i : Bool) (f : i ≡ is_inverted s) (t1 : Text) (P : Wrote t (mark_text i) t1) (u : Bool) (g : u ≡ is_input s) (n : ℕ)
      (t2 : Text) where
    pub signal_input : u ≡ true → n ≡ 2147483647 - s / 2 → Wrote t1 (105 ∷ decimal n) t2 → Wrote t (signal_text s) t2
    unfolding signal_text
    signal_input k q Q =
        rw (input_ref s (input_high s u g k), ← f, ← q) (wrote_then P Q)

    pub signal_var : u ≡ false → n ≡ s / 2 - 1 → Wrote t1 (120 ∷ decimal n) t2 → Wrote t (signal_text s) t2
    unfolding signal_text
    signal_var k q Q =
        let low : s < 2147483648 = ltb-true s 2147483648 (not-false _ (sym g ∙ k)) in
        rw (var_ref s (some_low s c e h) low, ← f, ← q) (wrote_then P Q)

pub ruleset signals = (input_high, some_low, signal_constant, signal_input, signal_var)
