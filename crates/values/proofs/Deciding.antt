-- The short gates, and a gate's value by its kind.
use mathlib.Core.Path.{◌≡◌, ap, ◌∙◌}
use Prim.Native.Nat.{ℕ, ◌+◌}
use native.Mathlib.Omega.{arith}
use native.Mathlib.Decide.{ℕ_discrete}
use mathlib.Core.Bool.{Bool, not, ◌&&◌}
use lib.Dec.{eqb, ltb}
use lib.Bits.{bit_and, bit_xor}
use borrow.Author.Tests.{ne_eqb, lt-ltb}
use Rattle.laws.specs.Bools.{xor, bit}
use Rattle.laws.proofs.Bools.{taut1, taut2}
use Rattle.model.specs.Signal.{is_inverted}
use Rattle.signal_values.specs.Signals.{is_odd, ones_to}
use Rattle.signal_values.proofs.Bits.{mask_odd, parity, parity_and}

-- ---- the short gates, by the inputs' values g

module _ (g : ℕ → Bool) where
  pub buf_is : (u : ℕ) → is_odd u ≡ g 0 → is_odd u ≡ ltb 0 (ones_to g 1)
  unfolding ones_to
  buf_is u p = taut1 (λ a. a) (λ a. ltb 0 (0 + bit a)) tt (is_odd u) ∙ ap (λ a. ltb 0 (0 + bit a)) p

  module _ (u w : ℕ) (p : is_odd u ≡ g 0) (q : is_odd w ≡ g 1) where
    -- by the words of both, whatever is asked of their values
    both : (h k : Bool → Bool → Bool) → ((a b : Bool) → h a b ≡ k a b) → h (is_odd u) (is_odd w) ≡ k (g 0) (g 1)
    both h k e = e (is_odd u) (is_odd w) ∙ ap (λ a. k a (is_odd w)) p ∙ ap (k (g 0)) q

    pub and_2_is : is_odd (bit_and u w) ≡ eqb (ones_to g 2) 2
    unfolding ones_to
    and_2_is = parity_and u w ∙ both (λ a b. a && b) (λ a b. eqb (0 + bit a + bit b) 2) (taut2 (λ a b. a && b) (λ a b. eqb (0 + bit a + bit b) 2) tt)

    pub xor_2_is : is_odd (bit_xor u w) ≡ is_odd (ones_to g 2)
    unfolding ones_to is_inverted
    xor_2_is = parity u w ∙ both (λ a b. xor b a) (λ a b. is_odd (0 + bit a + bit b)) (taut2 (λ a b. xor b a) (λ a b. is_odd (0 + bit a + bit b)) tt)

pub odd_is : (n k : ℕ) → n ≡ k → eqb (bit_and n 1) 1 ≡ is_odd k
odd_is n k e = mask_odd n ∙ ap is_odd e

-- not all are zero
pub or_is : (n : ℕ) (a : Bool) → a ≡ eqb n 0 → not a ≡ ltb 0 n
or_is n a q = rw q (elim (ℕ_discrete n 0) [ yes d ↦ rw d | no d ↦ rw (ne_eqb n 0 d, lt-ltb 0 n (omega arith)) ])

pub ruleset decides = (buf_is, and_2_is, xor_2_is, odd_is)
