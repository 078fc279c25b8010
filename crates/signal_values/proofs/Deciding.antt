-- The turns of all_are: one input decides.
use mathlib.Core.Path.{◌≡◌, refl, sym, ap}
use Prim.Native.Nat.{ℕ, zero, suc, ◌+◌, ◌≤◌, ◌<◌}
use native.Mathlib.Omega.{arith}
use native.Mathlib.Decide.{ℕ_discrete}
use native.Mathlib.Nat.{le_antisymm}
use native.Mathlib.Numerals.{add-one}
use mathlib.Core.Bool.{Bool, true, false, not, cond, beq}
use mathlib.Core.List.{List}
use lib.Dec.{eqb}
use borrow.Author.Tests.{eq-eqb, ne_eqb}
use Rattle.laws.specs.Bools.{bit}
use Rattle.signal_values.specs.Signals.{input_value, ones_to}
use Rattle.signal_values.proofs.Bounds.{ones_most}
use Rattle.signal_values.proofs.Turns.{bit_low}

-- ---- one input decides

module _ (g : ℕ → Bool) where
  ones_of_one : (j n : ℕ) → j < n → g j ≡ true → 0 < ones_to g n
  unfolding ones_to
  ones_of_one j zero h e = absurd (omega arith)
  ones_of_one j (suc n) h e = elim (ℕ_discrete j n) [
    | yes d ↦ let b : bit (g n) ≡ 1 = rw (← d, e) in omega arith
    | no d ↦ let r : 0 < ones_to g n = ones_of_one j n (omega arith) e in omega arith
  ]

  ones_of_zero : (j n : ℕ) → j < n → g j ≡ false → ones_to g n < n
  unfolding ones_to
  ones_of_zero j zero h e = absurd (omega arith)
  ones_of_zero j (suc n) h e = elim (ℕ_discrete j n) [
    | yes d ↦
        let b : bit (g n) ≡ 0 = rw (← d, e) in
        let m = ones_most g n in
        omega arith
    | no d ↦
        let r : ones_to g n < n = ones_of_zero j n (omega arith) e in
        let m = bit_low (g n) in
        omega arith
  ]

  decided : (b : Bool) (j n : ℕ) → j < n → not (beq (g j) b) ≡ true → false ≡ eqb (ones_to g n) (cond b n 0)
  decided true j n h e = let l = ones_of_zero j n h (go (g j) e) in sym (ne_eqb (ones_to g n) n (λ d. omega arith))
    where
      go : (a : Bool) → not (beq a true) ≡ true → a ≡ false
      go true e = sym e
      go false e = refl
  decided false j n h e = let l = ones_of_one j n h (go (g j) e) in sym (ne_eqb (ones_to g n) 0 (λ d. omega arith))
    where
      go : (a : Bool) → not (beq a false) ≡ true → a ≡ true
      go true e = refl
      go false e = e

-- ---- all_are

-- the first j inputs are b
pub record Alike (f t : List ℕ) (first : ℕ) (b : Bool) (j count : ℕ) : Type 0 where
  pub few : j ≤ count
  pub sum : ones_to (input_value f t first) j ≡ cond b j 0

one_more : (b a : Bool) (j n : ℕ) → n ≡ cond b j 0 → not (beq a b) ≡ false → n + bit a ≡ cond b (suc j) 0
one_more true true j n s e = omega arith
one_more true false j n s e = let z : ◌≡◌ {A = ℕ} 0 1 = ap bit (sym e) in absurd (omega arith)
one_more false true j n s e = let z : ◌≡◌ {A = ℕ} 0 1 = ap bit (sym e) in absurd (omega arith)
one_more false false j n s e = omega arith

module _ (f t : List ℕ) (first : ℕ) where
  pub alike_none : (b : Bool) (count : ℕ) → Alike f t first b 0 count
  unfolding ones_to
  alike_none true count = record { few = omega arith; sum = refl }
  alike_none false count = record { few = omega arith; sum = refl }

  module _ (b : Bool) (j count : ℕ) (p : Alike f t first b j count) where
    pub alike_more : (a : Bool) → j < count → a ≡ input_value f t first j → not (beq a b) ≡ false → Alike f t first b (j + 1) count
    unfolding ones_to
    alike_more a l q e = record { few = omega arith; sum = rw (add-one, ← q) (one_more b a j (ones_to (input_value f t first) j) p.sum e) }

    pub alike_not : (a : Bool) → j < count → a ≡ input_value f t first j → not (beq a b) ≡ true
        → false ≡ eqb (ones_to (input_value f t first) count) (cond b count 0)
    alike_not a l q e = decided (input_value f t first) b j count l (rw (← q) e)

    pub alike_all : count ≤ j → true ≡ eqb (ones_to (input_value f t first) count) (cond b count 0)
    alike_all l =
        let e : j ≡ count = le_antisymm p.few l in
        sym (eq-eqb (ones_to (input_value f t first) count) (cond b count 0) (rw e at p.sum))

pub ruleset decides = (alike_none, alike_more, alike_not, alike_all)
