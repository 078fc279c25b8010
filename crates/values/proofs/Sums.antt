-- A gate's value by the number of its inputs that are one.
use mathlib.Core.Path.{◌≡◌, refl, sym, ap, ◌∙◌}
use Prim.Native.Nat.{ℕ, zero, suc, ◌+◌, ◌%◌, ◌≤◌}
use native.Mathlib.Omega.{arith}
use native.Mathlib.Decide.{ℕ_discrete}
use native.Mathlib.Numerals.{add-one}
use mathlib.Core.Bool.{Bool, true, false, not, ◌&&◌, ◌||◌}
use mathlib.Core.List.{List, [], ◌∷◌, ◌++◌}
use lib.Dec.{eqb, ltb, eqb-suc-suc}
use borrow.Author.Tests.{eq-eqb, ne_eqb, lt-ltb, eqb-true}
use Rattle.kinds.specs.Kinds.{code_of}
use Rattle.kinds.specs.declared.Kind.{Kind}
use Rattle.kinds.specs.declared.Kind.TheVariants.{And2, Xor2, And3, Xor3, Maj, Mux, AndN, OrN, NandN, NorN, XorN, XnorN, Buf, Dff, Lut}
use Rattle.laws.specs.Bools.{xor, bit}
use Rattle.laws.specs.Lists.{tab}
use Rattle.laws.proofs.Bools.{xor_false, xor_assoc, taut1, taut3}
use Rattle.model.specs.Gate.{fits_kind}
use Rattle.model.specs.Evaluate.{all_of, any_of, odd_of, at, value_of}
use Rattle.signal_values.specs.Signals.{is_odd, ones_to}
use Rattle.signal_values.proofs.Bounds.{ones_most}
use Rattle.values.specs.Values.{ones_value}

-- ---- one more at the end

all_snoc : (l : List Bool) (b : Bool) → all_of (l ++ (b ∷ [])) ≡ all_of l && b
all_snoc [] true = refl
all_snoc [] false = refl
all_snoc (true ∷ l) b = all_snoc l b
all_snoc (false ∷ l) b = refl

any_snoc : (l : List Bool) (b : Bool) → any_of (l ++ (b ∷ [])) ≡ (any_of l || b)
any_snoc [] true = refl
any_snoc [] false = refl
any_snoc (true ∷ l) b = refl
any_snoc (false ∷ l) b = any_snoc l b

odd_snoc : (l : List Bool) (b : Bool) → odd_of (l ++ (b ∷ [])) ≡ xor (odd_of l) b
odd_snoc [] b = xor_false b
odd_snoc (a ∷ l) b = ap (xor a) (odd_snoc l b) ∙ sym (xor_assoc a (odd_of l) b)

-- ---- by the number of ones

abbrev pub goes_by_ones : Kind → Bool
goes_by_ones k = not (eqb (code_of k) 5 || eqb (code_of k) 14)

and_false : (b : Bool) → b && false ≡ false
and_false true = refl
and_false false = refl

or_true : (b : Bool) → (b || true) ≡ true
or_true true = refl
or_true false = refl

all_more : (k n : ℕ) (b : Bool) → k ≤ n → eqb k n && b ≡ eqb (k + bit b) (suc n)
all_more k n true h = rw (add-one, eqb-suc-suc k n) (go (eqb k n))
  where
    go : (b : Bool) → b && true ≡ b
    go true = refl
    go false = refl
all_more k n false h = and_false (eqb k n) ∙ sym (ne_eqb (k + 0) (suc n) (λ e. omega arith))

any_more : (k : ℕ) (b : Bool) → (ltb 0 k || b) ≡ ltb 0 (k + bit b)
any_more k true = or_true (ltb 0 k) ∙ sym (lt-ltb 0 (k + 1) (omega arith))
any_more k false = let z : k + 0 ≡ k = omega arith in rw z (go (ltb 0 k))
  where
    go : (b : Bool) → (b || false) ≡ b
    go true = refl
    go false = refl

odd_more : (k : ℕ) (b : Bool) → xor (is_odd k) b ≡ is_odd (k + bit b)
odd_more k true = elim (ℕ_discrete (k % 2) 1) [
  | yes e ↦ rw (eq-eqb (k % 2) 1 e, ne_eqb ((k + 1) % 2) 1 (omega arith))
  | no e ↦ rw (ne_eqb (k % 2) 1 e, eq-eqb ((k + 1) % 2) 1 (omega arith))
]
odd_more k false = let z : k + 0 ≡ k = omega arith in rw z (xor_false (is_odd k))

module _ (g : ℕ → Bool) where
  all_ones : (n : ℕ) → all_of (tab g n) ≡ eqb (ones_to g n) n
  unfolding tab ones_to
  all_ones zero = refl
  all_ones (suc n) = all_snoc (tab g n) (g n) ∙ rw (all_ones n) (all_more (ones_to g n) n (g n) (ones_most g n))

  any_ones : (n : ℕ) → any_of (tab g n) ≡ ltb 0 (ones_to g n)
  unfolding tab ones_to
  any_ones zero = refl
  any_ones (suc n) = any_snoc (tab g n) (g n) ∙ rw (any_ones n) (any_more (ones_to g n) (g n))

  odd_ones : (n : ℕ) → odd_of (tab g n) ≡ is_odd (ones_to g n)
  unfolding tab ones_to
  odd_ones zero = refl
  odd_ones (suc n) = odd_snoc (tab g n) (g n) ∙ rw (odd_ones n) (odd_more (ones_to g n) (g n))

  three : (n : ℕ) → eqb n 3 ≡ true → value_of Maj (tab g n) 0 ≡ ltb 1 (ones_to g n)
  unfolding tab ones_to value_of
  three n e =
      rw (eqb-true n 3 e)
      (taut3 (λ a b c. a && b || a && c || b && c) (λ a b c. ltb 1 (0 + bit a + bit b + bit c)) tt (g 0) (g 1) (g 2))

  single : (n : ℕ) → eqb n 1 ≡ true → at (tab g n) 0 ≡ ltb 0 (ones_to g n)
  unfolding tab ones_to
  single n e = rw (eqb-true n 1 e) (taut1 (λ a. a) (λ a. ltb 0 (0 + bit a)) tt (g 0))

  -- every kind but Mux and Lut
  pub ones_value_lem : (k : Kind) (n t : ℕ) → goes_by_ones k ≡ true → fits_kind k n ≡ true → value_of k (tab g n) t ≡ ones_value k n (ones_to g n)
  unfolding value_of
  ones_value_lem And2 n t p f = all_ones n
  ones_value_lem Xor2 n t p f = odd_ones n
  ones_value_lem And3 n t p f = all_ones n
  ones_value_lem Xor3 n t p f = odd_ones n
  ones_value_lem Maj n t p f = three n f
  ones_value_lem Mux n t p f = cc
  ones_value_lem AndN n t p f = all_ones n
  ones_value_lem OrN n t p f = any_ones n
  ones_value_lem NandN n t p f = ap not (all_ones n)
  ones_value_lem NorN n t p f = ap not (any_ones n) ∙ none (ones_to g n)
    where
      none : (k : ℕ) → not (ltb 0 k) ≡ eqb k 0
      none k = elim (ℕ_discrete k 0) [ yes e ↦ rw e | no e ↦ rw (lt-ltb 0 k (omega arith), ne_eqb k 0 e) ]
  ones_value_lem XorN n t p f = odd_ones n
  ones_value_lem XnorN n t p f = ap not (odd_ones n)
  ones_value_lem Buf n t p f = single n f
  ones_value_lem Dff n t p f = refl
  ones_value_lem Lut n t p f = cc
