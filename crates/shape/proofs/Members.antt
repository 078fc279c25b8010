-- What a list of nodes has, how often, and where; lists of rising numbers.
use mathlib.Core.Path.{◌≡◌, refl, ap, ap₂, ◌∙◌}
use mathlib.Core.Logic.{◌≢◌}
use Prim.Native.Nat.{ℕ, zero, suc, ◌+◌, ◌≤◌, ◌<◌, suc-le-suc, zero-le}
use native.Mathlib.Nat.{not-suc-le-zero, le_refl}
use native.Mathlib.Omega.{arith}
use native.Mathlib.Decide.{ℕ_discrete, dec_lt}
use mathlib.Core.Bool.{Bool, true, false}
use mathlib.Core.List.{List, [], ◌∷◌, ◌++◌}
use lib.ListN.{length, get_or, length-append, get_or-append}
use lib.Seq.{get_or-append-add}
use lib.Dec.{eqb}
use borrow.Author.Tests.{eq-eqb, ne_eqb, eqb-true, eqb-false}
use Rattle.laws.specs.Bools.{bit}
use Rattle.laws.specs.Lists.{All, Fresh, Distinct}
use Rattle.laws.proofs.Bools.{or_left, or_right}
use Rattle.laws.proofs.Lists.{all_map, all_at, all_append, distinct_append}
use Rattle.laws.proofs.Choices.{by_bool, clash}
use Rattle.model.specs.Network.{has, occ, sum_to, push_if, rising}
use Rattle.shape.proofs.Sums.{bit_is, bit_isnt}

-- ---- members

pub has_head : (x y : ℕ) (l : List ℕ) → y ≡ x → has x (y ∷ l) ≡ true
has_head x y l e = rw (eq-eqb y x e)

pub has_cons : (x y : ℕ) (l : List ℕ) → has x l ≡ true → has x (y ∷ l) ≡ true
has_cons x y l h = by_bool (eqb y x) (λ e. rw e) (λ e. rw e h)

pub has_tail : (x y : ℕ) (l : List ℕ) → y ≢ x → has x (y ∷ l) ≡ true → has x l ≡ true
has_tail x y l n h = rw (ne_eqb y x n) at h

pub has_left : (x : ℕ) (a b : List ℕ) → has x a ≡ true → has x (a ++ b) ≡ true
has_left x [] b h = clash h refl
has_left x (y ∷ a) b h = by_bool (eqb y x) (λ e. rw e) (λ e. rw e (has_left x a b (rw e at h)))

pub has_right : (x : ℕ) (a b : List ℕ) → has x b ≡ true → has x (a ++ b) ≡ true
has_right x [] b h = h
has_right x (y ∷ a) b h = has_cons x y (a ++ b) (has_right x a b h)

pub has_push : (b : Bool) (x d : ℕ) (s : List ℕ) → has x s ≡ true → has x (push_if b d s) ≡ true
has_push true x d s h = has_cons x d s h
has_push false x d s h = h

pub has_index : (x : ℕ) (l : List ℕ) → has x l ≡ true → (k : ℕ) × (k < length l) × (get_or l k 0 ≡ x)
has_index x [] h = clash h refl
has_index x (y ∷ l) h = by_bool (eqb y x)
    (λ e. (0, suc-le-suc zero-le, eqb-true y x e))
    (λ e. let r = has_index x l (rw e at h) in (suc r.0, suc-le-suc r.1, r.2))

pub all_has : (P : ℕ → Type 0) (l : List ℕ) (x : ℕ) → All P l → has x l ≡ true → P x
all_has P [] x a h = clash h refl
all_has P (y ∷ l) x a h = by_bool (eqb y x) (λ e. rw (eqb-true y x e) at a.0) (λ e. all_has P l x a.1 (rw e at h))

pub has_all : (P : ℕ → Type 0) (l : List ℕ) → ((x : ℕ) → has x l ≡ true → P x) → All P l
has_all P [] h = tt
has_all P (y ∷ l) h = (h y (has_head y y l refl), has_all P l (λ x m. h x (has_cons x y l m)))

pub fresh_of : (x : ℕ) (l : List ℕ) → has x l ≡ false → Fresh x l
fresh_of x [] h = tt
fresh_of x (y ∷ l) h = (eqb-false y x (or_left (eqb y x) (has x l) h), fresh_of x l (or_right (eqb y x) (has x l) h))

-- ---- how often

pub has_false : (x : ℕ) (l : List ℕ) → has x l ≡ false → occ x l ≡ 0
has_false x [] h = refl
has_false x (y ∷ l) h = elim (ℕ_discrete y x) [
  | yes e ↦ clash (has_head x y l e) h
  | no e ↦ rw (ne_eqb y x e) (omega (arith, has_false x l (rw (ne_eqb y x e) at h)))
]

pub occ_has : (x : ℕ) (l : List ℕ) → occ x l ≢ 0 → has x l ≡ true
occ_has x l h = by_bool (has x l) (λ e. e) (λ e. absurd (h (has_false x l e)))

pub has_occ : (x : ℕ) (l : List ℕ) → has x l ≡ true → occ x l ≢ 0
has_occ x [] h e = clash h refl
has_occ x (y ∷ l) h e = elim (ℕ_discrete y x) [
  | yes q ↦ omega (arith, bit_is y x q)
  | no q ↦ has_occ x l (has_tail x y l q h) (omega (arith, bit_isnt y x q))
]

pub occ_append : (d : ℕ) (a b : List ℕ) → occ d (a ++ b) ≡ occ d a + occ d b
occ_append d [] b = omega arith
occ_append d (x ∷ a) b = omega (arith, occ_append d a b)

pub occ_length : (d : ℕ) (l : List ℕ) → occ d l ≤ length l
occ_length d [] = zero-le
occ_length d (x ∷ l) = elim (ℕ_discrete x d) [
  | yes e ↦ omega (arith, bit_is x d e, occ_length d l)
  | no e ↦ omega (arith, bit_isnt x d e, occ_length d l)
]

-- ---- numbers that pass, rising

push_one : (b : Bool) (d : ℕ) → length (push_if b d []) ≤ 1
push_one true d = le_refl 1
push_one false d = zero-le

push_head : (b : Bool) (d : ℕ) → 0 < length (push_if b d []) → get_or (push_if b d []) 0 0 ≡ d
push_head true d h = refl
push_head false d h = absurd (not-suc-le-zero h)

module _ (p : ℕ → Bool) where
  pub rising_all : (k : ℕ) → All (λ x. (p x ≡ true) × (x < k)) (rising p k)
  rising_all zero = tt
  rising_all (suc k) =
      all_append (λ x. (p x ≡ true) × (x < suc k)) (rising p k) (push_if (p k) k [])
      (all_map (rising p k) (λ x a. (a.0, (let l = a.1 in omega arith))) (rising_all k))
      (by_bool (p k) (λ e. rw e ((e, le_refl _), tt)) (λ e. rw e tt))

  pub rising_bound : (k : ℕ) → All (λ x. x < k) (rising p k)
  rising_bound k = all_map (rising p k) (λ x a. a.1) (rising_all k)

  pub rising_has : (k x : ℕ) → x < k → p x ≡ true → has x (rising p k) ≡ true
  rising_has zero x h e = absurd (not-suc-le-zero h)
  rising_has (suc k) x h e = elim (ℕ_discrete k x) [
    | yes q ↦ has_right x (rising p k) (push_if (p k) k []) (rw (q, e) (has_head x x [] refl))
    | no q ↦ has_left x (rising p k) (push_if (p k) k []) (rising_has k x (omega arith) e)
  ]

  pub rising_distinct : (k : ℕ) → Distinct (rising p k)
  rising_distinct zero = tt
  rising_distinct (suc k) =
      distinct_append (rising p k) (push_if (p k) k []) (rising_distinct k)
      (by_bool (p k) (λ e. rw e (tt, tt)) (λ e. rw e tt))
      (all_map (rising p k) (λ x a. by_bool (p k) (λ e. rw e ((λ q. let l = a.1 in omega arith), tt)) (λ e. rw e tt)) (rising_all k))

  pub rising_length : (k : ℕ) → length (rising p k) ≡ sum_to (λ u. bit (p u)) k
  rising_length zero = refl
  rising_length (suc k) =
      length-append (rising p k) (push_if (p k) k []) ∙ ap₂ ◌+◌ (rising_length k) (by_bool (p k) (λ e. rw e) (λ e. rw e))

  -- the greater number stands later
  pub rising_index : (n i j : ℕ) → i < length (rising p n) → j < length (rising p n) → get_or (rising p n) i 0 < get_or (rising p n) j 0 → i < j
  rising_index zero i j hi hj l = absurd (not-suc-le-zero hi)
  rising_index (suc n) i j hi hj l =
      let A = rising p n in
      let T = push_if (p n) n [] in
      let len = length-append A T in
      let one : length T ≤ 1 = push_one (p n) n in
      elim (dec_lt i (length A)) [
        | yes a ↦ elim (dec_lt j (length A)) [
          | yes b ↦ rising_index n i j a b (omega (arith, get_or-append A T 0 i a, get_or-append A T 0 j b))
          | no b ↦ omega arith
        ]
        | no a ↦ elim (dec_lt j (length A)) [
          | yes b ↦ (let i0 : i ≡ length A + 0 = omega arith in
              let big : get_or (A ++ T) i 0 ≡ get_or T 0 0 = ap (λ x. get_or (A ++ T) x 0) i0 ∙ get_or-append-add A T 0 0 in
              let small = (all_at (λ x. (p x ≡ true) × (x < n)) A 0 (rising_all n) j b).1 in
              absurd (omega (arith, get_or-append A T 0 j b, big, push_head (p n) n (omega arith))))
          | no b ↦ (let e : i ≡ j = omega arith in let f = ap (λ x. get_or (A ++ T) x 0) e in absurd (omega arith))
        ]
      ]
