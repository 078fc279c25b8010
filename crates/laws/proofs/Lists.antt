-- Laws of a claim of every element, of lists without repeats, of a mapped list, of a test of some number, of a list by its length.
use mathlib.Core.Path.{◌≡◌, refl, sym, ap, fun_ext}
use mathlib.Core.Logic.{◌≢◌}
use Prim.Native.Nat.{ℕ, zero, suc, ◌≤◌, ◌<◌, suc-le-suc, zero-le}
use native.Mathlib.Nat.{not-suc-le-zero, le_of_suc-le-suc}
use native.Mathlib.Omega.{arith}
use native.Mathlib.Decide.{ℕ_discrete}
use mathlib.Core.Bool.{Bool, true, false}
use mathlib.Core.List.{List, [], ◌∷◌, ◌++◌, map}
use lib.ListN.{length, get_or, set, take}
use lib.Dec.{eqb}
use borrow.Author.Tests.{eqb-true}
use Rattle.laws.proofs.Bools.{or_left, or_right}
use Rattle.laws.specs.Lists.{All, Fresh, Distinct, some_below}

pub all_map {ℓ ℓ'} : {A : Type 0} {P : A → Type ℓ} {Q : A → Type ℓ'} (l : List A) → ((a : A) → P a → Q a) → All P l → All Q l
all_map [] f h = tt
all_map (x ∷ xs) f h = (f x h.0, all_map xs f h.1)

pub all_both {ℓ ℓ'} : {A : Type 0} (P : A → Type ℓ) (Q : A → Type ℓ') (l : List A) → All P l → All Q l → All (λ a. P a × Q a) l
all_both P Q [] p q = tt
all_both P Q (x ∷ xs) p q = ((p.0, q.0), all_both P Q xs p.1 q.1)

pub all_at {ℓ} : {A : Type 0} (P : A → Type ℓ) (l : List A) (d : A) → All P l → (j : ℕ) → j < length l → P (get_or l j d)
all_at P [] d h j l = absurd (not-suc-le-zero l)
all_at P (x ∷ xs) d h zero l = h.0
all_at P (x ∷ xs) d h (suc j) l = all_at P xs d h.1 j (le_of_suc-le-suc l)

pub all_of {ℓ} : {A : Type 0} (P : A → Type ℓ) (l : List A) (d : A) → ((j : ℕ) → j < length l → P (get_or l j d)) → All P l
all_of P [] d h = tt
all_of P (x ∷ xs) d h = (h zero (suc-le-suc zero-le), all_of P xs d (λ j l. h (suc j) (suc-le-suc l)))

pub all_each {ℓ} : {A : Type 0} (P : A → Type ℓ) (l : List A) → ((a : A) → P a) → All P l
all_each P [] h = tt
all_each P (x ∷ l) h = (h x, all_each P l h)

pub all_append {ℓ} : {A : Type 0} (P : A → Type ℓ) (a b : List A) → All P a → All P b → All P (a ++ b)
all_append P [] b x y = y
all_append P (s ∷ a) b x y = (x.0, all_append P a b x.1 y)

pub map_all {ℓ ℓ'} : {A B : Type 0} {P : A → Type ℓ} (Q : B → Type ℓ') (f : A → B) (l : List A) → ((a : A) → P a → Q (f a)) → All P l → All Q (map f l)
map_all Q f [] h p = tt
map_all Q f (x ∷ l) h p = (h x p.0, map_all Q f l h p.1)

pub set_all {ℓ} : {A : Type 0} (P : A → Type ℓ) (l : List A) (i : ℕ) (a : A) → All P l → P a → All P (set l i a)
set_all P [] i a h k = tt
set_all P (x ∷ l) zero a h k = (k, h.1)
set_all P (x ∷ l) (suc i) a h k = (h.0, set_all P l i a h.1 k)

-- ---- no repeats

pub distinct_append : (a b : List ℕ) → Distinct a → Distinct b → All (λ x. Fresh x b) a → Distinct (a ++ b)
distinct_append [] b d e f = e
distinct_append (x ∷ a) b d e f = (all_append (λ y. y ≢ x) a b d.0 f.0, distinct_append a b d.1 e f.1)

pub distinct_index : (l : List ℕ) → Distinct l → (i j : ℕ) → i < length l → j < length l → get_or l i 0 ≡ get_or l j 0 → i ≡ j
distinct_index [] d i j h k e = absurd (not-suc-le-zero h)
distinct_index (x ∷ l) d zero zero h k e = refl
distinct_index (x ∷ l) d zero (suc j) h k e = absurd (all_at (λ y. y ≢ x) l 0 d.0 j (le_of_suc-le-suc k) (sym e))
distinct_index (x ∷ l) d (suc i) zero h k e = absurd (all_at (λ y. y ≢ x) l 0 d.0 i (le_of_suc-le-suc h) e)
distinct_index (x ∷ l) d (suc i) (suc j) h k e = ap suc (distinct_index l d.1 i j (le_of_suc-le-suc h) (le_of_suc-le-suc k) e)

-- ---- a mapped list

pub length_map : {A B : Type 0} (f : A → B) (l : List A) → length (map f l) ≡ length l
length_map f [] = refl
length_map f (x ∷ l) = ap suc (length_map f l)

pub map_cong : {A B : Type 0} (f g : A → B) (l : List A) → ((a : A) → f a ≡ g a) → map f l ≡ map g l
map_cong f g l h = ap (λ (k : _). map k l) (fun_ext h)

pub get_or_map_in : {A B : Type 0} (f : A → B) (l : List A) (a : A) (b : B) (j : ℕ) → j < length l → get_or (map f l) j b ≡ f (get_or l j a)
get_or_map_in f [] a b j h = absurd (not-suc-le-zero h)
get_or_map_in f (x ∷ xs) a b zero h = refl
get_or_map_in f (x ∷ xs) a b (suc j) h = get_or_map_in f xs a b j (le_of_suc-le-suc h)

-- ---- a test of some number

pub some_none : (f : ℕ → Bool) (n : ℕ) → some_below f n ≡ false → (k : ℕ) → k < n → f k ≡ false
unfolding some_below
some_none f zero e k h = absurd (not-suc-le-zero h)
some_none f (suc n) e k h = elim (ℕ_discrete k n) [
  | yes q ↦ rw q (or_right (some_below f n) (f n) e)
  | no q ↦ some_none f n (or_left (some_below f n) (f n) e) k (omega arith)
]

pub none_some : (f : ℕ → Bool) (n : ℕ) → ((k : ℕ) → k < n → f k ≡ false) → some_below f n ≡ false
unfolding some_below
none_some f zero h = refl
none_some f (suc n) h = rw (none_some f n (λ k l. h k (omega arith))) (h n (omega arith))

pub some_ext : (f g : ℕ → Bool) (n : ℕ) → ((k : ℕ) → k < n → f k ≡ g k) → some_below f n ≡ some_below g n
unfolding some_below
some_ext f g zero h = refl
some_ext f g (suc n) h = rw (some_ext f g n (λ k l. h k (omega arith)), h n (omega arith))

-- ---- a list by its length

pub length_none : {A : Type 0} (l : List A) → length l ≤ 0 → l ≡ []
length_none [] h = refl
length_none (x ∷ l) h = absurd (not-suc-le-zero h)

-- a list of one, two or three
module _ {ℓ} {A : Type 0} (P : List A → Type ℓ) where
  pub by_one : (l : List A) → eqb (length l) 1 ≡ true → ((a : A) → P (a ∷ [])) → P l
  by_one (a ∷ []) e f = f a
  by_one [] e f = absurd (let k = eqb-true 0 1 e in omega arith)
  by_one (a ∷ b ∷ l) e f = absurd (let k = eqb-true (length (a ∷ b ∷ l)) 1 e in omega arith)

  pub by_two : (l : List A) → eqb (length l) 2 ≡ true → ((a b : A) → P (a ∷ b ∷ [])) → P l
  by_two (a ∷ b ∷ []) e f = f a b
  by_two [] e f = absurd (let k = eqb-true 0 2 e in omega arith)
  by_two (a ∷ []) e f = absurd (let k = eqb-true (length (a ∷ [])) 2 e in omega arith)
  by_two (a ∷ b ∷ c ∷ l) e f = absurd (let k = eqb-true (length (a ∷ b ∷ c ∷ l)) 2 e in omega arith)

  pub by_three : (l : List A) → eqb (length l) 3 ≡ true → ((a b c : A) → P (a ∷ b ∷ c ∷ [])) → P l
  by_three (a ∷ b ∷ c ∷ []) e f = f a b c
  by_three [] e f = absurd (let k = eqb-true 0 3 e in omega arith)
  by_three (a ∷ []) e f = absurd (let k = eqb-true (length (a ∷ [])) 3 e in omega arith)
  by_three (a ∷ b ∷ []) e f = absurd (let k = eqb-true (length (a ∷ b ∷ [])) 3 e in omega arith)
  by_three (a ∷ b ∷ c ∷ d ∷ l) e f = absurd (let k = eqb-true (length (a ∷ b ∷ c ∷ d ∷ l)) 3 e in omega arith)

-- a front is as long as it is
pub take_length_take : (n : ℕ) (l : List ℕ) → take (length (take n l)) l ≡ take n l
take_length_take zero l = refl
take_length_take (suc n) [] = refl
take_length_take (suc n) (x ∷ l) = ap (λ (r : List ℕ). x ∷ r) (take_length_take n l)
