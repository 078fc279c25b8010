-- The passes over a list of signals (without, sorted, uniq, cancel): what holds of every element stays, what comes out is in
-- order, and what is in order already stays as it is.
use mathlib.Core.Path.{◌≡◌, refl, sym, ap, subst}
use mathlib.Core.Logic.{◌≢◌}
use Prim.Native.Nat.{ℕ, ◌≤◌, ◌<◌}
use native.Mathlib.Omega.{arith}
use native.Mathlib.Decide.{ℕ_discrete}
use mathlib.Core.Bool.{Bool, true, false}
use mathlib.Core.List.{List, [], ◌∷◌}
use lib.Dec.{eqb, leb}
use borrow.Author.Tests.{eq-eqb, ne_eqb, le-leb}
use Rattle.laws.specs.Lists.{All}
use Rattle.laws.proofs.Lists.{all_map}
use Rattle.laws.proofs.Choices.{by_eq, by_le, by_test}
use Rattle.model.specs.Normal.{keep, without, insert, sorted, uniq, cancel}

pub by_keep {ℓ} : (P : List ℕ → Type ℓ) (x y v : ℕ) (l : List ℕ) → (x ≡ y → P l) → (x ≢ y → P (v ∷ l)) → P (keep (eqb x y) v l)
by_keep P x y v l f g = elim (ℕ_discrete x y) [
  | yes e ↦ subst (λ c. P (keep c v l)) (sym (eq-eqb x y e)) (f e)
  | no e ↦ subst (λ c. P (keep c v l)) (sym (ne_eqb x y e)) (g e)
]

-- ---- what holds of every element

pub insert_all {ℓ} : (Q : ℕ → Type ℓ) (x : ℕ) (l : List ℕ) → Q x → All Q l → All Q (insert x l)
unfolding insert
insert_all Q x [] q h = (q, tt)
insert_all Q x (y ∷ l) q h = by_test (All Q) (leb x y) (λ e. (q, h)) (λ e. (h.0, insert_all Q x l q h.1))

pub sorted_all {ℓ} : (Q : ℕ → Type ℓ) (l : List ℕ) → All Q l → All Q (sorted l)
unfolding sorted
sorted_all Q [] h = tt
sorted_all Q (x ∷ l) h = insert_all Q x (sorted l) h.0 (sorted_all Q l h.1)

keep_all {ℓ} : (P : ℕ → Type ℓ) (t : Bool) (y : ℕ) (l : List ℕ) → P y → All P l → All P (keep t y l)
keep_all P true y l p h = h
keep_all P false y l p h = (p, h)

pub without_all {ℓ} : (P : ℕ → Type ℓ) (x : ℕ) (l : List ℕ) → All P l → All P (without x l)
unfolding without
without_all P x [] h = tt
without_all P x (y ∷ l) h = keep_all P (eqb y x) y (without x l) h.0 (without_all P x l h.1)

pub uniq_all {ℓ} : (Q : ℕ → Type ℓ) (l : List ℕ) → All Q l → All Q (uniq l)
unfolding uniq
uniq_all Q [] h = tt
uniq_all Q (x ∷ []) h = h
uniq_all Q (x ∷ y ∷ l) h = keep_all Q (eqb x y) x (uniq (y ∷ l)) h.0 (uniq_all Q (y ∷ l) h.1)

pub cancel_all {ℓ} : (Q : ℕ → Type ℓ) (l : List ℕ) → All Q l → All Q (cancel l)
unfolding cancel
cancel_all Q [] h = tt
cancel_all Q (x ∷ []) h = h
cancel_all Q (x ∷ y ∷ l) h = by_test (All Q) (eqb x y) (λ e. cancel_all Q l h.1.1) (λ e. (h.0, cancel_all Q (y ∷ l) h.1))

pub without_other : (x : ℕ) (l : List ℕ) → All (λ s. s ≢ x) (without x l)
unfolding without
without_other x [] = tt
without_other x (y ∷ l) = by_keep (All (λ s. s ≢ x)) y x y (without x l) (λ e. without_other x l) (λ e. (e, without_other x l))

-- ---- in order

-- each at most those after it
abbrev pub Asc : List ℕ → Type 0
Asc [] = Unit
Asc (x ∷ l) = All (λ y. x ≤ y) l × Asc l

-- each below those after it
abbrev pub Up : List ℕ → Type 0
Up [] = Unit
Up (x ∷ l) = All (λ y. x < y) l × Up l

insert_asc : (x : ℕ) (l : List ℕ) → Asc l → Asc (insert x l)
unfolding insert
insert_asc x [] h = (tt, tt)
insert_asc x (y ∷ l) h =
    by_le Asc x y (λ e. ((e, all_map l (λ z k. omega arith) h.0), h)) (λ e. (insert_all (λ z. y ≤ z) x l (omega arith) h.0, insert_asc x l h.1))

pub sorted_asc : (l : List ℕ) → Asc (sorted l)
unfolding sorted
sorted_asc [] = tt
sorted_asc (x ∷ l) = insert_asc x (sorted l) (sorted_asc l)

pub uniq_up : (l : List ℕ) → Asc l → Up (uniq l)
unfolding uniq
uniq_up [] h = tt
uniq_up (x ∷ []) h = (tt, tt)
uniq_up (x ∷ y ∷ l) h =
    by_keep Up x y x (uniq (y ∷ l)) (λ e. uniq_up (y ∷ l) h.1)
    (λ e. (uniq_all (λ z. x < z) (y ∷ l) ((let k = h.0.0 in omega arith), all_map l (λ z k. let k' = h.0.0 in omega arith) h.1.0), uniq_up (y ∷ l) h.1))

pub cancel_up : (l : List ℕ) → Asc l → Up (cancel l)
unfolding cancel
cancel_up [] h = tt
cancel_up (x ∷ []) h = (tt, tt)
cancel_up (x ∷ y ∷ l) h =
    by_eq Up x y (λ e. cancel_up l h.1.1)
    (λ e. (cancel_all (λ z. x < z) (y ∷ l) ((let k = h.0.0 in omega arith), all_map l (λ z k. let k' = h.0.0 in omega arith) h.1.0), cancel_up (y ∷ l) h.1))

-- ---- what stays as it is

pub up_asc : (l : List ℕ) → Up l → Asc l
up_asc [] h = tt
up_asc (x ∷ l) h = (all_map l (λ y k. omega arith) h.0, up_asc l h.1)

pub without_stays : (x : ℕ) (l : List ℕ) → All (λ s. s ≢ x) l → without x l ≡ l
unfolding without
without_stays x [] h = refl
without_stays x (y ∷ l) h = rw (ne_eqb y x h.0) (ap (λ m. y ∷ m) (without_stays x l h.1))

pub sorted_stays : (l : List ℕ) → Asc l → sorted l ≡ l
unfolding sorted insert
sorted_stays [] h = refl
sorted_stays (x ∷ l) h = rw (sorted_stays l h.1) (first l h.0)
  where
    first : (l : List ℕ) → All (λ y. x ≤ y) l → insert x l ≡ x ∷ l
    first [] h = refl
    first (y ∷ l) h = rw (le-leb x y h.0)

pub uniq_stays : (l : List ℕ) → Up l → uniq l ≡ l
unfolding uniq
uniq_stays [] h = refl
uniq_stays (x ∷ []) h = refl
uniq_stays (x ∷ y ∷ l) h = let k : x < y = h.0.0 in rw (ne_eqb x y (omega arith)) (ap (λ m. x ∷ m) (uniq_stays (y ∷ l) h.1))

pub cancel_stays : (l : List ℕ) → Up l → cancel l ≡ l
unfolding cancel
cancel_stays [] h = refl
cancel_stays (x ∷ []) h = refl
cancel_stays (x ∷ y ∷ l) h = let k : x < y = h.0.0 in rw (ne_eqb x y (omega arith)) (ap (λ m. x ∷ m) (cancel_stays (y ∷ l) h.1))
