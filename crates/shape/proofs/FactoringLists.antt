-- Laws of what a pass takes out of a list of signals, and of what it keeps.
use Prim.Native.Nat.{ℕ, ◌<◌, ◌≤◌}
use mathlib.Core.Path.{◌≡◌}
use mathlib.Core.Bool.{Bool, true, ◌||◌}
use mathlib.Core.List.{List, [], ◌∷◌}
use native.Mathlib.Omega.{arith}
use lib.ListN.{length}
use lib.Dec.{eqb}
use Rattle.laws.specs.Lists.{All}
use Rattle.model.specs.Network.{has}
use Rattle.model.specs.Sharing.{holds, replace_in, retain, take_out}
use Rattle.laws.proofs.Choices.{by_bool}
use Rattle.laws.proofs.Lists.{all_append}

-- ---- take_out

pub take_out_le : (p q : ℕ) (l : List ℕ) → length (take_out p q l) ≤ length l
unfolding take_out
take_out_le p q [] = omega arith
take_out_le p q (x ∷ l) = by_bool (eqb x p || eqb x q) (λ e. rw e (omega (arith, take_out_le p q l))) (λ e. rw e (omega (arith, take_out_le p q l)))

-- a list that holds p loses it
pub take_out_lt : (p q : ℕ) (l : List ℕ) → has p l ≡ true → length (take_out p q l) < length l
unfolding take_out
take_out_lt p q [] h = let z : ◌≡◌ {A = ℕ} 0 1 = cc in omega arith
take_out_lt p q (x ∷ l) h =
    by_bool (eqb x p)
    (λ e. rw e (omega (arith, take_out_le p q l)))
    (λ e.
    let ih = take_out_lt p q l (rw e at h) in
    rw e (by_bool (eqb x q) (λ k. rw k (omega arith)) (λ k. rw k (omega arith))))

-- ---- what holds of every signal stays

pub retain_all : (P : ℕ → Type 0) (t : ℕ → Bool) (l : List ℕ) → All P l → All P (retain t l)
unfolding retain
retain_all P t [] h = tt
retain_all P t (x ∷ l) h = by_bool (t x) (λ e. rw e (h.0, retain_all P t l h.1)) (λ e. rw e (retain_all P t l h.1))

pub take_out_all : (P : ℕ → Type 0) (p q : ℕ) (l : List ℕ) → All P l → All P (take_out p q l)
unfolding take_out
take_out_all P p q [] h = tt
take_out_all P p q (x ∷ l) h = by_bool (eqb x p || eqb x q) (λ e. rw e (take_out_all P p q l h.1)) (λ e. rw e (h.0, take_out_all P p q l h.1))

pub replace_in_all : (P : ℕ → Type 0) (p q z : ℕ) (l : List ℕ) → P z → All P l → All P (replace_in p q z l)
unfolding replace_in
replace_in_all P p q z l k h = by_bool (holds p q l) (λ e. rw e (all_append P (take_out p q l) (z ∷ []) (take_out_all P p q l h) (k, tt))) (λ e. rw e h)
