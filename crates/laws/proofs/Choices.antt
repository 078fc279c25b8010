-- By cases through a test, for any claim on the branch that it chooses.
use mathlib.Core.Path.{◌≡◌, refl, sym, subst}
use mathlib.Core.Logic.{◌≢◌}
use Prim.Native.Nat.{ℕ, ◌≤◌, ◌<◌}
use native.Mathlib.Omega.{arith}
use native.Mathlib.Decide.{ℕ_discrete}
use mathlib.Core.Bool.{Bool, true, false, cond, ◌||◌}
use lib.Dec.{eqb, leb}
use borrow.Author.Tests.{eq-eqb, ne_eqb, leb-true, leb-false}

-- a test and its equation
pub by_bool {ℓ} : {X : Type ℓ} (b : Bool) → (b ≡ true → X) → (b ≡ false → X) → X
by_bool true f g = f refl
by_bool false f g = g refl

-- no test is both
pub clash {ℓ} : {X : Type ℓ} {b : Bool} → b ≡ true → b ≡ false → X
clash p q = let z : ◌≡◌ {A = ℕ} 0 1 = cc in absurd (omega arith)

pub by_eq {ℓ} : {X : Type 0} (P : X → Type ℓ) (x y : ℕ) {a b : X} → (x ≡ y → P a) → (x ≢ y → P b) → P (cond (eqb x y) a b)
by_eq P x y {a} {b} f g = elim (ℕ_discrete x y) [
  | yes e ↦ subst (λ c. P (cond c a b)) (sym (eq-eqb x y e)) (f e)
  | no e ↦ subst (λ c. P (cond c a b)) (sym (ne_eqb x y e)) (g e)
]

pub by_or {ℓ} : {X : Type 0} (P : X → Type ℓ) (x y u w : ℕ) {a b : X} → (x ≡ y → P a) → (u ≡ w → P a) → P b → P (cond (eqb x y || eqb u w) a b)
by_or P x y u w {a} {b} f g h = elim (ℕ_discrete x y) [
  | yes e ↦ subst (λ c. P (cond (c || eqb u w) a b)) (sym (eq-eqb x y e)) (f e)
  | no e ↦ subst (λ c. P (cond (c || eqb u w) a b)) (sym (ne_eqb x y e)) (by_eq P u w g (λ d. h))
]

pub by_test {ℓ} : {X : Type 0} (P : X → Type ℓ) (t : Bool) {a b : X} → (t ≡ true → P a) → (t ≡ false → P b) → P (cond t a b)
by_test P true f g = f refl
by_test P false f g = g refl

-- a test of three
pub by_or3 {ℓ} : {X : Type 0} (P : X → Type ℓ) (x y u w p q : ℕ) {a b : X} → (x ≡ y → P a) → (u ≡ w → P a) → (p ≡ q → P a)
    → (x ≢ y → u ≢ w → p ≢ q → P b) → P (cond (eqb x y || eqb u w || eqb p q) a b)
by_or3 P x y u w p q {a} {b} f g k h = elim (ℕ_discrete x y) [
  | yes e ↦ subst (λ c. P (cond (c || eqb u w || eqb p q) a b)) (sym (eq-eqb x y e)) (f e)
  | no e ↦ subst (λ c. P (cond (c || eqb u w || eqb p q) a b)) (sym (ne_eqb x y e)) (elim (ℕ_discrete u w) [
    | yes d ↦ subst (λ c. P (cond (c || eqb p q) a b)) (sym (eq-eqb u w d)) (g d)
    | no d ↦ subst (λ c. P (cond (c || eqb p q) a b)) (sym (ne_eqb u w d)) (by_eq P p q k (λ c. h e d c))
  ])
]

-- a test that says what failed too
pub by_or2 {ℓ} : {X : Type 0} (P : X → Type ℓ) (x y u w : ℕ) {a b : X} → (x ≡ y → P a) → (u ≡ w → P a) → (x ≢ y → u ≢ w → P b) → P (cond (eqb x y || eqb u w) a b)
by_or2 P x y u w {a} {b} f g h = elim (ℕ_discrete x y) [
  | yes e ↦ subst (λ c. P (cond (c || eqb u w) a b)) (sym (eq-eqb x y e)) (f e)
  | no e ↦ subst (λ c. P (cond (c || eqb u w) a b)) (sym (ne_eqb x y e)) (by_eq P u w g (λ d. h e d))
]

pub by_le {ℓ} : {X : Type 0} (P : X → Type ℓ) (x y : ℕ) {a b : X} → (x ≤ y → P a) → (y < x → P b) → P (cond (leb x y) a b)
by_le P x y f g = by_test P (leb x y) (λ e. f (leb-true x y e)) (λ e. g (leb-false x y e))
