-- Identities of Booleans: the exclusive or, the conjunction, and any identity by its table.
use mathlib.Core.Path.{◌≡◌, refl, sym}
use mathlib.Core.Logic.{◌⊎◌, inl, inr}
use Prim.Native.Nat.{ℕ}
use native.Mathlib.Omega.{arith}
use mathlib.Core.Bool.{Bool, true, false, not, ◌&&◌, ◌||◌, beq}
pub use mathlib.Core.Bool.{and_assoc, and_comm, or_comm, or-true}
use lib.Dec.{T}
use Rattle.laws.specs.Bools.{xor}

pub xor_false : (b : Bool) → xor b false ≡ b
xor_false false = refl
xor_false true = refl

pub xor_assoc : (a b c : Bool) → xor (xor a b) c ≡ xor a (xor b c)
xor_assoc false b c = refl
xor_assoc true false c = refl
xor_assoc true true false = refl
xor_assoc true true true = refl

pub xor_comm : (a b : Bool) → xor a b ≡ xor b a
xor_comm false false = refl
xor_comm false true = refl
xor_comm true false = refl
xor_comm true true = refl

-- the code's `^` of two, of three and of four truth values
pub xor_is : (a b : Bool) → not (beq a b) ≡ xor a b
xor_is true true = refl
xor_is true false = refl
xor_is false true = refl
xor_is false false = refl

pub xor2_is : (a b c : Bool) → not (beq (not (beq a b)) c) ≡ xor (xor a b) c
xor2_is a b c = rw (xor_is a b, xor_is (xor a b) c)

pub xor3_is : (a b c d : Bool) → not (beq (not (beq (not (beq a b)) c)) d) ≡ xor (xor (xor a b) c) d
xor3_is a b c d = rw (xor_is a b, xor_is (xor a b) c, xor_is (xor (xor a b) c) d)

-- nothing is both
pub true_false {ℓ} : {X : Type ℓ} → true ≡ false → X
true_false q = let z : ◌≡◌ {A = ℕ} 0 1 = cc in absurd (omega arith)

-- the two halves of a disjunction that fails
pub or_left : (a b : Bool) → (a || b) ≡ false → a ≡ false
or_left true b e = e
or_left false b e = refl

pub or_right : (a b : Bool) → (a || b) ≡ false → b ≡ false
or_right true b e = true_false e
or_right false b e = e

-- and of a conjunction that holds
pub and_left : (a b : Bool) → (a && b) ≡ true → a ≡ true
and_left true b e = refl
and_left false b e = e

pub and_right : (a b : Bool) → (a && b) ≡ true → b ≡ true
and_right true b e = e
and_right false b e = true_false (sym e)

pub and_both : (a b : Bool) → a ≡ true → b ≡ true → (a && b) ≡ true
and_both true b e f = f
and_both false b e f = e

pub and_split : (a b : Bool) → (a && b) ≡ false → (a ≡ false) ⊎ (b ≡ false)
and_split true b e = inr e
and_split false b e = inl refl

-- ---- by table: `taut3 (λ a b c. ..) (λ a b c. ..) tt x y z`

abbrev pub same : Bool → Bool → Bool
same true b = b
same false b = not b

same_eq : (a b : Bool) → T (same a b) → a ≡ b
same_eq true true t = refl
same_eq true false t = absurd t
same_eq false true t = absurd t
same_eq false false t = refl

T_l : (a b : Bool) → T (a && b) → T a
T_l true b t = tt
T_l false b t = t

T_r : (a b : Bool) → T (a && b) → T b
T_r true b t = t
T_r false b t = absurd t

abbrev pub every1 : (Bool → Bool) → Bool
every1 f = f true && f false

pub every1_at : (f : Bool → Bool) → T (every1 f) → (a : Bool) → T (f a)
every1_at f t true = T_l (f true) (f false) t
every1_at f t false = T_r (f true) (f false) t

pub taut1 : (f g : Bool → Bool) → T (every1 (λ a. same (f a) (g a))) → (a : Bool) → f a ≡ g a
taut1 f g t a = same_eq (f a) (g a) (every1_at (λ a. same (f a) (g a)) t a)

pub taut2 : (f g : Bool → Bool → Bool) → T (every1 (λ a. every1 (λ b. same (f a b) (g a b)))) → (a b : Bool) → f a b ≡ g a b
taut2 f g t a b = taut1 (f a) (g a) (every1_at (λ a. every1 (λ b. same (f a b) (g a b))) t a) b

pub taut3 : (f g : Bool → Bool → Bool → Bool) → T (every1 (λ a. every1 (λ b. every1 (λ c. same (f a b c) (g a b c))))) → (a b c : Bool) → f a b c ≡ g a b c
taut3 f g t a b c = taut2 (f a) (g a) (every1_at (λ a. every1 (λ b. every1 (λ c. same (f a b c) (g a b c)))) t a) b c

pub taut4 : (f g : Bool → Bool → Bool → Bool → Bool) → T (every1 (λ a. every1 (λ b. every1 (λ c. every1 (λ d. same (f a b c d) (g a b c d))))))
    → (a b c d : Bool) → f a b c d ≡ g a b c d
taut4 f g t a b c d = taut3 (f a) (g a) (every1_at (λ a. every1 (λ b. every1 (λ c. every1 (λ d. same (f a b c d) (g a b c d))))) t a) b c d

pub taut5 : (f g : Bool → Bool → Bool → Bool → Bool → Bool) → T (every1 (λ a. every1 (λ b. every1 (λ c. every1 (λ d. every1 (λ e. same (f a b c d e) (g a b c d e)))))))
    → (a b c d e : Bool) → f a b c d e ≡ g a b c d e
taut5 f g t a b c d e = taut4 (f a) (g a) (every1_at (λ a. every1 (λ b. every1 (λ c. every1 (λ d. every1 (λ e. same (f a b c d e) (g a b c d e)))))) t a) b c d e

pub taut7 : (z c d e p q s : Bool) → xor (xor (xor (xor c d) e) z) (xor p (xor q s)) ≡ xor z (xor (xor c p) (xor (xor d q) (xor e s)))
taut7 z c d e p true true = taut5 (λ z c d e p. xor (xor (xor (xor c d) e) z) (xor p (xor true true))) (λ z c d e p. xor z (xor (xor c p) (xor (xor d true) (xor e true)))) tt z c d e p
taut7 z c d e p true false = taut5 (λ z c d e p. xor (xor (xor (xor c d) e) z) (xor p (xor true false))) (λ z c d e p. xor z (xor (xor c p) (xor (xor d true) (xor e false)))) tt z c d e p
taut7 z c d e p false true = taut5 (λ z c d e p. xor (xor (xor (xor c d) e) z) (xor p (xor false true))) (λ z c d e p. xor z (xor (xor c p) (xor (xor d false) (xor e true)))) tt z c d e p
taut7 z c d e p false false = taut5 (λ z c d e p. xor (xor (xor (xor c d) e) z) (xor p (xor false false))) (λ z c d e p. xor z (xor (xor c p) (xor (xor d false) (xor e false)))) tt z c d e p
