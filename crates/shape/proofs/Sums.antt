-- Sums over the nodes of a network, over a list of them, and over a list of gates.
use mathlib.Core.Path.{◌≡◌, refl, sym, ap, ap₂, ◌∙◌}
use mathlib.Core.Logic.{◌≢◌}
use Prim.Native.Nat.{ℕ, zero, suc, ◌+◌, ◌≤◌, ◌<◌, zero-le}
use native.Mathlib.Nat.{not-suc-le-zero, le_refl}
use native.Mathlib.Omega.{arith}
use native.Mathlib.Decide.{ℕ_discrete}
use mathlib.Core.Bool.{Bool, true, false, not, cond}
use mathlib.Core.List.{List, [], ◌∷◌, ◌++◌, map}
use lib.ListN.{length, get_or}
use lib.Dec.{eqb}
use borrow.Author.Tests.{eq-eqb, ne_eqb}
use Rattle.laws.specs.Bools.{bit}
use Rattle.laws.specs.Lists.{All, Fresh, Distinct}
use Rattle.model.specs.Gate.{Gate, Net, is_dff, size, fanin, combs}
use Rattle.model.specs.Network.{deps, sum_to, unseen, upd}

-- ---- a function with one value changed

pub upd_same : {A : Type 0} (f : ℕ → A) (k : ℕ) (a : A) → upd f k a k ≡ a
upd_same f k a = rw (eq-eqb k k refl)

pub upd_other : {A : Type 0} (f : ℕ → A) (k : ℕ) (a : A) (v : ℕ) → v ≢ k → upd f k a v ≡ f v
upd_other f k a v h = rw (ne_eqb v k h)

-- ---- bits

pub bit_is : (a b : ℕ) → a ≡ b → bit (eqb a b) ≡ 1
bit_is a b e = ap bit (eq-eqb a b e)

pub bit_isnt : (a b : ℕ) → a ≢ b → bit (eqb a b) ≡ 0
bit_isnt a b e = ap bit (ne_eqb a b e)

pub bit_le : (b : Bool) → bit b ≤ 1
bit_le true = le_refl 1
bit_le false = zero-le

pub bit_pos : (b : Bool) → 0 < bit b → b ≡ true
bit_pos true h = refl
bit_pos false h = absurd (not-suc-le-zero h)

pub bit_zero : (b : Bool) → bit b ≤ 0 → b ≡ false
bit_zero true h = absurd (not-suc-le-zero h)
bit_zero false h = refl

-- ---- sums

pub sum_same : (f g : ℕ → ℕ) (n : ℕ) → ((u : ℕ) → u < n → f u ≡ g u) → sum_to f n ≡ sum_to g n
sum_same f g zero h = refl
sum_same f g (suc n) h = ap₂ ◌+◌ (sum_same f g n (λ u l. h u (omega arith))) (h n (le_refl _))

pub sum_mono : (f g : ℕ → ℕ) (n : ℕ) → ((u : ℕ) → u < n → f u ≤ g u) → sum_to f n ≤ sum_to g n
sum_mono f g zero h = zero-le
sum_mono f g (suc n) h = omega (arith, sum_mono f g n (λ u l. h u (omega arith)), h n (le_refl _))

-- two that differ at v only
pub sum_update : (f g : ℕ → ℕ) (v n : ℕ) → v < n → ((u : ℕ) → u ≢ v → f u ≡ g u) → sum_to f n + g v ≡ sum_to g n + f v
sum_update f g v zero l h = absurd (not-suc-le-zero l)
sum_update f g v (suc n) l h = elim (ℕ_discrete n v) [
  | yes e ↦ rw e (omega (arith, sum_same f g v (λ u x. h u (omega arith))))
  | no e ↦ omega (arith, sum_update f g v n (omega arith) h, h n e)
]

pub sum_add : (f g : ℕ → ℕ) (n : ℕ) → sum_to f n + sum_to g n ≡ sum_to (λ u. f u + g u) n
sum_add f g zero = refl
sum_add f g (suc n) = omega (arith, sum_add f g n)

pub sum_has : (f : ℕ → ℕ) (n u : ℕ) → u < n → f u ≤ sum_to f n
sum_has f zero u l = absurd (not-suc-le-zero l)
sum_has f (suc n) u l = elim (ℕ_discrete u n) [ yes q ↦ rw q (omega arith) | no q ↦ omega (arith, sum_has f n u (omega arith)) ]

pub sum_none : (f : ℕ → ℕ) (n : ℕ) → ((u : ℕ) → f u ≡ 0) → sum_to f n ≡ 0
sum_none f zero h = refl
sum_none f (suc n) h = omega (arith, sum_none f n h, h n)

pub sum_zero : (f : ℕ → ℕ) (n u : ℕ) → sum_to f n ≡ 0 → u < n → f u ≡ 0
sum_zero f n u e l = omega (arith, sum_has f n u l)

pub sum_pos : (f : ℕ → ℕ) (n : ℕ) → sum_to f n ≢ 0 → (u : ℕ) × (u < n) × (f u ≢ 0)
sum_pos f zero h = absurd (h refl)
sum_pos f (suc n) h = elim (ℕ_discrete (f n) 0) [
  | yes e ↦ (let r = sum_pos f n (omega arith) in (r.0, (let l = r.1 in omega arith), r.2))
  | no e ↦ (n, le_refl _, e)
]

-- ---- sums of at most 1 each

pub sum_le : (f : ℕ → ℕ) (n : ℕ) → ((u : ℕ) → f u ≤ 1) → sum_to f n ≤ n
sum_le f zero h = le_refl 0
sum_le f (suc n) h = omega (arith, sum_le f n h, h n)

pub sum_full : (f : ℕ → ℕ) (n u : ℕ) → ((u : ℕ) → f u ≤ 1) → sum_to f n ≡ n → u < n → f u ≡ 1
sum_full f zero u h e l = absurd (not-suc-le-zero l)
sum_full f (suc n) u h e l = elim (ℕ_discrete u n) [
  | yes q ↦ rw q (omega (arith, h n, sum_le f n h))
  | no q ↦ sum_full f n u h (omega (arith, h n, sum_le f n h)) (omega arith)
]

pub sum_ones : (f : ℕ → ℕ) (n : ℕ) → ((u : ℕ) → u < n → f u ≡ 1) → sum_to f n ≡ n
sum_ones f zero h = refl
sum_ones f (suc n) h = omega (arith, sum_ones f n (λ u l. h u (omega arith)), h n (le_refl _))

-- ---- sums over a list

abbrev pub sum_list : {A : Type 0} → (A → ℕ) → List A → ℕ
sum_list f [] = 0
sum_list f (x ∷ l) = f x + sum_list f l

pub list_append : {A : Type 0} (f : A → ℕ) (a b : List A) → sum_list f (a ++ b) ≡ sum_list f a + sum_list f b
list_append f [] b = omega arith
list_append f (x ∷ a) b = omega (arith, list_append f a b)

pub list_map : {A B : Type 0} (f : B → ℕ) (h : A → B) (g : A → ℕ) → ((a : A) → f (h a) ≡ g a) → (l : List A) → sum_list f (map h l) ≡ sum_list g l
list_map f h g e [] = refl
list_map f h g e (x ∷ l) = ap₂ ◌+◌ (e x) (list_map f h g e l)

pub list_ones : {A : Type 0} (l : List A) → sum_list (λ x. 1) l ≡ length l
list_ones [] = refl
list_ones (x ∷ l) = omega (arith, list_ones l)

sum_front : (f : ℕ → ℕ) (n : ℕ) → sum_to f (suc n) ≡ f 0 + sum_to (λ u. f (suc u)) n
sum_front f zero = omega arith
sum_front f (suc n) = omega (arith, sum_front f n)

-- place by place
pub list_sum : {A : Type 0} (f : A → ℕ) (l : List A) (d : A) → sum_to (λ i. f (get_or l i d)) (length l) ≡ sum_list f l
list_sum f [] d = refl
list_sum f (x ∷ l) d = sum_front (λ i. f (get_or (x ∷ l) i d)) (length l) ∙ ap (λ n. f x + n) (list_sum f l d)

-- ---- what is counted of a list of gates

pub length_total : (l : List Gate) → length l ≡ sum_list (λ g. 1) l
length_total l = sym (list_ones l)

pub fanin_total : (l : List Gate) → fanin l ≡ sum_list (λ g. length g.ins) l
unfolding fanin
fanin_total [] = refl
fanin_total (g ∷ l) = ap (λ n. length g.ins + n) (fanin_total l)

-- a combinational gate weighs one
abbrev pub comb_of : Gate → ℕ
comb_of g = bit (not (is_dff g))

pub combs_total : (l : List Gate) → combs l ≡ sum_list comb_of l
unfolding combs
combs_total [] = refl
combs_total (g ∷ l) = ap (λ n. comb_of g + n) (combs_total l)

-- ---- a sum over nodes without repeats is at most the sum over all

abbrev pub sum_over : (ℕ → ℕ) → List ℕ → ℕ
sum_over f l = sum_list f l

over_same : (f g : ℕ → ℕ) (x : ℕ) (l : List ℕ) → Fresh x l → ((u : ℕ) → u ≢ x → f u ≡ g u) → sum_over f l ≡ sum_over g l
over_same f g x [] a h = refl
over_same f g x (y ∷ l) a h = ap₂ ◌+◌ (h y a.0) (over_same f g x l a.1 h)

pub sum_distinct : (n : ℕ) (f : ℕ → ℕ) (l : List ℕ) → Distinct l → All (λ x. x < n) l → sum_over f l ≤ sum_to f n
sum_distinct n f [] d a = zero-le
sum_distinct n f (x ∷ l) d a =
    omega (
      arith,
      sum_update f (upd f x 0) x n a.0 (λ u q. sym (upd_other f x 0 u q)),
      upd_same f x 0,
      over_same f (upd f x 0) x l d.0 (λ u q. sym (upd_other f x 0 u q)),
      sum_distinct n (upd f x 0) l d.1 a.1,
    )

-- so there are at most n of them
pub length_distinct : (n : ℕ) (l : List ℕ) → Distinct l → All (λ x. x < n) l → length l ≤ n
length_distinct n l d a = omega (arith, sum_distinct n (λ x. 1) l d a, list_ones l, sum_ones (λ x. 1) n (λ u h. refl))

-- ---- a node visited has its signals no more to come

pub unseen_visit : (N : Net) (vis : ℕ → Bool) (v : ℕ) → v < size N → vis v ≡ false
    → sum_to (unseen N (upd vis v true)) (size N) + length (deps N v) ≡ sum_to (unseen N vis) (size N)
unseen_visit N vis v l e =
    let f : Bool → ℕ = λ b. cond b 0 (length (deps N v)) in
    omega (
      arith,
      sum_update (unseen N vis) (unseen N (upd vis v true)) v (size N) l (λ u y. ap (λ b. cond b 0 (length (deps N u))) (sym (upd_other vis v true u y))),
      ap f e,
      ap f (upd_same vis v true),
    )
