-- The best pair does not depend on the order of the search: it is the one pair that no pair beats. So a search in another order, or over kept counts, may take its place.
use Prim.Native.Nat.{max, min, suc, zero, ℕ, ◌<◌, ◌≤◌}
use mathlib.Core.Path.{ap, refl, subst, sym, ◌∙◌, ◌≡◌}
use mathlib.Core.Logic.{inl, inr, ⊎_elim, ◌⊎◌}
use mathlib.Core.Bool.{false, true}
use mathlib.Core.List.{List, [], ◌++◌, ◌∷◌}
use native.Mathlib.Omega.{arith}
use native.Mathlib.Nat.{le_refl}
use native.Mathlib.Decide.{dec_lt}
use lib.ListN.{length}
use lib.Dec.{eqb}
use borrow.Author.Tests.{eq-eqb, eqb-false, eqb-true, le-ltb, lt-ltb}
use Rattle.laws.specs.Lists.{All}
use Rattle.model.specs.Sharing.{Pair, State, Top, all_pairs, beats, consider, find_best_pair, greedy, holds, make_pair, replace_pair, together, top_in, top_over, top_with, total}
use Rattle.laws.proofs.Choices.{by_bool}
use Rattle.shape.proofs.FactoringFuel.{none_stays, none_turn, shrink_best, some_steps, two_here, two_ordered}

-- x goes before y
abbrev pub Before : Top → Top → Type 0
Before x y = (y.count < x.count) ⊎ ((x.count ≡ y.count) × ((x.a < y.a) ⊎ ((x.a ≡ y.a) × (x.b < y.b))))

pub before_trans : (x y z : Top) → Before x y → Before y z → Before x z
before_trans x y z (inl p) (inl q) = inl (omega arith)
before_trans x y z (inl p) (inr q) = inl (omega arith)
before_trans x y z (inr p) (inl q) = inl (omega arith)
before_trans x y z (inr (p, inl a)) (inr (q, inl b)) = inr (p ∙ q, inl (omega arith))
before_trans x y z (inr (p, inl a)) (inr (q, inr b)) = inr (p ∙ q, inl (omega arith))
before_trans x y z (inr (p, inr a)) (inr (q, inl b)) = inr (p ∙ q, inl (omega arith))
before_trans x y z (inr (p, inr a)) (inr (q, inr b)) = inr (p ∙ q, inr (omega arith, omega arith))

top≡ : {x y : Top} → x.count ≡ y.count → x.a ≡ y.a → x.b ≡ y.b → x ≡ y
top≡ p q r = λ i. record { count = p i; a = q i; b = r i }

pub before_total : (x y : Top) → Before x y ⊎ (Before y x ⊎ (x ≡ y))
before_total x y = elim (dec_lt y.count x.count) [
  | yes h ↦ inl (inl h)
  | no h ↦ elim (dec_lt x.count y.count) [
    | yes k ↦ inr (inl (inl k))
    | no k ↦ (let c : x.count ≡ y.count = omega arith in elim (dec_lt x.a y.a) [
      | yes p ↦ inl (inr (c, inl p))
      | no p ↦ elim (dec_lt y.a x.a) [
        | yes q ↦ inr (inl (inr (sym c, inl q)))
        | no q ↦ (let d : x.a ≡ y.a = omega arith in elim (dec_lt x.b y.b) [
          | yes r ↦ inl (inr (c, inr (d, r)))
          | no r ↦ elim (dec_lt y.b x.b) [
            | yes s ↦ inr (inl (inr (sym c, inr (sym d, s))))
            | no s ↦ inr (inr (top≡ c d (omega arith)))
          ]
        ])
      ]
    ])
  ]
]

-- the test of the search
pub beats_yes : (x t : Top) → Before x t → beats x.count x.a x.b t ≡ true
unfolding beats
beats_yes x t (inl p) = rw (lt-ltb t.count x.count p)
beats_yes x t (inr (p, inl q)) =
    let u : x.count ≤ t.count = omega arith in let v : t.count ≤ x.count = omega arith in
    simp (le-ltb t.count x.count u, le-ltb x.count t.count v, lt-ltb x.a t.a q)
beats_yes x t (inr (p, inr q)) =
    let u : x.count ≤ t.count = omega arith in let v : t.count ≤ x.count = omega arith in
    let w : x.a ≤ t.a = omega arith in let y : t.a ≤ x.a = omega arith in
    simp (le-ltb t.count x.count u, le-ltb x.count t.count v, le-ltb x.a t.a y, le-ltb t.a x.a w, lt-ltb x.b t.b q.1)

pub beats_no : (x t : Top) → Before t x ⊎ (x ≡ t) → beats x.count x.a x.b t ≡ false
unfolding beats
beats_no x t (inl (inl p)) = let u : x.count ≤ t.count = omega arith in simp (le-ltb t.count x.count u, lt-ltb x.count t.count p)
beats_no x t (inl (inr (p, inl q))) =
    let u : x.count ≤ t.count = omega arith in let v : t.count ≤ x.count = omega arith in let w : t.a ≤ x.a = omega arith in
    simp (le-ltb t.count x.count u, le-ltb x.count t.count v, le-ltb x.a t.a w, lt-ltb t.a x.a q)
beats_no x t (inl (inr (p, inr q))) =
    let u : x.count ≤ t.count = omega arith in let v : t.count ≤ x.count = omega arith in
    let w : x.a ≤ t.a = omega arith in let y : t.a ≤ x.a = omega arith in let z : t.b ≤ x.b = omega arith in
    simp (le-ltb t.count x.count u, le-ltb x.count t.count v, le-ltb x.a t.a y, le-ltb t.a x.a w, le-ltb x.b t.b z)
beats_no x t (inr e) =
    let c : x.count ≡ t.count = ap (λ y. y.count) e in let d : x.a ≡ t.a = ap (λ y. y.a) e in let f : x.b ≡ t.b = ap (λ y. y.b) e in
    let u : x.count ≤ t.count = omega arith in let v : t.count ≤ x.count = omega arith in
    let w : x.a ≤ t.a = omega arith in let y : t.a ≤ x.a = omega arith in let z : t.b ≤ x.b = omega arith in
    simp (le-ltb t.count x.count u, le-ltb x.count t.count v, le-ltb x.a t.a y, le-ltb t.a x.a w, le-ltb x.b t.b z)

irreflexive : (x : Top) → Before x x → ⊥
irreflexive x (inl p) = omega arith
irreflexive x (inr (p, inl q)) = omega arith
irreflexive x (inr (p, inr q)) = omega arith

not_both : (x y : Top) → Before x y → Before y x → ⊥
not_both x y p q = irreflexive x (before_trans x y x p q)

-- ---- the search is a fold over all pairs

abbrev pub no_pair : Top
no_pair = record { count = 0; a = 0; b = 0 }

abbrev pub pairs_with : ℕ → List ℕ → List Pair
pairs_with a [] = []
pairs_with a (b ∷ l) = make_pair a b ∷ pairs_with a l

abbrev pub pairs_of : List ℕ → List Pair
pairs_of [] = []
pairs_of (a ∷ l) = pairs_with a l ++ pairs_of l

abbrev pub pairs_in : List (List ℕ) → List Pair
pairs_in [] = []
pairs_in (l ∷ gs) = pairs_of l ++ pairs_in gs

module _ (gs : List (List ℕ)) where
  abbrev pub counted : Pair → Top
  counted x = record { count = together x.fst x.snd gs; a = x.fst; b = x.snd }

  abbrev pub fold : Top → List Pair → Top
  fold t [] = t
  fold t (x ∷ l) = fold (consider gs t x) l

  fold_append : (t : Top) (l m : List Pair) → fold t (l ++ m) ≡ fold (fold t l) m
  fold_append t [] m = refl
  fold_append t (x ∷ l) m = fold_append (consider gs t x) l m

  fold_with : (t : Top) (a : ℕ) (l : List ℕ) → top_with gs t a l ≡ fold t (pairs_with a l)
  unfolding top_with
  fold_with t a [] = refl
  fold_with t a (b ∷ l) = fold_with (consider gs t (make_pair a b)) a l

  fold_in : (t : Top) (l : List ℕ) → top_in gs t l ≡ fold t (pairs_of l)
  unfolding top_in
  fold_in t [] = refl
  fold_in t (a ∷ l) = fold_in (top_with gs t a l) l ∙ ap (λ u. fold u (pairs_of l)) (fold_with t a l) ∙ sym (fold_append t (pairs_with a l) (pairs_of l))

  fold_over : (t : Top) (ls : List (List ℕ)) → top_over gs t ls ≡ fold t (pairs_in ls)
  unfolding top_over
  fold_over t [] = refl
  fold_over t (l ∷ ls) = fold_over (top_in gs t l) ls ∙ ap (λ u. fold u (pairs_in ls)) (fold_in t l) ∙ sym (fold_append t (pairs_of l) (pairs_in ls))

  pub best_fold : find_best_pair gs ≡ fold no_pair (pairs_in gs)
  unfolding find_best_pair
  best_fold = fold_over no_pair gs

  -- ---- no pair goes before the result

  abbrev pub Last : Top → List Pair → Type 0
  Last r l = All (λ x. Before (counted x) r → ⊥) l

  behind : (t : Top) (x : Pair) → Before t (counted x) ⊎ (counted x ≡ t) → Before (counted x) t → ⊥
  behind t x (inl p) q = not_both t (counted x) p q
  behind t x (inr e) q = irreflexive t (subst (λ (y : Top). Before y t) e q)

  abbrev Step : Top → Pair → Type 0
  Step t x = ((consider gs t x ≡ counted x) × Before (counted x) t) ⊎ ((consider gs t x ≡ t) × (Before (counted x) t → ⊥))

  step : (t : Top) (x : Pair) → Step t x
  unfolding consider
  step t x = ⊎_elim
      (λ (p : Before (counted x) t). inl (rw (beats_yes (counted x) t p), p))
      (λ (q : Before t (counted x) ⊎ (counted x ≡ t)). inr (rw (beats_no (counted x) t q), behind t x q))
      (before_total (counted x) t)

  after : (t r : Top) (x : Pair) → Before t (counted x) ⊎ (counted x ≡ t) → Before (counted x) r → Before t r
  after t r x (inl u) q = before_trans t (counted x) r u q
  after t r x (inr u) q = subst (λ (y : Top). Before y r) u q

  -- what starts the search does not go before its result either
  pub fold_last : (t : Top) (l : List Pair) → (Before t (fold t l) → ⊥) × Last (fold t l) l
  fold_last t [] = (irreflexive t, tt)
  fold_last t (x ∷ l) = go (fold (consider gs t x) l) (step t x) (fold_last (consider gs t x) l)
    where
      go : (r : Top) → Step t x → (Before (consider gs t x) r → ⊥) × Last r l → (Before t r → ⊥) × Last r (x ∷ l)
      go r (inl (e, p)) ih =
          let n : Before (counted x) r → ⊥ = λ q. ih.0 (subst (λ (y : Top). Before y r) (sym e) q) in
          ((λ q. n (before_trans (counted x) t r p q)), (n, ih.1))
      go r (inr (e, p)) ih =
          let n : Before t r → ⊥ = λ q. ih.0 (subst (λ (y : Top). Before y r) (sym e) q) in (
            n,
            (
              (λ q. ⊎_elim
                  (λ (u : Before (counted x) t). p u)
                  (λ (u : Before t (counted x) ⊎ (counted x ≡ t)). n (after t r x u q))
                  (before_total (counted x) t)),
              ih.1,
            ),
          )

  -- the result is the start or one of the pairs
  fold_from : (P : Top → Type 0) (t : Top) (l : List Pair) → P t → All (λ x. P (counted x)) l → P (fold t l)
  fold_from P t [] p h = p
  fold_from P t (x ∷ l) p h = fold_from P (consider gs t x) l (go (step t x)) h.1
    where
      go : Step t x → P (consider gs t x)
      go (inl (e, q)) = subst P (sym e) h.0
      go (inr (e, q)) = subst P (sym e) p

  abbrev pub Member : Pair → List Pair → Type 0
  Member x [] = ⊥
  Member x (y ∷ l) = (x ≡ y) ⊎ Member x l

  last_at : (r : Top) (l : List Pair) (x : Pair) → Last r l → Member x l → Before (counted x) r → ⊥
  last_at r [] x h m = absurd m
  last_at r (y ∷ l) x h (inl e) = subst (λ (z : Pair). Before (counted z) r → ⊥) (sym e) h.0
  last_at r (y ∷ l) x h (inr m) = last_at r l x h.1 m

  -- THE BEST PAIR: a pair that is there, and that no pair goes before, is the one that a fresh count gives
  pub best_is : (x : Pair) → Member x (pairs_in gs) → 0 < together x.fst x.snd gs → Last (counted x) (pairs_in gs) → find_best_pair gs ≡ counted x
  best_is x m pos h =
      let f = fold_last no_pair (pairs_in gs) in
      best_fold ∙ go (fold no_pair (pairs_in gs)) (last_at (fold no_pair (pairs_in gs)) (pairs_in gs) x f.1 m)
      (fold_from (λ r. Before r (counted x) → ⊥) no_pair (pairs_in gs) none h)
    where
      none : Before no_pair (counted x) → ⊥
      none (inl p) = omega arith
      none (inr p) = omega arith

      go : (r : Top) → (Before (counted x) r → ⊥) → (Before r (counted x) → ⊥) → r ≡ counted x
      go r p q = ⊎_elim
          (λ (u : Before r (counted x)). absurd (q u))
          (λ (u : Before (counted x) r ⊎ (r ≡ counted x)). ⊎_elim (λ (v : Before (counted x) r). absurd (p v)) (λ (v : r ≡ counted x). v) u)
          (before_total r (counted x))

  -- no pair at all
  pub best_no_pair : pairs_in gs ≡ [] → find_best_pair gs ≡ no_pair
  best_no_pair e = best_fold ∙ rw e

-- ---- where no pair is left, no list has two signals

together_here : (p q : ℕ) (l : List ℕ) (gs : List (List ℕ)) → holds p q l ≡ true → 0 < together p q (l ∷ gs)
unfolding together
together_here p q l gs e = rw e (omega arith)

together_there : (p q : ℕ) (l : List ℕ) (gs : List (List ℕ)) → together p q gs ≤ together p q (l ∷ gs)
unfolding together
together_there p q l gs = omega arith

-- every pair of a list counts
counts : (gs ls : List (List ℕ)) → ((p q : ℕ) → together p q ls ≤ together p q gs) → (find_best_pair gs).count ≡ 0 → Last gs (find_best_pair gs) (pairs_in ls) → All (λ l. length l ≤ 1) ls
counts gs [] up z h = tt
counts gs ([] ∷ ls) up z h = (omega arith, counts gs ls (λ p q. omega (arith, up p q, together_there p q [] ls)) z h)
counts gs ((a ∷ []) ∷ ls) up z h = (omega arith, counts gs ls (λ p q. omega (arith, up p q, together_there p q (a ∷ []) ls)) z h)
counts gs ((a ∷ b ∷ l) ∷ ls) up z h =
    let k = together_here (min a b) (max a b) (a ∷ b ∷ l) ls (two_ordered a b (a ∷ b ∷ l) (two_here a b (b ∷ l) (rw (eq-eqb b b refl)))).both in
    absurd (h.0 (inl (omega (arith, up (min a b) (max a b)))))

pub none_two : (gs : List (List ℕ)) → (find_best_pair gs).count ≡ 0 → All (λ l. length l ≤ 1) gs
none_two gs z = counts gs gs (λ p q. le_refl _) z (rw (best_fold gs) (fold_last gs no_pair (pairs_in gs)).1)

greedy_none : (f : ℕ) (s : State) → total s.lists ≤ f → (find_best_pair (greedy f s).lists).count ≡ 0
greedy_none zero s h = by_bool (eqb (find_best_pair s.lists).count 0)
    (λ q. rw (none_turn s) (eqb-true _ _ q))
    (λ q. absurd (omega (arith, shrink_best s (eqb-false _ _ q))))
greedy_none (suc f) s h = by_bool (eqb (find_best_pair s.lists).count 0)
    (λ q. rw (none_stays (suc f) s (eqb-true _ _ q)) (eqb-true _ _ q))
    (λ q.
    let d = eqb-false _ _ q in
    rw (some_steps f s d) (greedy_none f (replace_pair s (find_best_pair s.lists).a (find_best_pair s.lists).b) (omega (arith, shrink_best s d))))

-- THE FUEL SUFFICES: at the end of the pairs no gate has two signals left
pub all_pairs_none_two : (s : State) → All (λ l. length l ≤ 1) (all_pairs s).lists
unfolding all_pairs
all_pairs_none_two s = none_two (greedy (total s.lists) s).lists (greedy_none (total s.lists) s (le_refl _))
