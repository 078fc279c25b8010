-- The best pair takes a signal away, so that as many turns as there are signals are enough.
use Prim.Native.Nat.{max, min, suc, zero, ℕ, ◌+◌, ◌<◌, ◌≤◌}
use mathlib.Core.Path.{refl, sym, ◌∙◌, ◌≡◌}
use mathlib.Core.Logic.{inl, inr, ⊎_elim, ◌≢◌, ◌⊎◌}
use mathlib.Core.Bool.{Bool, false, true, ◌&&◌, ◌||◌}
use mathlib.Core.List.{List, [], map, ◌∷◌}
use native.Mathlib.Omega.{arith}
use native.Mathlib.Nat.{le_refl}
use native.Mathlib.Decide.{dec_lt}
use lib.ListN.{length, length-append}
use lib.Dec.{eqb}
use borrow.Author.Tests.{eq-eqb, eqb-false, eqb-true, ne_eqb}
use Rattle.laws.specs.Lists.{All}
use Rattle.model.specs.Network.{has}
use Rattle.model.specs.Sharing.{Pair, State, Top, all_pairs, beats, consider, find_best_pair, greedy, holds, make_pair, replace_in, replace_pair, take_out, together, top_in, top_over, top_with, total}
use Rattle.laws.proofs.Bools.{and_comm, and_left, or_comm, or-true}
use Rattle.laws.proofs.Choices.{by_bool}
use Rattle.laws.proofs.Lists.{all_map}
use Rattle.shape.proofs.FactoringLists.{take_out_lt}

take_out_comm : (p q : ℕ) (l : List ℕ) → take_out p q l ≡ take_out q p l
unfolding take_out
take_out_comm p q [] = refl
take_out_comm p q (x ∷ l) = rw (or_comm (eqb x p) (eqb x q), take_out_comm p q l)

-- a list that holds p and q at two places
pub record Two (p q : ℕ) (l : List ℕ) : Type 0 where
  pub fewer : suc (length (take_out p q l)) < length l
  pub both : holds p q l ≡ true

two_comm : (p q : ℕ) (l : List ℕ) → Two p q l → Two q p l
unfolding holds
two_comm p q l t = record { fewer = rw (take_out_comm q p l) t.fewer; both = and_comm (has q l) (has p l) ∙ t.both }

two_cons : (p q x : ℕ) (l : List ℕ) → Two p q l → Two p q (x ∷ l)
unfolding take_out holds
two_cons p q x l t = record {
  fewer = by_bool (eqb x p || eqb x q) (λ e. rw e (omega (arith, t.fewer))) (λ e. rw e (omega (arith, t.fewer)));
  both = go (has p l) (has q l) t.both;
}
  where
    go : (a b : Bool) → a && b ≡ true → (eqb x p || a) && (eqb x q || b) ≡ true
    go true true e = rw (or-true (eqb x p), or-true (eqb x q))
    go true false e = let z : ◌≡◌ {A = ℕ} 0 1 = cc in absurd (omega arith)
    go false b e = let z : ◌≡◌ {A = ℕ} 0 1 = cc in absurd (omega arith)

pub two_here : (a b : ℕ) (l : List ℕ) → has b l ≡ true → Two a b (a ∷ l)
unfolding take_out holds
two_here a b l h = record {
  fewer = rw (eq-eqb a a refl) (rw (take_out_comm a b l) (omega (arith, take_out_lt b a l h)));
  both = rw (eq-eqb a a refl) (rw h (or-true (eqb a b)));
}

pub two_ordered : (a b : ℕ) (l : List ℕ) → Two a b l → Two (min a b) (max a b) l
two_ordered a b l t = elim (dec_lt b a) [
  | yes k ↦ (let p : min a b ≡ b = omega arith in let q : max a b ≡ a = omega arith in rw (p, q) (two_comm a b l t))
  | no k ↦ (let p : min a b ≡ a = omega arith in let q : max a b ≡ b = omega arith in rw (p, q) t)
]

-- one of the lists does
abbrev pub TwoIn : ℕ → ℕ → List (List ℕ) → Type 0
TwoIn p q [] = ⊥
TwoIn p q (l ∷ gs) = Two p q l ⊎ TwoIn p q gs

-- ---- replacing it makes the lists shorter

module _ (p q z : ℕ) where
  pub in_le : (l : List ℕ) → length (replace_in p q z l) ≤ length l
  unfolding replace_in holds
  in_le l = by_bool (has p l && has q l) (λ e. rw (e, length-append) (omega (arith, take_out_lt p q l (and_left _ _ e)))) (λ e. rw e (le_refl _))

  in_lt : (l : List ℕ) → Two p q l → length (replace_in p q z l) < length l
  unfolding replace_in
  in_lt l t = rw (t.both, length-append) (omega (arith, t.fewer))

  all_le : (gs : List (List ℕ)) → total (map (replace_in p q z) gs) ≤ total gs
  unfolding total
  all_le [] = le_refl _
  all_le (l ∷ gs) = omega (arith, in_le l, all_le gs)

  pub shrinks : (gs : List (List ℕ)) → TwoIn p q gs → total (map (replace_in p q z) gs) < total gs
  unfolding total
  shrinks [] t = absurd t
  shrinks (l ∷ gs) (inl t) = omega (arith, in_lt l t, all_le gs)
  shrinks (l ∷ gs) (inr t) = omega (arith, in_le l, shrinks gs t)

-- ---- the best pair is such a pair

module _ (gs : List (List ℕ)) where
  -- what a list of gs holds, gs holds
  abbrev Lifts : List ℕ → Type 0
  Lifts l = (p q : ℕ) → Two p q l → TwoIn p q gs

  Fine : Top → Type 0
  Fine t = (t.count ≡ 0) ⊎ TwoIn t.a t.b gs

  fine_consider : (t : Top) (x : Pair) → Fine t → TwoIn x.fst x.snd gs → Fine (consider gs t x)
  unfolding consider Fine
  fine_consider t x f h = by_bool (beats (together x.fst x.snd gs) x.fst x.snd t) (λ e. rw e (inr h)) (λ e. rw e f)

  fine_with : (t : Top) (a : ℕ) (l : List ℕ) → ((b : ℕ) → has b l ≡ true → TwoIn (min a b) (max a b) gs) → Fine t → Fine (top_with gs t a l)
  unfolding top_with
  fine_with t a [] h f = f
  fine_with t a (b ∷ l) h f =
      fine_with (consider gs t (make_pair a b)) a l (λ c e. h c (rw e (or-true (eqb b c)))) (fine_consider t (make_pair a b) f (h b (rw (eq-eqb b b refl))))

  min_max : (a b : ℕ) (l : List ℕ) → Lifts (a ∷ l) → has b l ≡ true → TwoIn (min a b) (max a b) gs
  min_max a b l up h = up (min a b) (max a b) (two_ordered a b (a ∷ l) (two_here a b l h))

  fine_in : (t : Top) (l : List ℕ) → Lifts l → Fine t → Fine (top_in gs t l)
  unfolding top_in
  fine_in t [] up f = f
  fine_in t (a ∷ l) up f =
      fine_in (top_with gs t a l) l (λ p q x. up p q (two_cons p q a l x)) (fine_with t a l (λ b h. min_max a b l up h) f)

  fine_over : (t : Top) (ls : List (List ℕ)) → All Lifts ls → Fine t → Fine (top_over gs t ls)
  unfolding top_over
  fine_over t [] u f = f
  fine_over t (l ∷ ls) u f = fine_over (top_in gs t l) ls u.1 (fine_in t l u.0 f)

lifts_cons : (l : List ℕ) (gs ls : List (List ℕ)) → All (Lifts gs) ls → All (Lifts (l ∷ gs)) ls
lifts_cons l gs ls u = all_map ls (λ m f p q t. inr (f p q t)) u

lifts_all : (gs : List (List ℕ)) → All (Lifts gs) gs
lifts_all [] = tt
lifts_all (l ∷ gs) = ((λ p q t. inl t), lifts_cons l gs gs (lifts_all gs))

pub fine_best : (gs : List (List ℕ)) → ((find_best_pair gs).count ≡ 0) ⊎ TwoIn (find_best_pair gs).a (find_best_pair gs).b gs
unfolding find_best_pair Fine
fine_best gs = fine_over gs (record { count = 0; a = 0; b = 0 }) gs (lifts_all gs) (inl refl)

pub two_best : (gs : List (List ℕ)) → (find_best_pair gs).count ≢ 0 → TwoIn (find_best_pair gs).a (find_best_pair gs).b gs
two_best gs d = ⊎_elim (λ (e : (find_best_pair gs).count ≡ 0). absurd (d e)) (λ (h : TwoIn (find_best_pair gs).a (find_best_pair gs).b gs). h) (fine_best gs)

-- ---- enough turns

pub shrink_best : (s : State) → (find_best_pair s.lists).count ≢ 0 → total (replace_pair s (find_best_pair s.lists).a (find_best_pair s.lists).b).lists < total s.lists
unfolding replace_pair
shrink_best s d = shrinks (find_best_pair s.lists).a (find_best_pair s.lists).b _ s.lists (two_best s.lists d)

pub none_stays : (f : ℕ) (s : State) → (find_best_pair s.lists).count ≡ 0 → greedy f s ≡ s
unfolding greedy
none_stays zero s e = refl
none_stays (suc f) s e = rw (eq-eqb _ 0 e)

pub some_steps : (f : ℕ) (s : State) → (find_best_pair s.lists).count ≢ 0 → greedy (suc f) s ≡ greedy f (replace_pair s (find_best_pair s.lists).a (find_best_pair s.lists).b)
unfolding greedy
some_steps f s e = rw (ne_eqb _ 0 e)

pub enough : (f e : ℕ) (s : State) → total s.lists ≤ f → f ≤ e → greedy e s ≡ greedy f s
enough zero e s h k = by_bool (eqb (find_best_pair s.lists).count 0)
    (λ q. none_stays e s (eqb-true _ _ q) ∙ sym (none_stays 0 s (eqb-true _ _ q)))
    (λ q. let z = shrink_best s (eqb-false _ _ q) in absurd (omega arith))
enough (suc f) zero s h k = absurd (omega arith)
enough (suc f) (suc e) s h k = by_bool (eqb (find_best_pair s.lists).count 0)
    (λ q. none_stays (suc e) s (eqb-true _ _ q) ∙ sym (none_stays (suc f) s (eqb-true _ _ q)))
    (λ q.
    let d = eqb-false _ _ q in
    let z = shrink_best s d in
    some_steps e s d ∙ enough f e (replace_pair s (find_best_pair s.lists).a (find_best_pair s.lists).b) (omega arith) (omega arith) ∙ sym (some_steps f s d))

-- ---- all_pairs

pub all_pairs_none : (s : State) → (find_best_pair s.lists).count ≡ 0 → all_pairs s ≡ s
unfolding all_pairs
all_pairs_none s e = none_stays _ s e

pub all_pairs_some : (s : State) → (find_best_pair s.lists).count ≢ 0 → all_pairs s ≡ all_pairs (replace_pair s (find_best_pair s.lists).a (find_best_pair s.lists).b)
unfolding all_pairs
all_pairs_some s d = go (total s.lists) refl
  where
    go : (t : ℕ) → total s.lists ≡ t → greedy (total s.lists) s ≡ greedy (total (replace_pair s (find_best_pair s.lists).a (find_best_pair s.lists).b).lists) (replace_pair s (find_best_pair s.lists).a (find_best_pair s.lists).b)
    go zero e = absurd (omega (arith, shrink_best s d))
    go (suc t) e =
        let z = shrink_best s d in
        rw e (some_steps t s d ∙ enough (total (replace_pair s (find_best_pair s.lists).a (find_best_pair s.lists).b).lists) t _ (le_refl _) (omega arith))

pub built_replaced : (s : State) (a b : ℕ) → length (replace_pair s a b).built ≡ length s.built + 1
unfolding replace_pair
built_replaced s a b = length-append s.built _

pub none_turn : (s : State) → greedy 0 s ≡ s
unfolding greedy
none_turn s = refl

built_greedy : (f : ℕ) (s : State) → length s.built ≤ length (greedy f s).built
built_greedy zero s = rw (none_turn s) (le_refl _)
built_greedy (suc f) s = by_bool (eqb (find_best_pair s.lists).count 0)
    (λ q. rw (none_stays (suc f) s (eqb-true _ _ q)) (le_refl _))
    (λ q.
    rw (some_steps f s (eqb-false _ _ q))
    (omega (arith, built_greedy f (replace_pair s (find_best_pair s.lists).a (find_best_pair s.lists).b), built_replaced s (find_best_pair s.lists).a (find_best_pair s.lists).b)))

pub built_all_pairs : (s : State) → length s.built ≤ length (all_pairs s).built
unfolding all_pairs
built_all_pairs s = built_greedy (total s.lists) s
