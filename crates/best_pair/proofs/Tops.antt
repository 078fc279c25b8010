-- Laws of the search for the best pair: each says what one turn of a loop does to the definition of the rest.
use Prim.Native.Nat.{max, min, suc, ℕ, ◌+◌, ◌<◌, ◌≤◌}
use mathlib.Core.Path.{refl, sym, ◌∙◌, ◌≡◌}
use mathlib.Core.Logic.{◌≢◌}
use mathlib.Core.Bool.{Bool, false, true}
use mathlib.Core.List.{List, ◌∷◌}
use native.Mathlib.Omega.{arith}
use native.Mathlib.Numerals.{add-one}
use lib.ListN.{drop, get_or}
use Rattle.std.specs.Prelude.{Some, None}
use borrow.Author.Tests.{eq-eqb, ne_eqb}
use Rattle.model.specs.Sharing.{Top, beats, consider, find_best_pair, together, top_in, top_over, top_with}
use Rattle.pairs.specs.Lists.{left_at, list_at, lists_of, sig_at, start_at}
use Rattle.best_pair.specs.Search.{best_of, considered, in_top, with_top}
use Rattle.top_pair.specs.Tops.{top_of}
use Rattle.pairs.proofs.Walks.{drop_list, drop_lists, get_or_list, list_end, lists_end}
use Rattle.top_pair.specs.declared.Top as code
use Rattle.count_pair.proofs.Counts.{sig_fits, sig_room}

-- consider_pair, consider_both
module _ (gs : List (List ℕ)) (a b : ℕ) (t : code.Top) (n : ℕ) (e : n ≡ together a b gs) (w : Bool) (ew : w ≡ beats n a b (top_of t)) where
  pub consider_yes : w ≡ true → top_of (record { n = n; a = a; b = b }) ≡ considered gs (top_of t) a b
  unfolding considered consider top_of
  consider_yes h = rw (← e) (rw (sym ew ∙ h))

  pub consider_no : w ≡ false → top_of t ≡ considered gs (top_of t) a b
  unfolding considered consider
  consider_no h = rw (← e) (rw (sym ew ∙ h))

pub ruleset considers = (consider_yes, consider_no)

pub both_is : (gs : List (List ℕ)) (a b p q : ℕ) (t r : code.Top) → p ≡ min a b → q ≡ max a b → top_of r ≡ considered gs (top_of t) p q → top_of r ≡ with_top gs (top_of t) a b
unfolding considered with_top
both_is gs a b p q t r ep eq e = rw (← ep, ← eq) e

-- best_with: the invariant is x ≡ top_with gs (top_of u) a (drop k (list_at area i))
pub with_start : (gs : List (List ℕ)) (t : Top) (area : List ℕ) (i j f n a : ℕ) → f ≡ start_at area i → n ≡ left_at area i → j < left_at area i → a ≡ sig_at area (f + j)
    → in_top gs t (list_at area i) j ≡ top_with gs t a (drop (j + 1) (list_at area i))
unfolding in_top
with_start gs t area i j f n a ef en h ea =
    let q : get_or (list_at area i) j 0 ≡ a = get_or_list area i j h ∙ rw (← ef) (sym ea) in
    rw (add-one j, q)

module _ (gs : List (List ℕ)) (area : List ℕ) (i f n : ℕ) (ef : f ≡ start_at area i) (en : n ≡ left_at area i) (x : Top) (u : code.Top) (a k : ℕ) (inv : x ≡ top_with gs (top_of u) a (drop k (list_at area i))) where
  pub with_step : (s : ℕ) (r : code.Top) → k < n → s ≡ sig_at area (f + k) → top_of r ≡ with_top gs (top_of u) a s → x ≡ top_with gs (top_of r) a (drop (k + 1) (list_at area i))
  unfolding top_with with_top
  with_step s r h es er =
      let d : drop k (list_at area i) ≡ s ∷ drop (suc k) (list_at area i) = drop_list area i k (omega arith) ∙ rw (← ef) (rw (← es)) in
      inv ∙ rw (add-one k, d, er)

  pub with_end : n ≤ k → top_of u ≡ x
  unfolding top_with
  with_end h = sym (inv ∙ rw (list_end area i k (omega arith)))

pub ruleset withs = (sig_room, sig_fits, with_start, with_step, with_end)

-- best_in: x ≡ top_in gs (top_of u) (drop j (list_at area i))
module _ (gs : List (List ℕ)) (area : List ℕ) (i n : ℕ) (en : n ≡ left_at area i) (x : Top) (u : code.Top) (j : ℕ) (inv : x ≡ top_in gs (top_of u) (drop j (list_at area i))) where
  pub in_step : (r : code.Top) → j < n → top_of r ≡ in_top gs (top_of u) (list_at area i) j → x ≡ top_in gs (top_of r) (drop (j + 1) (list_at area i))
  unfolding top_in in_top
  in_step r h er =
      let q = get_or_list area i j (omega arith) in
      inv ∙ rw (add-one j, drop_list area i j (omega arith), er, q)

  pub in_end : n ≤ j → top_of u ≡ x
  unfolding top_in
  in_end h = sym (inv ∙ rw (list_end area i j (omega arith)))

pub ruleset ins = (in_step, in_end)

-- find_best_pair: x ≡ top_over (lists_of area g) (top_of u) (drop i (lists_of area g))
pub over_start : (area : List ℕ) (g : ℕ) → find_best_pair (lists_of area g) ≡ top_over (lists_of area g) (top_of (record { n = 0; a = 0; b = 0 })) (drop 0 (lists_of area g))
unfolding find_best_pair top_of
over_start area g = refl

module _ (area : List ℕ) (g : ℕ) (x : Top) (u : code.Top) (i : ℕ) (inv : x ≡ top_over (lists_of area g) (top_of u) (drop i (lists_of area g))) where
  pub over_step : (r : code.Top) → i < g → top_of r ≡ top_in (lists_of area g) (top_of u) (list_at area i) → x ≡ top_over (lists_of area g) (top_of r) (drop (i + 1) (lists_of area g))
  unfolding top_over
  over_step r h er = inv ∙ rw (add-one i, drop_lists area g i h, er)

  pub over_none : g ≤ i → u.n ≡ 0 → None ≡ best_of x
  unfolding top_over best_of top_of
  over_none h z = let e : x ≡ top_of u = inv ∙ rw (lists_end area g i h) in rw e (rw (eq-eqb u.n 0 z))

  pub over_found : g ≤ i → u.n ≢ 0 → Some (u.a, u.b) ≡ best_of x
  unfolding top_over best_of top_of
  over_found h z = let e : x ≡ top_of u = inv ∙ rw (lists_end area g i h) in rw e (rw (ne_eqb u.n 0 z))

pub ruleset overs = (over_start, over_step, over_none, over_found)
