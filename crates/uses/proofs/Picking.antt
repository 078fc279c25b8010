-- Laws of pick_one and pick_signals.
use Prim.Native.Nat.{suc, zero, ℕ, ◌*◌, ◌+◌, ◌-◌, ◌/◌, ◌<◌, ◌≤◌}
use mathlib.Core.Path.{ap, refl, sym, ◌∙◌, ◌≡◌}
use mathlib.Core.Bool.{Bool, beq, false, not, true}
use mathlib.Core.List.{List, [], ◌++◌, ◌∷◌}
use native.Mathlib.Omega.{arith}
use native.Mathlib.Nat.{le_refl, mul-le-mul_left}
use native.Mathlib.Numerals.{add-one}
use mir.Syntax.{w64}
use mir.Val.{Fits}
use lib.ListN.{drop, length, length-append}
use Rattle.laws.specs.Lists.{All}
use Rattle.model.specs.Sharing.{places_of, retain}
use Rattle.pairs.specs.Lists.{Laid, left_at, list_at, lists_of, put_list, put_sig}
use Rattle.tables.specs.Layout.{count_at, first_at, input_at, ins_at}
use Rattle.uses.specs.Loading.{One, Picked, Picks, Stored}
use Rattle.uses.specs.Uses.{Named, is_once, use_at, use_ix, wanted}
use Rattle.laws.proofs.Bools.{true_false}
use Rattle.laws.proofs.Choices.{by_bool}
use Rattle.pairs.proofs.Gates.{length_list}
use Rattle.pairs.proofs.Places.{put_list_append, used_at_put_list}
use Rattle.pairs.proofs.Walks.{drop_lists, lists_end}
use Rattle.uses.proofs.Tallies.{ix_small}
use Rattle.uses.proofs.Walks.{ahead, ahead_all, ahead_none, ahead_suc, node_fits, node_named, node_place}

-- ---- retain

module _ (t : ℕ → Bool) where
  pub retain_le : (l : List ℕ) → length (retain t l) ≤ length l
  unfolding retain
  retain_le [] = le_refl _
  retain_le (x ∷ l) = by_bool (t x) (λ e. rw e (omega (arith, retain_le l))) (λ e. rw e (omega (arith, retain_le l)))

  pub retain_snoc : (l : List ℕ) (s : ℕ) → retain t (l ++ (s ∷ [])) ≡ retain t l ++ retain t (s ∷ [])
  unfolding retain
  retain_snoc [] s = refl
  retain_snoc (x ∷ l) s = by_bool (t x) (λ e. rw e (ap (◌∷◌ x) (retain_snoc l s))) (λ e. rw e (retain_snoc l s))

  retain_none : retain t [] ≡ []
  unfolding retain
  retain_none = refl

pub retain_ext : (t u : ℕ → Bool) (m : List ℕ) → ((x : ℕ) → Named x → t x ≡ u x) → All Named m → retain t m ≡ retain u m
unfolding retain
retain_ext t u [] h a = refl
retain_ext t u (x ∷ m) h a = rw (h x a.0, retain_ext t u m h a.1)

one_le : (t : ℕ → Bool) (s : ℕ) → length (retain t (s ∷ [])) ≤ 1
one_le t s = retain_le t (s ∷ [])

retain_grows : (t : ℕ → Bool) (l : List ℕ) (v j d : ℕ) → length (retain t (ahead l v j)) ≤ length (retain t (ahead l v (d + j)))
retain_grows t l v j zero = let e : 0 + j ≡ j = omega arith in rw e (le_refl _)
retain_grows t l v j (suc d) =
    let e : suc d + j ≡ suc (d + j) = omega arith in
    rw (e, ahead_suc, retain_snoc, length-append) (omega (arith, retain_grows t l v j d))

-- ---- what is stored leaves the table

pub once_put_list : (l : List ℕ) (f : ℕ) (m : List ℕ) (x : ℕ) → Named x → is_once (put_list l f m) x ≡ is_once l x
unfolding is_once use_at
once_put_list l f m x n = rw (used_at_put_list l f m (use_ix x) (omega (arith, ix_small x n)))

wanted_put_list : (l : List ℕ) (f : ℕ) (m : List ℕ) (o : Bool) (x : ℕ) → Named x → wanted (put_list l f m) o x ≡ wanted l o x
unfolding wanted
wanted_put_list l f m o x n = rw (once_put_list l f m x n)

-- ---- pick_one

wanted_yes : (l : List ℕ) (s : ℕ) (t o : Bool) → t ≡ is_once l s → not (beq t o) ≡ false → wanted l o s ≡ true
unfolding wanted
wanted_yes l s true true e q = sym e
wanted_yes l s true false e q = true_false q
wanted_yes l s false true e q = true_false q
wanted_yes l s false false e q = rw (← e)

wanted_no : (l : List ℕ) (s : ℕ) (t o : Bool) → t ≡ is_once l s → not (beq t o) ≡ true → wanted l o s ≡ false
unfolding wanted
wanted_no l s true true e q = true_false (sym q)
wanted_no l s true false e q = rw (← e)
wanted_no l s false true e q = sym e
wanted_no l s false false e q = true_false (sym q)

module _ (l : List ℕ) (k s : ℕ) (o t : Bool) (et : t ≡ is_once l s) where
  pub pick_no : not (beq t o) ≡ true → Stored l l k s o 0
  unfolding retain put_list
  pick_no q = let e = wanted_no l s t o et q in record { count = rw e; words = rw e }

  pub pick_yes : (m : List ℕ) → not (beq t o) ≡ false → m ≡ put_sig l k s → Stored l m k s o 1
  unfolding retain put_list
  pick_yes m q em = let e = wanted_yes l s t o et q in record { count = rw e; words = rw e em }

  pub pick_room : not (beq t o) ≡ false → One l k s o → k < 2048
  unfolding retain
  pick_room q h = let e = wanted_yes l s t o et q in let r : k + 1 ≤ 2048 = rw e at h.room in omega arith

pub ruleset ones = (pick_no, pick_yes, pick_room)

-- ---- pick_signals

pub record Picking (from l₀ l : List ℕ) (v at : ℕ) (o : Bool) (w j : ℕ) : Type 0 where
  pub upto : j ≤ count_at from v
  pub below : w ≤ j
  pub same : length l ≡ length l₀
  pub count : w ≡ length (retain (wanted l₀ o) (ahead from v j))
  pub words : l ≡ put_list l₀ at (retain (wanted l₀ o) (ahead from v j))

pub picks_start : (from l : List ℕ) (v at : ℕ) (o : Bool) → Picking from l l v at o 0 0
unfolding put_list
picks_start from l v at o = record {
  upto = omega arith;
  below = omega arith;
  same = refl;
  count = rw (ahead_none, retain_none);
  words = rw (ahead_none, retain_none);
}

module _ (from l₀ l : List ℕ) (v at : ℕ) (o : Bool) (w j : ℕ) (inv : Picking from l₀ l v at o w j) (P : Picks from l₀ v at o) where
  module _ (f n s : ℕ) (ef : f ≡ first_at from v) (en : n ≡ count_at from v) (h : j < n) (es : s ≡ input_at from (f + j)) where
    at_j : s ≡ input_at from (first_at from v + j)
    at_j = rw (← ef) es

    named : Named s
    named = node_named from v P.node f n j ef en h s es

    one : retain (wanted l o) (s ∷ []) ≡ retain (wanted l₀ o) (s ∷ [])
    unfolding retain
    one = let e : wanted l o s ≡ wanted l₀ o s = rw inv.words (wanted_put_list l₀ at (retain (wanted l₀ o) (ahead from v j)) o s named) in rw e

    next : retain (wanted l₀ o) (ahead from v (suc j)) ≡ retain (wanted l₀ o) (ahead from v j) ++ retain (wanted l₀ o) (s ∷ [])
    next = rw (ahead_suc, retain_snoc, ← at_j)

    room : length (retain (wanted l₀ o) (ahead from v (suc j))) ≤ length (retain (wanted l₀ o) (ins_at from v))
    room =
        let d : count_at from v ≡ (count_at from v - suc j) + suc j = omega arith in
        let g = retain_grows (wanted l₀ o) from v (suc j) (count_at from v - suc j) in
        let e : ahead from v ((count_at from v - suc j) + suc j) ≡ ins_at from v = ap (ahead from v) (sym d) ∙ ahead_all from v in
        rw e at g

    fits : at + w + length (retain (wanted l₀ o) (s ∷ [])) ≤ 2048
    fits = omega (arith, room, P.room, inv.count, ap length next, length-append (retain (wanted l₀ o) (ahead from v j)) (retain (wanted l₀ o) (s ∷ [])))

    pub picks_one : One l (at + w) s o
    picks_one = record { named = named; long = omega (arith, P.long, inv.same); room = rw one fits }

    module _ (m : List ℕ) (r : ℕ) (d : Stored l m (at + w) s o r) where
      pub picks_count : Fits w64 (w + r)
      picks_count = record { fits = omega (arith, d.count, one_le (wanted l o) s, inv.below, P.node.ends) }

      pub picks_next : length m ≡ length l → Picking from l₀ m v at o (w + r) (j + 1)
      picks_next len =
          let u : r ≡ length (retain (wanted l₀ o) (s ∷ [])) = d.count ∙ ap length one in
          let q : m ≡ put_list l (at + w) (retain (wanted l₀ o) (s ∷ [])) = d.words ∙ ap (put_list l (at + w)) one in
          record {
            upto = omega arith;
            below = omega (arith, one_le (wanted l₀ o) s, inv.below);
            same = len ∙ inv.same;
            count = rw (add-one j, next, length-append) (omega (arith, inv.count));
            words = rw (add-one j, next, put_list_append, ← inv.words, ← inv.count) q;
          }

  -- the place of the next one
  pub picks_place : (n : ℕ) → n ≡ count_at from v → j < n → Fits w64 (at + w)
  picks_place n en h =
      let d : count_at from v ≡ (count_at from v - j) + j = omega arith in
      let g = retain_grows (wanted l₀ o) from v j (count_at from v - j) in
      let e : ahead from v ((count_at from v - j) + j) ≡ ins_at from v = ap (ahead from v) (sym d) ∙ ahead_all from v in
      let q : length (retain (wanted l₀ o) (ahead from v j)) ≤ length (retain (wanted l₀ o) (ins_at from v)) = rw e at g in
      record { fits = omega (arith, P.room, inv.count) }

pub picks_end : (from l₀ l : List ℕ) (v at : ℕ) (o : Bool) (w j n : ℕ) → Picking from l₀ l v at o w j → n ≡ count_at from v → n ≤ j → Picked from l₀ l v at o w
picks_end from l₀ l v at o w j n inv en h =
    let a = inv.upto in
    let e : j ≡ count_at from v = omega arith in
    let q : ahead from v j ≡ ins_at from v = ap (ahead from v) e ∙ ahead_all from v in
    record { count = rw (← q) inv.count; words = rw (← q) inv.words }

pub ruleset picks = (node_place, node_fits, picks_start, picks_one, picks_count, picks_next, picks_place, picks_end)

-- ---- pair_places

square : (m : ℕ) → m ≤ 2048 → m * (m - 1) ≤ 4194304
square m h = let q : m - 1 ≤ 2048 = omega arith in omega (arith, mul-le-mul_left m q)

pub places_fits : (m : ℕ) → m ≤ 2048 → Fits w64 (m * (m - 1))
places_fits m h = record { fits = omega (arith, square m h) }

pub places_some : (m : ℕ) → m ≤ 2048 → m * (m - 1) / 2 ≤ 4194304
places_some m h = omega (arith, square m h)

pub record Summed (l : List ℕ) (g t i : ℕ) : Type 0 where
  pub upto : i ≤ g
  pub small : t ≤ i * 4194304
  pub rest : t + places_of (drop i (lists_of l g)) ≡ places_of (lists_of l g)

pub place_start : (l : List ℕ) (g : ℕ) → Summed l g 0 0
place_start l g = record { upto = omega arith; small = omega arith; rest = omega arith }

module _ (l : List ℕ) (g t i : ℕ) (inv : Summed l g t i) where
  module _ (L : Laid l g) (h : i < g) where
    pub place_few : i < 512
    place_few = omega (arith, L.few)

    module _ (m : ℕ) (em : m ≡ left_at l i) where
      pub place_small : m ≤ 2048
      place_small = omega (arith, L.ends i h)

      module _ (r : ℕ) (er : r ≡ m * (m - 1) / 2) (hr : r ≤ 4194304) where
        pub place_fits : Fits w64 (t + r)
        place_fits = record { fits = omega (arith, inv.small, L.few) }

        pub place_next : Summed l g (t + r) (i + 1)
        unfolding places_of
        place_next =
            let q : length (list_at l i) * (length (list_at l i) - 1) / 2 ≡ r = rw (length_list l i, ← em) (sym er) in
            let d : places_of (drop i (lists_of l g)) ≡ r + places_of (drop (suc i) (lists_of l g)) = rw (drop_lists l g i h, q) in
            record { upto = omega arith; small = omega (arith, inv.small); rest = rw (add-one i) (omega (arith, inv.rest)) }

  pub place_end : g ≤ i → t ≡ places_of (lists_of l g)
  unfolding places_of
  place_end h = let d : places_of (drop i (lists_of l g)) ≡ 0 = rw (lists_end l g i h) in omega (arith, inv.rest)

pub ruleset places = (places_fits, places_some, place_start, place_few, place_small, place_fits, place_next, place_end)
