-- A factoring pass keeps the value of every gate's list, whatever the signals' values, where each new node has its pair's.
use mathlib.Core.Path.{◌≡◌, refl, sym, ap, ap₂, ◌∙◌}
use mathlib.Core.Logic.{◌≢◌, inl, inr}
use Prim.Native.Nat.{ℕ, zero, suc, ◌+◌, ◌≤◌, ◌<◌}
use native.Mathlib.Nat.{add-zero, le_refl}
use native.Mathlib.Omega.{arith}
use native.Mathlib.Decide.{ℕ_discrete}
use mathlib.Core.Bool.{Bool, true, not, ◌&&◌}
use mathlib.Core.List.{List, [], ◌∷◌, ◌++◌, map}
use lib.ListN.{length, get_or, set, length-append}
use lib.Dec.{eqb}
use borrow.Author.Tests.{eq-eqb, ne_eqb}
use Rattle.laws.specs.Lists.{All, Fresh, Distinct}
use Rattle.laws.proofs.Bools.{and_left, and_right}
use Rattle.laws.proofs.Choices.{by_bool, clash}
use Rattle.laws.proofs.Lists.{all_map, all_both, distinct_append, map_all}
use Rattle.model.specs.Signal.{from_var}
use Rattle.model.specs.Network.{has}
use Rattle.model.specs.Normal.{without}
use Rattle.model.specs.Sharing.{Pair, State, exclusive_signals, factoring, give_back, holds, join_round, once, replace_in, replace_pair, retain, round_left, round_pairs, shared_signals, take_out}
use Rattle.model.proofs.Lists.{by_keep, without_all, without_stays}
use Rattle.shape.proofs.Members.{has_tail}
use Rattle.shape.proofs.FactoringLists.{replace_in_all, retain_all}
use Rattle.shape.proofs.FactoringFuel.{Two, TwoIn}
use Rattle.shape.proofs.FactoringSteps.{all_pairs_keeps, consume_keeps, joins_keep}
use Rattle.shape.proofs.FactoringEnds.{factoring_parts, given, paired}
use Rattle.meaning.proofs.NaryValues.{Monoid, val, op_swap, unit_right}
use Rattle.meaning.proofs.FamilyValues.{val_append, val_retain}

-- ---- a pair taken out of a list without repeats

without_distinct : (x : ℕ) (l : List ℕ) → Distinct l → Distinct (without x l)
unfolding without
without_distinct x [] d = tt
without_distinct x (y ∷ l) d = by_keep Distinct y x y (without x l) (λ e. without_distinct x l d.1) (λ e. (without_all (λ z. z ≢ y) x l d.0, without_distinct x l d.1))

without_has : (x y : ℕ) (l : List ℕ) → y ≢ x → has y l ≡ true → has y (without x l) ≡ true
unfolding without
without_has x y [] n h = h
without_has x y (z ∷ l) n h = elim (ℕ_discrete z x) [
  | yes e ↦ rw (eq-eqb z x e) (without_has x y l n (has_tail y z l (λ q. n (sym q ∙ e)) h))
  | no e ↦ rw (ne_eqb z x e) (by_bool (eqb z y) (λ q. rw q) (λ q. rw q (without_has x y l n (rw q at h))))
]

take_out_without : (p q : ℕ) (l : List ℕ) → take_out p q l ≡ without q (without p l)
unfolding take_out without
take_out_without p q [] = refl
take_out_without p q (x ∷ l) =
    by_bool (eqb x p)
    (λ e. rw e (take_out_without p q l))
    (λ e. by_bool (eqb x q) (λ k. rw (e, k) (take_out_without p q l)) (λ k. rw (e, k) (ap (◌∷◌ x) (take_out_without p q l))))

take_out_fresh : (p : ℕ) (l : List ℕ) → Fresh p l → take_out p p l ≡ l
take_out_fresh p l f = take_out_without p p l ∙ ap (without p) (without_stays p l f) ∙ without_stays p l f

take_out_one : (p : ℕ) (l : List ℕ) → Distinct l → length l ≤ suc (length (take_out p p l))
unfolding take_out
take_out_one p [] d = omega arith
take_out_one p (x ∷ l) d = elim (ℕ_discrete x p) [
  | yes e ↦ (let f : Fresh p l = rw e at d.0 in rw (eq-eqb x p e, take_out_fresh p l f) (le_refl _))
  | no e ↦ rw (ne_eqb x p e) (omega (arith, take_out_one p l d.1))
]

-- two places of such a list hold two signals
two_differ : (p q : ℕ) (l : List ℕ) → Distinct l → Two p q l → p ≢ q
two_differ p q l d t e =
    let r : take_out p q l ≡ take_out p p l = ap (λ x. take_out p x l) (sym e) in
    omega (arith, take_out_one p l d, t.fewer, ap length r)

twos_differ : (p q : ℕ) (gs : List (List ℕ)) → All Distinct gs → TwoIn p q gs → p ≢ q
twos_differ p q [] d t = absurd t
twos_differ p q (l ∷ gs) d (inl t) = two_differ p q l d.0 t
twos_differ p q (l ∷ gs) d (inr t) = twos_differ p q gs d.1 t

module _ (F : Monoid) (ρ : ℕ → Bool) where
  -- a signal that is there is there once
  val_without : (x : ℕ) (l : List ℕ) → Distinct l → has x l ≡ true → val F ρ l ≡ F.op (ρ x) (val F ρ (without x l))
  unfolding without
  val_without x [] d h = clash h refl
  val_without x (y ∷ l) d h = elim (ℕ_discrete y x) [
    | yes e ↦ (let f : Fresh x l = rw e at d.0 in rw (eq-eqb y x e) (ap₂ F.op (ap ρ e) (ap (val F ρ) (sym (without_stays x l f)))))
    | no e ↦ rw (ne_eqb y x e) (ap (F.op (ρ y)) (val_without x l d.1 (has_tail x y l e h)) ∙ op_swap F (ρ y) (ρ x) (val F ρ (without x l)))
  ]

  -- a pair replaced by a node of its value
  val_replaced : (p q z : ℕ) (l : List ℕ) → p ≢ q → Distinct l → ρ z ≡ F.op (ρ p) (ρ q) → val F ρ (replace_in p q z l) ≡ val F ρ l
  unfolding replace_in holds
  val_replaced p q z l n d e = by_bool (has p l && has q l)
      (λ h.
      let w = val F ρ (without q (without p l)) in
      rw (h, take_out_without p q l)
      (val_append F ρ (without q (without p l)) (z ∷ [])
      ∙ ap (F.op w) (unit_right F (ρ z) ∙ e)
      ∙ F.comm w (F.op (ρ p) (ρ q))
      ∙ F.assoc (ρ p) (ρ q) w
      ∙ sym (val_without p l d (and_left (has p l) (has q l) h)
      ∙ ap (F.op (ρ p)) (val_without q (without p l) (without_distinct p l d) (without_has p q l (λ r. n (sym r)) (and_right (has p l) (has q l) h))))))
      (λ h. rw h)

  vals_replaced : (p q z : ℕ) (gs : List (List ℕ)) → p ≢ q → All Distinct gs → ρ z ≡ F.op (ρ p) (ρ q)
      → map (val F ρ) (map (replace_in p q z) gs) ≡ map (val F ρ) gs
  vals_replaced p q z [] n d e = refl
  vals_replaced p q z (l ∷ gs) n d e = ap₂ ◌∷◌ (val_replaced p q z l n d.0 e) (vals_replaced p q z gs n d.1 e)

  -- ---- neighbours joined

  -- the new nodes, from b on, have their pairs' values
  abbrev pub Built : ℕ → List Pair → Type 0
  Built b [] = Unit
  Built b (x ∷ ps) = (ρ (from_var b) ≡ F.op (ρ x.fst) (ρ x.snd)) × Built (suc b) ps

  built_left : (b : ℕ) (ps qs : List Pair) → Built b (ps ++ qs) → Built b ps
  built_left b [] qs h = tt
  built_left b (x ∷ ps) qs h = (h.0, built_left (suc b) ps qs h.1)

  built_right : (b : ℕ) (ps qs : List Pair) → Built b (ps ++ qs) → Built (b + length ps) qs
  built_right b [] qs h = rw (add-zero b) h
  built_right b (x ∷ ps) qs h = let e : b + suc (length ps) ≡ suc b + length ps = omega arith in rw e (built_right (suc b) ps qs h.1)

  val_round : (b : ℕ) (l : List ℕ) → Built b (round_pairs l) → val F ρ (round_left b l) ≡ val F ρ l
  unfolding round_pairs round_left
  val_round b [] h = refl
  val_round b (x ∷ []) h = refl
  val_round b (x ∷ y ∷ l) h = ap₂ F.op h.0 (val_round (suc b) l h.1) ∙ F.assoc (ρ x) (ρ y) (val F ρ l)

  vals_set : (gs : List (List ℕ)) (i : ℕ) (l : List ℕ) → val F ρ l ≡ val F ρ (get_or gs i []) → map (val F ρ) (set gs i l) ≡ map (val F ρ) gs
  vals_set [] i l e = refl
  vals_set (m ∷ gs) zero l e = ap (λ b. b ∷ map (val F ρ) gs) e
  vals_set (m ∷ gs) (suc i) l e = ap (◌∷◌ (val F ρ m)) (vals_set gs i l e)

  -- ---- set aside and given back

  vals_given : (t : ℕ → Bool) (gs hs : List (List ℕ)) → map (val F ρ) hs ≡ map (val F ρ) (map (retain (λ x. not (t x))) gs)
      → map (val F ρ) (give_back hs (map (retain t) gs)) ≡ map (val F ρ) gs
  unfolding give_back
  vals_given t [] [] e = refl
  vals_given t [] (m ∷ hs) e = let z : ◌≡◌ {A = ℕ} 0 1 = cc in absurd (omega arith)
  vals_given t (l ∷ gs) [] e = let z : ◌≡◌ {A = ℕ} 0 1 = cc in absurd (omega arith)
  vals_given t (l ∷ gs) (m ∷ hs) e =
      let a : val F ρ m ≡ val F ρ (retain (λ x. not (t x)) l) = cc in
      let r : map (val F ρ) hs ≡ map (val F ρ) (map (retain (λ x. not (t x))) gs) = cc in
      ap₂ ◌∷◌ (val_append F ρ m (retain t l) ∙ ap (λ b. F.op b (val F ρ (retain t l))) a ∙ val_retain F ρ t l) (vals_given t gs hs r)

-- ---- new nodes are new

-- x is no node of number n or above
abbrev pub Low : ℕ → ℕ → Type 0
Low n x = (v : ℕ) → n ≤ v → v < 1073741823 → x ≢ from_var v

replaced_low : (p q n : ℕ) (l : List ℕ) → All (Low n) l → All (Low (suc n)) (replace_in p q (from_var n) l)
replaced_low p q n l h =
    let k : All (Low (suc n)) l = all_map l (λ x f v a b. f v (omega arith) b) h in
    let new : Low (suc n) (from_var n) = λ v a b e. omega arith in
    replace_in_all (Low (suc n)) p q (from_var n) l new k

replaced_distinct : (p q n : ℕ) (l : List ℕ) → n < 1073741823 → All (Low n) l → Distinct l → Distinct (replace_in p q (from_var n) l)
unfolding replace_in
replaced_distinct p q n l few h d = by_bool (holds p q l)
    (λ e. rw (e, take_out_without p q l)
    (distinct_append (without q (without p l)) (from_var n ∷ []) (without_distinct q (without p l) (without_distinct p l d)) (tt, tt)
    (all_map (without q (without p l)) (λ x f. ((λ r. f n (le_refl n) few (sym r)), tt)) (without_all (Low n) q (without p l) (without_all (Low n) p l h)))))
    (λ e. rw e d)

retain_distinct : (t : ℕ → Bool) (l : List ℕ) → Distinct l → Distinct (retain t l)
unfolding retain
retain_distinct t [] d = tt
retain_distinct t (x ∷ l) d = by_bool (t x) (λ e. rw e (retain_all (λ y. y ≢ x) t l d.0, retain_distinct t l d.1)) (λ e. rw e (retain_distinct t l d.1))

-- ---- the invariant

module _ (F : Monoid) (n₀ : ℕ) where
  -- the lists have the values of gs
  pub record Valued (gs : List (List ℕ)) (s : State) : Type 0 where
    pub next_is : s.next ≡ n₀ + length s.built
    pub values : (ρ : ℕ → Bool) → Built F ρ n₀ s.built → map (val F ρ) s.lists ≡ map (val F ρ) gs

  -- and no repeats
  record Apart (gs : List (List ℕ)) (s : State) : Type 0 where
    valued : Valued gs s
    distinct : All Distinct s.lists
    low : All (All (Low s.next)) s.lists

  -- as long as there are numbers left for new nodes
  abbrev Kept : List (List ℕ) → State → Type 0
  Kept gs s = s.next ≤ 1073741823 → Apart gs s

  kept_replace : (gs : List (List ℕ)) (s : State) (a b : ℕ) → TwoIn a b s.lists → Kept gs s → Kept gs (replace_pair s a b)
  unfolding replace_pair
  kept_replace gs s a b t k few =
      let h = k (omega arith) in
      let e = h.valued.next_is in
      let x : Pair = record { fst = a; snd = b } in
      record {
        valued = record {
          next_is = rw length-append (omega arith);
          values = λ ρ bu.
              let new : ρ (from_var s.next) ≡ F.op (ρ a) (ρ b) = rw e (built_right F ρ n₀ s.built (x ∷ []) bu).0 in
              vals_replaced F ρ a b (from_var s.next) s.lists (twos_differ a b s.lists h.distinct t) h.distinct new
              ∙ h.valued.values ρ (built_left F ρ n₀ s.built (x ∷ []) bu);
        };
        distinct =
            map_all Distinct (replace_in a b (from_var s.next)) s.lists (λ l q. replaced_distinct a b s.next l few q.0 q.1)
            (all_both (All (Low s.next)) Distinct s.lists h.low h.distinct);
        low = map_all (All (Low (suc s.next))) (replace_in a b (from_var s.next)) s.lists (replaced_low a b s.next) h.low;
      }

  valued_round : (gs : List (List ℕ)) (s : State) (i : ℕ) → Valued gs s → Valued gs (join_round s i)
  unfolding join_round
  valued_round gs s i h =
      let l = get_or s.lists i [] in
      let e = h.next_is in
      record {
        next_is = rw length-append (omega arith);
        values = λ ρ bu.
            let new : Built F ρ s.next (round_pairs l) = rw e (built_right F ρ n₀ s.built (round_pairs l) bu) in
            vals_set F ρ s.lists i (round_left s.next l) (val_round F ρ s.next l new)
            ∙ h.values ρ (built_left F ρ n₀ s.built (round_pairs l) bu);
      }

  -- ---- the whole pass

  module _ (gs : List (List ℕ)) (tidy : All Distinct gs) (old : All (All (Low n₀)) gs) where
    paired_kept : Kept (shared_signals gs) (paired gs n₀)
    unfolding paired shared_signals
    paired_kept =
        let t : ℕ → Bool = λ x. not (once gs x) in
        let hs = map (retain t) gs in
        all_pairs_keeps (Kept hs) (kept_replace hs) _
        (consume_keeps (Kept hs) (kept_replace hs) _ (length gs)
        (λ few. record {
          valued = record { next_is = omega arith; values = λ ρ bu. refl };
          distinct = map_all Distinct (retain t) gs (retain_distinct t) tidy;
          low = map_all (All (Low n₀)) (retain t) gs (retain_all (Low n₀) t) old;
        }))

    given_valued : (given gs n₀).next ≤ 1073741823 → Valued gs (given gs n₀)
    unfolding given exclusive_signals shared_signals
    given_valued few =
        let h = (paired_kept few).valued in
        record { next_is = h.next_is; values = λ ρ bu. vals_given F ρ (once gs) gs (paired gs n₀).lists (h.values ρ bu) }

    -- A PASS KEEPS THE VALUE of every list
    pub factoring_valued : (factoring gs n₀).next ≤ 1073741823 → Valued gs (factoring gs n₀)
    unfolding join_round
    factoring_valued = rw (factoring_parts gs n₀)
        (joins_keep (λ s. s.next ≤ 1073741823 → Valued gs s) (λ s i k few. valued_round gs s i (k (omega arith))) (given gs n₀) (length gs) given_valued)
