-- Laws of the greedy part: what a turn does to the state, and when there is no room.
use Prim.Native.Nat.{max, min, suc, zero, ℕ, ◌+◌, ◌-◌, ◌<◌, ◌≤◌}
use mathlib.Core.Path.{ap, refl, sym, ◌∙◌, ◌≡◌}
use mathlib.Core.Logic.{◌≢◌}
use mathlib.Core.Bool.{Bool, false, true}
use mathlib.Core.List.{List, [], ◌∷◌}
use native.Mathlib.Omega.{arith}
use native.Mathlib.Nat.{add-zero, le_refl}
use native.Mathlib.Numerals.{add-one}
use mir.Syntax.{w64}
use mir.Val.{Fits}
use lib.ListN.{get_or, length, length-append}
use lib.Dec.{eqb, leb}
use borrow.Author.Tests.{eqb-false, eqb-true, le-leb, leb-false, leb-true, lt-leb}
use Rattle.factoring.specs.Turned.{Went, binary_at, fitted}
use Rattle.laws.specs.Lists.{tab}
use Rattle.model.specs.Sharing.{State, Top, all_pairs, binaries, consume_binary_gates, find_best_pair, on_two, replace_pair}
use Rattle.pairs.specs.Lists.{Laid, area_size, front, left_at, list_at, lists_of, sig_at, start_at}
use Rattle.best_pair.specs.Search.{best_of}
use Rattle.pairs.specs.States.{Placed, Ready, Replaced, state_of}
use Rattle.laws.proofs.Choices.{by_bool}
use Rattle.laws.proofs.Tabs.{get_or_tab, length_tab}
use Rattle.pairs.proofs.Gates.{length_list}
use Rattle.shape.proofs.FactoringFuel.{all_pairs_none, all_pairs_some, built_all_pairs}
use Rattle.std.specs.Prelude.{Option, Some, None}

pub length_built : (l : List ℕ) (g n k : ℕ) → length (state_of l g n k).built ≡ k
unfolding state_of
length_built l g n k = length_tab _ k

-- ---- lists that stay in place

pub placed_here : (l : List ℕ) (g : ℕ) → Laid l g → Placed l l g
placed_here l g h = record { laid = h; starts = λ i k. refl }

pub placed_on : (l m o : List ℕ) (g : ℕ) → Placed l m g → Placed m o g → Placed l o g
placed_on l m o g a b = record { laid = b.laid; starts = λ i k. b.starts i k ∙ a.starts i k }

-- what the sizes of a pass and its lists give
pub ready_of : (l : List ℕ) (g n k room : ℕ) → g ≤ n → n + room ≤ 512 → Laid l g → k ≤ room → Ready l g n k room
ready_of l g n k room a b h m = record { laid = h; old = a; nodes = b; more = m }

-- room for one more node
pub ready_one : (l : List ℕ) (g n k room : ℕ) → Ready l g n k room → k < room → Ready l g n k (k + 1)
ready_one l g n k room h q = record { laid = h.laid; old = h.old; nodes = omega (arith, h.nodes); more = omega arith }

-- ---- what a step answers

-- the words hold the state, and there is room
pub went_here : (l m : List ℕ) (g n k room : ℕ) (s : State) → Placed l m g → k ≤ room → state_of m g n k ≡ s → Went l m g n room (Some k) s
unfolding fitted
went_here l m g n k room s h r e =
    let q : length s.built ≡ k = rw (← e) (length_built m g n k) in
    record { answer = rw (q, le-leb k room r); held = λ _. (h, rw q e) }

-- there is no room
pub went_full : (l m : List ℕ) (g n room : ℕ) (s : State) → room < length s.built → Went l m g n room None s
unfolding fitted
went_full l m g n room s h = record { answer = rw (lt-leb (length s.built) room h); held = λ q. absurd (omega arith) }

module _ (l m : List ℕ) (g n room : ℕ) (r : Option ℕ) (s : State) (w : Went l m g n room r s) where
  went_cases : (b : Bool) → leb (length s.built) room ≡ b → (t : ℕ) → r ≡ Some t → (length s.built ≤ room) × (t ≡ length s.built)
  unfolding fitted
  went_cases true e t q = (leb-true _ _ e, (let z = w.answer in let x : Some (length s.built) ≡ Some t = rw e at (sym z ∙ q) in cc))
  went_cases false e t q = let z = w.answer in let x : None ≡ Some t = rw e at (sym z ∙ q) in let y : ◌≡◌ {A = ℕ} 0 1 = cc in absurd (omega arith)

  module _ (t : ℕ) (e : r ≡ Some t) where
    pub went_le : t ≤ room
    went_le = let q = went_cases (leb (length s.built) room) refl t e in omega arith

    pub went_placed : Placed l m g
    went_placed = let q = went_cases (leb (length s.built) room) refl t e in (w.held q.0).0

    pub went_state : state_of m g n t ≡ s
    went_state = let q = went_cases (leb (length s.built) room) refl t e in rw q.1 (w.held q.0).1

  pub went_over : r ≡ None → room < length s.built
  unfolding fitted
  went_over q = go (leb (length s.built) room) refl
    where
      go : (b : Bool) → leb (length s.built) room ≡ b → room < length s.built
      go true e = let z = w.answer in let x : Some (length s.built) ≡ None = rw e at (sym z ∙ q) in let y : ◌≡◌ {A = ℕ} 0 1 = cc in absurd (omega arith)
      go false e = leb-false _ _ e

-- fewer lists ask less
pub ready_fewer : (l : List ℕ) (g h n k room : ℕ) → h ≤ g → Ready l g n k room → Ready l h n k room
ready_fewer l g h n k room e r =
    record {
      laid = record {
        long = r.laid.long;
        few = omega (arith, r.laid.few);
        ends = λ i q. r.laid.ends i (omega arith);
        apart = λ i j q x. r.laid.apart i j q (omega arith);
      };
      old = omega (arith, r.old);
      nodes = r.nodes;
      more = r.more;
    }

pub ready_next : (l m : List ℕ) (g n k room t : ℕ) (r : Option ℕ) (s : State) → Ready l g n k room → Went l m g n room r s → r ≡ Some t → Ready m g n t room
ready_next l m g n k room t r s h w e = record { laid = (went_placed l m g n room r s w t e).laid; old = h.old; nodes = h.nodes; more = went_le l m g n room r s w t e }

-- ---- gate after gate, for any step that only adds pairs

-- what holds before gate i, after m of the new nodes
pub record Walked (all : State → ℕ → State) (l₀ l : List ℕ) (g n k room m i : ℕ) : Type 0 where
  pub upto : i ≤ g
  pub same : length l ≡ length l₀
  pub ready : Ready l g n m room
  pub placed : Placed l₀ l g
  pub state : state_of l g n m ≡ all (state_of l₀ g n k) i

module _ (step all : State → ℕ → State) (at_zero : (s : State) → all s 0 ≡ s) (at_suc : (s : State) (i : ℕ) → all s (suc i) ≡ step (all s i) i)
    (grows : (s : State) (i : ℕ) → length s.built ≤ length (step s i).built) where
  more : (s : State) (d i : ℕ) → length (all s i).built ≤ length (all s (d + i)).built
  more s zero i = let e : 0 + i ≡ i = omega arith in rw e (le_refl _)
  more s (suc d) i =
      let e : suc d + i ≡ suc (d + i) = omega arith in
      rw (e, at_suc s (d + i)) (omega (arith, more s d i, grows (all s (d + i)) (d + i)))

  pub all_grows : (s : State) (g : ℕ) → length s.built ≤ length (all s g).built
  all_grows s g =
      let e : g ≡ g + 0 = omega arith in
      let u : length (all s 0).built ≤ length (all s g).built = rw (sym e) at (more s g 0) in
      omega (arith, ap (λ x. length x.built) (at_zero s))

  pub all_start : (l : List ℕ) (g n k room : ℕ) → Ready l g n k room → Walked all l l g n k room k 0
  all_start l g n k room h = record { upto = omega arith; same = refl; ready = h; placed = placed_here l g h.laid; state = sym (at_zero _) }

  module _ (l₀ l : List ℕ) (g n k room m i : ℕ) (inv : Walked all l₀ l g n k room m i) where
    module _ (o : List ℕ) (r : Option ℕ) (w : Went l o g n room r (step (state_of l g n m) i)) (v : i < g) where
      next : step (state_of l g n m) i ≡ all (state_of l₀ g n k) (suc i)
      next = rw inv.state (sym (at_suc (state_of l₀ g n k) i))

      pub all_next : (t : ℕ) → r ≡ Some t → length o ≡ length l → Walked all l₀ o g n k room t (i + 1)
      all_next t e z = record {
        upto = omega arith;
        same = z ∙ inv.same;
        ready = ready_next l o g n m room t r _ inv.ready w e;
        placed = placed_on l₀ l o g inv.placed (went_placed l o g n room r _ w t e);
        state = rw (add-one i) (went_state l o g n room r _ w t e ∙ next);
      }

      pub all_full : r ≡ None → Went l₀ o g n room None (all (state_of l₀ g n k) g)
      all_full e =
          let s = state_of l₀ g n k in
          let a = went_over l o g n room r _ w e in
          let b : room < length (all s (suc i)).built = rw next at a in
          let d : g ≡ (g - suc i) + suc i = omega arith in
          let u : length (all s (suc i)).built ≤ length (all s g).built = rw (sym d) at (more s (g - suc i) (suc i)) in
          went_full l₀ o g n room (all s g) (omega arith)

    pub all_end : g ≤ i → Went l₀ l g n room (Some m) (all (state_of l₀ g n k) g)
    all_end b =
        let a = inv.upto in
        let e : i ≡ g = omega arith in
        went_here l₀ l g n m room _ inv.placed inv.ready.more (inv.state ∙ ap (all (state_of l₀ g n k)) e)

-- ---- the built pairs only grow

pub built_replace : (s : State) (a b : ℕ) → length (replace_pair s a b).built ≡ length s.built + 1
unfolding replace_pair
built_replace s a b = length-append s.built _

built_two : (s : State) (l : List ℕ) → length s.built ≤ length (on_two s l).built
built_two s [] = le_refl _
built_two s (a ∷ []) = le_refl _
built_two s (a ∷ b ∷ []) = omega (arith, built_replace s (min a b) (max a b))
built_two s (a ∷ b ∷ c ∷ l) = le_refl _

pub built_binary : (s : State) (i : ℕ) → length s.built ≤ length (binary_at s i).built
unfolding binary_at
built_binary s i = built_two s (get_or s.lists i [])

-- ---- consume_at

get_or_state : (l : List ℕ) (g n k i : ℕ) → i < g → get_or (state_of l g n k).lists i [] ≡ list_at l i
unfolding state_of lists_of
get_or_state l g n k i h = get_or_tab (list_at l) g i [] h

two_not : (s : State) (l : List ℕ) → length l ≢ 2 → on_two s l ≡ s
two_not s [] h = refl
two_not s (a ∷ []) h = refl
two_not s (a ∷ b ∷ []) h = absurd (h refl)
two_not s (a ∷ b ∷ c ∷ l) h = refl

pub at_gate : (l : List ℕ) (g n k room i : ℕ) → Ready l g n k room → i < g → (i < 512) × (area_size ≤ length l)
at_gate l g n k room i h v = (omega (arith, h.laid.few), h.laid.long)

pub at_count : (l : List ℕ) (g n k room : ℕ) → Ready l g n k room → k < room → Fits w64 (k + 1)
at_count l g n k room h q = record { fits = omega (arith, h.nodes) }

module _ (l : List ℕ) (g n k room i : ℕ) (h : Ready l g n k room) (v : i < g) (x : ℕ) (ex : x ≡ left_at l i) where
  pub at_stay : x ≢ 2 → Went l l g n room (Some k) (binary_at (state_of l g n k) i)
  unfolding binary_at
  at_stay d =
      went_here l l g n k room _ (placed_here l g h.laid) h.more
      (sym (rw (get_or_state l g n k i v) (two_not (state_of l g n k) (list_at l i) (λ e. d (ex ∙ sym (length_list l i) ∙ e)))))

  module _ (two : x ≡ 2) where
    list_two : list_at l i ≡ sig_at l (start_at l i) ∷ sig_at l (start_at l i + 1) ∷ []
    unfolding list_at front tab
    list_two = let e : left_at l i ≡ 2 = cc in rw (e, add-zero)

    at_two : binary_at (state_of l g n k) i ≡ replace_pair (state_of l g n k) (min (sig_at l (start_at l i)) (sig_at l (start_at l i + 1))) (max (sig_at l (start_at l i)) (sig_at l (start_at l i + 1)))
    unfolding binary_at
    at_two = rw (get_or_state l g n k i v, list_two)

    module _ (f : ℕ) (e : f ≡ start_at l i) where
      pub at_first : (f < 2048) × (area_size ≤ length l)
      at_first = (omega (arith, h.laid.ends i v), h.laid.long)

      pub at_second : (f + 1 < 2048) × (area_size ≤ length l)
      at_second = (omega (arith, h.laid.ends i v), h.laid.long)

      pub at_fits : Fits w64 (f + 1)
      at_fits = record { fits = omega (arith, h.laid.ends i v) }

    pub at_full : room ≤ k → Went l l g n room None (binary_at (state_of l g n k) i)
    at_full r =
        went_full l l g n room _
        (rw at_two (omega (arith, built_replace (state_of l g n k) (min (sig_at l (start_at l i)) (sig_at l (start_at l i + 1))) (max (sig_at l (start_at l i)) (sig_at l (start_at l i + 1))), length_built l g n k)))

    pub at_done : (f a b : ℕ) (m : List ℕ) → k < room → f ≡ start_at l i → a ≡ sig_at l f → b ≡ sig_at l (f + 1) → Replaced l m g n k (min a b) (max a b)
        → Went l m g n room (Some (k + 1)) (binary_at (state_of l g n k) i)
    at_done f a b m r ef ea eb p =
        went_here l m g n (k + 1) room _ p.placed (omega arith)
        (p.state ∙ rw at_two (rw (ea, eb, ef)))

-- ---- consume_twos, consume_binary_gates

pub twos_zero : (s : State) → binaries s 0 ≡ s
unfolding binaries
twos_zero s = refl

pub twos_suc : (s : State) (i : ℕ) → binaries s (suc i) ≡ binary_at (binaries s i) i
unfolding binaries binary_at
twos_suc s i = refl

pub built_twos : (s : State) (g : ℕ) → length s.built ≤ length (binaries s g).built
built_twos = all_grows binary_at binaries twos_zero twos_suc built_binary

pub twos_start : (l : List ℕ) (g n k room : ℕ) → Ready l g n k room → Walked binaries l l g n k room k 0
twos_start = all_start binary_at binaries twos_zero twos_suc built_binary

module _ (l₀ l : List ℕ) (g n k room m i : ℕ) (inv : Walked binaries l₀ l g n k room m i) where
  module _ (o : List ℕ) (r : Option ℕ) (w : Went l o g n room r (binary_at (state_of l g n m) i)) (v : i < g) where
    pub twos_next : (t : ℕ) → r ≡ Some t → length o ≡ length l → Walked binaries l₀ o g n k room t (i + 1)
    twos_next = all_next binary_at binaries twos_zero twos_suc built_binary l₀ l g n k room m i inv o r w v

    pub twos_full : r ≡ None → Went l₀ o g n room None (binaries (state_of l₀ g n k) g)
    twos_full = all_full binary_at binaries twos_zero twos_suc built_binary l₀ l g n k room m i inv o r w v

  pub twos_end : g ≤ i → Went l₀ l g n room (Some m) (binaries (state_of l₀ g n k) g)
  twos_end = all_end binary_at binaries twos_zero twos_suc built_binary l₀ l g n k room m i inv

module _ (l m : List ℕ) (g n k room : ℕ) (r : Option ℕ) (w : Went l m g n room r (binaries (state_of l g n k) g)) where
  pub gates_full : r ≡ None → Went l m g n room None (consume_binary_gates (state_of l g n k) g)
  unfolding consume_binary_gates
  gates_full e = went_full l m g n room _ (omega (arith, went_over l m g n room r _ w e, built_twos (binaries (state_of l g n k) g) g))

  pub gates_done : (t : ℕ) → r ≡ Some t → (o : List ℕ) (q : Option ℕ) → Went m o g n room q (binaries (state_of m g n t) g) → Went l o g n room q (consume_binary_gates (state_of l g n k) g)
  unfolding consume_binary_gates
  gates_done t e o q x =
      let y : Went m o g n room q (binaries (binaries (state_of l g n k) g) g) = rw (← (went_state l m g n room r _ w t e)) x in
      record { answer = y.answer; held = λ u. (placed_on l m o g (went_placed l m g n room r _ w t e) (y.held u).0, (y.held u).1) }

-- ---- consume_pairs

abbrev first_in : Option (ℕ × ℕ) → ℕ
first_in None = 0
first_in (Some p) = p.0

abbrev second_in : Option (ℕ × ℕ) → ℕ
second_in None = 0
second_in (Some p) = p.1

best_some : (t : Top) (a b : ℕ) → Some (a, b) ≡ best_of t → (t.count ≢ 0) × (t.a ≡ a) × (t.b ≡ b)
unfolding best_of
best_some t a b e = by_bool (eqb t.count 0)
    (λ q. let x : Some (a, b) ≡ None = rw q at e in let y : ◌≡◌ {A = ℕ} 0 1 = cc in absurd (omega arith))
    (λ q. let x : Some (a, b) ≡ Some (t.a, t.b) = rw q at e in (eqb-false _ _ q, sym (ap first_in x), sym (ap second_in x)))

best_none : (t : Top) → None ≡ best_of t → t.count ≡ 0
unfolding best_of
best_none t e = by_bool (eqb t.count 0) (λ q. eqb-true _ _ q)
    (λ q. let x : None ≡ Some (t.a, t.b) = rw q at e in let y : ◌≡◌ {A = ℕ} 0 1 = cc in absurd (omega arith))

-- what holds when a pair is looked for
pub record Greedy (l₀ l : List ℕ) (g n k room m : ℕ) : Type 0 where
  pub same : length l ≡ length l₀
  pub ready : Ready l g n m room
  pub placed : Placed l₀ l g
  pub rest : all_pairs (state_of l g n m) ≡ all_pairs (state_of l₀ g n k)

pub pairs_start : (l : List ℕ) (g n k room : ℕ) → Ready l g n k room → Greedy l l g n k room k
pairs_start l g n k room h = record { same = refl; ready = h; placed = placed_here l g h.laid; rest = refl }

module _ (l₀ l : List ℕ) (g n k room m : ℕ) (inv : Greedy l₀ l g n k room m) (r : Option (ℕ × ℕ)) (er : r ≡ best_of (find_best_pair (lists_of l g))) where
  pub pairs_end : r ≡ None → Went l₀ l g n room (Some m) (all_pairs (state_of l₀ g n k))
  unfolding state_of
  pairs_end e =
      went_here l₀ l g n m room _ inv.placed inv.ready.more
      (sym (all_pairs_none (state_of l g n m) (best_none (find_best_pair (lists_of l g)) (sym e ∙ er))) ∙ inv.rest)

  module _ (a b : ℕ) (e : r ≡ Some (a, b)) where
    pairs_rest : all_pairs (replace_pair (state_of l g n m) a b) ≡ all_pairs (state_of l₀ g n k)
    unfolding state_of
    pairs_rest =
        let q = best_some (find_best_pair (lists_of l g)) a b (sym e ∙ er) in
        sym (all_pairs_some (state_of l g n m) q.0 ∙ rw (q.1, q.2)) ∙ inv.rest

    pub pairs_full : room ≤ m → Went l₀ l g n room None (all_pairs (state_of l₀ g n k))
    pairs_full x =
        went_full l₀ l g n room _
        (rw (← pairs_rest) (omega (arith, built_all_pairs (replace_pair (state_of l g n m) a b), built_replace (state_of l g n m) a b, length_built l g n m)))

    pub pairs_next : (o : List ℕ) → m < room → length o ≡ length l → Replaced l o g n m a b → Greedy l₀ o g n k room (m + 1)
    pairs_next o q z p = record {
      same = z ∙ inv.same;
      ready = record { laid = p.placed.laid; old = inv.ready.old; nodes = inv.ready.nodes; more = omega arith };
      placed = placed_on l₀ l o g inv.placed p.placed;
      rest = rw p.state pairs_rest;
    }
