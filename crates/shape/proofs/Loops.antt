-- 8 exactly for a combinational loop: sort fails where there is one and only there; and a loop is a path that returns.
use mathlib.Core.Path.{◌≡◌, refl, sym, ap, ap₂, subst}
use mathlib.Core.Logic.{◌⊎◌, inl, inr}
use Prim.Native.Nat.{ℕ, zero, suc, ◌+◌, ◌≤◌, ◌<◌}
use native.Mathlib.Nat.{not-suc-le-zero, le_refl}
use native.Mathlib.Omega.{arith}
use native.Mathlib.Decide.{ℕ_discrete, dec_lt}
use mathlib.Core.Bool.{Bool, true, false, not, cond}
use mathlib.Core.List.{List, [], ◌∷◌}
use lib.ListN.{length}
use lib.Dec.{ltb}
use borrow.Author.Tests.{lt-ltb, le-ltb}
use Rattle.laws.specs.Lists.{All, Fresh, Distinct}
use Rattle.laws.proofs.Lists.{all_map}
use Rattle.laws.proofs.Choices.{by_bool, clash}
use Rattle.model.specs.Gate.{Net, gate_at, size, wired}
use Rattle.model.specs.Network.{is_d, deps, has, sum_to, sort_result, sorts, Loop, Feeds, Path, wire, onward, Cycle}
use Rattle.shape.specs.Forms.{Inside, Ranked}
use Rattle.shape.proofs.Sums.{sum_has, length_distinct}
use Rattle.shape.proofs.Members.{has_head, has_cons, has_tail, all_has}
use Rattle.shape.proofs.Wires.{in_vars, wired_inside}
use Rattle.shape.proofs.Sort.{waiting, hidden_comb, visited_sorts, sorts_ranked}

-- ---- sort and loops

-- ranks rise without end along a loop
ranked_no_loop : (N : Net) → Ranked N (λ v. v < size N) → Loop N → ⊥
ranked_no_loop N R L = go (suc (sum_to R.rank (size N))) L.first L.holds (omega arith)
  where
    go : (f v : ℕ) → L.set v ≡ true → sum_to R.rank (size N) < f + R.rank v → ⊥
    go zero v h l = omega (arith, sum_has R.rank (size N) v (L.comb v h).0)
    go (suc f) v h l =
        let w = L.named v h in
        let u = w.0 in
        let c = L.comb u w.1 in
        let lt = all_has (λ x. (x < size N) × (R.rank x < R.rank u)) (deps N u) v (in_vars (λ x. (x < size N) × (R.rank x < R.rank u)) (gate_at N u).ins (R.below u c.0 c.1)) w.2 in
        let lt1 = lt.1 in
        go f u w.1 (omega arith)

module _ (N : Net) where
  -- a node that was not visited, or none
  find : (k : ℕ) → k ≤ size N → ((u : ℕ) × (u < size N) × ((sort_result N).vis u ≡ false)) ⊎ ((u : ℕ) → u < k → (sort_result N).vis u ≡ true)
  find zero h = inr (λ u l. absurd (not-suc-le-zero l))
  find (suc k) h = elim (find k (omega arith)) [
    | inl x ↦ inl x
    | inr all ↦ by_bool ((sort_result N).vis k)
        (λ e. inr (λ u l. elim (ℕ_discrete u k) [ yes q ↦ rw q e | no q ↦ all u (omega arith) ]))
        (λ e. inl (k, h, e))
  ]

  -- a node, and not visited
  hidden : ℕ → Bool
  hidden u = cond (ltb u (size N)) (not ((sort_result N).vis u)) false

  is_hidden : (u : ℕ) → u < size N → (sort_result N).vis u ≡ false → hidden u ≡ true
  unfolding hidden
  is_hidden u h e = ap₂ (λ (a b : Bool). cond a (not b) false) (lt-ltb u (size N) h) e

  hidden_is : (u : ℕ) → hidden u ≡ true → (u < size N) × ((sort_result N).vis u ≡ false)
  unfolding hidden
  hidden_is u h = elim (dec_lt u (size N)) [
    | yes l ↦ (
      l,
      by_bool ((sort_result N).vis u)
          (λ e. clash h (ap₂ (λ (a b : Bool). cond a (not b) false) (lt-ltb u (size N) l) e))
          (λ e. e),
    )
    | no l ↦ clash h (ap (λ (a : Bool). cond a (not ((sort_result N).vis u)) false) (le-ltb u (size N) (omega arith)))
  ]

  -- what was not visited is a loop
  failed_loop : Inside N → sorts N ≡ false → Loop N
  failed_loop inside no-order = elim (find (size N) (le_refl _)) [
    | inl x ↦ record {
      set = hidden;
      first = x.0;
      holds = is_hidden x.0 x.1 x.2;
      comb = λ v h. ((hidden_is v h).0, hidden_comb N inside v (hidden_is v h).1);
      named = λ v h. let w = waiting N inside v (hidden_is v h).0 (hidden_is v h).1 in (w.0, is_hidden w.0 w.1 w.2, w.3);
    }
    | inr all ↦ clash (visited_sorts N inside all) no-order
  ]

-- 8 EXACTLY FOR A LOOP
module _ (N : Net) (w : wired N ≡ true) where
  pub unsorted_loop : sorts N ≡ false → Loop N
  unsorted_loop = failed_loop N (wired_inside N w)

  pub loop_unsorted : Loop N → sorts N ≡ false
  loop_unsorted L = by_bool (sorts N) (λ ok. absurd (ranked_no_loop N (sorts_ranked N w ok) L)) (λ e. e)

-- ---- a loop is a path that returns

module _ (N : Net) where
  -- the gates on a path, its start left out
  nodes : {u v : ℕ} → Path N u v → List ℕ
  nodes (wire {u = u} {v = v} f) = v ∷ []
  nodes (onward {u = u} {v = v} {w = w} p f) = w ∷ nodes p

  abbrev NamedBy : List ℕ → ℕ → Type 0
  NamedBy l x = (y : ℕ) × (has y l ≡ true) × (has x (deps N y) ≡ true)

  more : (w x : ℕ) (l : List ℕ) → NamedBy l x → NamedBy (w ∷ l) x
  more w x l n = (n.0, has_cons n.0 w l n.1, n.2)

  -- they are combinational; the start is named by one of them, and so is each but the last; the last is one of them
  path_combs : {u v : ℕ} (p : Path N u v) → All (λ x. (x < size N) × (is_d N x ≡ false)) (nodes p)
  unfolding nodes
  path_combs (wire f) = ((f.node, f.comb), tt)
  path_combs (onward p f) = ((f.node, f.comb), path_combs p)

  path_start : {u v : ℕ} (p : Path N u v) → NamedBy (nodes p) u
  unfolding nodes
  path_start (wire {u = u} {v = v} f) = (v, has_head v v [] refl, f.names)
  path_start (onward {u = u} {v = v} {w = w} p f) = more w u (nodes p) (path_start p)

  path_end : {u v : ℕ} (p : Path N u v) → has v (nodes p) ≡ true
  unfolding nodes
  path_end (wire {u = u} {v = v} f) = has_head v v [] refl
  path_end (onward {u = u} {v = v} {w = w} p f) = has_head w w (nodes p) refl

  path_named : {u v : ℕ} (p : Path N u v) (x : ℕ) → has x (nodes p) ≡ true → (x ≡ v) ⊎ NamedBy (nodes p) x
  unfolding nodes
  path_named (wire {u = u} {v = v} f) x h = elim (ℕ_discrete v x) [ yes e ↦ inl (sym e) | no e ↦ clash (has_tail x v [] e h) refl ]
  path_named (onward {u = u} {v = v} {w = w} p f) x h = elim (ℕ_discrete w x) [
    | yes e ↦ inl (sym e)
    | no e ↦ elim (path_named p x (has_tail x w (nodes p) e h)) [
      | inl q ↦ inr (w, has_head w w (nodes p) refl, rw q f.names)
      | inr n ↦ inr (more w x (nodes p) n)
    ]
  ]

  pub cycle_loop : Cycle N → Loop N
  cycle_loop C =
      let l = nodes C.path in
      record {
        set = λ x. has x l;
        first = C.node;
        holds = path_end C.path;
        comb = λ v h. all_has (λ x. (x < size N) × (is_d N x ≡ false)) l v (path_combs C.path) h;
        named = λ v h. elim (path_named C.path v h) [ inl e ↦ rw e (path_start C.path) | inr n ↦ n ];
      }

  -- along a loop, each gate named by the next: after size N steps one is met again
  module _ (L : Loop N) where
    -- the way to v so far, the last first: each of them leads to v
    pub record Trail (v : ℕ) (l : List ℕ) : Type 0 where
      pub here : L.set v ≡ true
      pub apart : Fresh v l
      pub distinct : Distinct l
      pub bound : All (λ x. x < size N) l
      pub leads : All (λ x. Path N x v) l

    known : (u : ℕ) (l : List ℕ) → (has u l ≡ true) ⊎ Fresh u l
    known u [] = inr tt
    known u (x ∷ l) = elim (ℕ_discrete x u) [
      | yes e ↦ inl (has_head u x l e)
      | no e ↦ elim (known u l) [ inl h ↦ inl (has_cons u x l h) | inr f ↦ inr (e, f) ]
    ]

    follow : (f v : ℕ) (l : List ℕ) → Trail v l → size N < f + length (v ∷ l) → Cycle N
    follow zero v l T h =
        absurd (omega (arith, length_distinct (size N) (v ∷ l) (T.apart, T.distinct) ((L.comb v T.here).0, T.bound)))
    follow (suc f) v l T h =
        let n = L.named v T.here in
        let u = n.0 in
        let c = L.comb u n.1 in
        let step : Feeds N v u = record { node = c.0; comb = c.1; names = n.2 } in
        elim (ℕ_discrete v u) [
          | yes e ↦ record { node = u; path = wire (subst (λ (x : ℕ). Feeds N x u) e step) }
          | no e ↦ elim (known u l) [
            | inl m ↦ record { node = u; path = onward (all_has (λ x. Path N x v) l u T.leads m) step }
            | inr fr ↦ follow f u (v ∷ l)
                (record {
                  here = n.1;
                  apart = (e, fr);
                  distinct = (T.apart, T.distinct);
                  bound = ((L.comb v T.here).0, T.bound);
                  leads = (wire step, all_map l (λ x p. onward p step) T.leads);
                })
                (omega arith)
          ]
        ]

    pub loop_cycle : Cycle N
    loop_cycle =
        follow (size N) L.first []
        (record { here = L.holds; apart = tt; distinct = tt; bound = tt; leads = tt })
        (omega arith)

-- 8 EXACTLY FOR A PATH THAT RETURNS
module _ (N : Net) (w : wired N ≡ true) where
  pub unsorted_cycle : sorts N ≡ false → Cycle N
  unsorted_cycle e = loop_cycle N (unsorted_loop N w e)

  pub cycle_unsorted : Cycle N → sorts N ≡ false
  cycle_unsorted C = loop_unsorted N w (cycle_loop N C)
