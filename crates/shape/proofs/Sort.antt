-- topo_sort: its order is a permutation with the flip-flops first and each combinational gate after all it names; it succeeds
-- exactly where ranks exist; its result is valid and sorted.
use mathlib.Core.Path.{◌≡◌, refl, sym, ap, ap₂, ◌∙◌}
use mathlib.Core.Logic.{◌≢◌}
use Prim.Native.Nat.{ℕ, zero, suc, ◌+◌, ◌-◌, ◌≤◌, ◌<◌, suc-le-suc, zero-le}
use native.Mathlib.Nat.{not-suc-le-zero, le_of_suc-le-suc, le_refl}
use native.Mathlib.Omega.{arith}
use native.Mathlib.Decide.{dec_lt}
use mathlib.Core.Bool.{Bool, true, false, not, cond, ◌&&◌}
use mathlib.Core.List.{List, [], ◌∷◌}
use lib.ListN.{length, get_or, length-append, get_or-append}
use lib.Seq.{get_or-append-add}
use borrow.Author.Tests.{eqb-true, eq-eqb}
use Rattle.laws.specs.Bools.{bit}
use Rattle.laws.specs.Lists.{All, Distinct}
use Rattle.laws.proofs.Lists.{all_map, all_at, all_append, distinct_append, distinct_index}
use Rattle.laws.proofs.Choices.{by_bool, clash}
use Rattle.model.specs.Gate.{Net, gate_at, size, fanin, combs, wired, is_topo_sorted, Valid}
use Rattle.model.specs.Network.{vars, is_d, deps, has, occ, sum_to, waits, rising, sort_result, topo_order, sorts, topo_sort}
use Rattle.model.proofs.Names.{Sorted, sorted, sorted_test}
use Rattle.shape.specs.Forms.{Inside, OutsInside, Ranked, Kept, Before, Order, Topo}
use Rattle.shape.proofs.Sums.{sum_has, sum_pos, sum_add, sum_le, sum_full, sum_ones}
use Rattle.shape.proofs.Members.{has_left, has_right, has_index, all_has, has_all, occ_has, rising_all, rising_bound, rising_has, rising_distinct, rising_length, rising_index}
use Rattle.shape.proofs.Wires.{in_vars, vars_in, wired_inside, wired_outs_inside}
use Rattle.shape.proofs.Remap.{kept_inside, remap_size, remap_sorted, remap_ranked, remap_fanin, remap_combs, remap_valid}
use Rattle.shape.proofs.Search.{Ordered, J, result_J, result_empty}

-- a sorted network is ranked by its numbers
pub sorted_ranked : (N : Net) → Sorted N → Ranked N (λ n. n < size N)
sorted_ranked N s = record {
  rank = λ n. n;
  below = λ n h e. all_map (gate_at N n).ins (λ a f m q. (let l = f m q in omega arith, f m q)) (s n h e);
}

module _ (N : Net) where
  abbrev vis : ℕ → Bool
  vis = (sort_result N).vis

  abbrev ffs : List ℕ
  ffs = rising (is_d N) (size N)

  abbrev ord : List ℕ
  ord = (sort_result N).ord

  module _ (inside : Inside N) where
    I : J N (sort_result N)
    I = result_J N inside

    -- a node that was not visited is named by a gate that was not
    pub waiting : (v : ℕ) → v < size N → vis v ≡ false → (u : ℕ) × (u < size N) × (vis u ≡ false) × (has v (deps N u) ≡ true)
    waiting v h e = go (sum_pos (waits N vis v) (size N) (λ z. clash (rw (result_empty N inside) at (I.stacked v h e z)) refl))
      where
        skipped : (u : ℕ) (b : Bool) → vis u ≡ b → waits N vis v u ≡ cond b 0 (occ v (deps N u))
        skipped u b q = ap (λ b. cond b 0 (occ v (deps N u))) q

        go : ((u : ℕ) × (u < size N) × (waits N vis v u ≢ 0)) → (u : ℕ) × (u < size N) × (vis u ≡ false) × (has v (deps N u) ≡ true)
        go w = by_bool (vis w.0)
            (λ q. absurd (w.2 (skipped w.0 true q)))
            (λ q. (w.0, w.1, q, occ_has v (deps N w.0) (λ z. w.2 (skipped w.0 false q ∙ z))))

    pub hidden_comb : (v : ℕ) → vis v ≡ false → is_d N v ≡ false
    hidden_comb v e = by_bool (is_d N v) (λ q. clash (I.dffs v q) e) (λ q. q)

    -- without a loop every node is visited: one of greatest rank that is not would be named by another that is not
    all_visited : Ranked N (λ v. v < size N) → (v : ℕ) → v < size N → vis v ≡ true
    all_visited R v h = go (suc most) v h (omega arith)
      where
        most : ℕ
        most = sum_to R.rank (size N)

        go : (f v : ℕ) → v < size N → most < f + R.rank v → vis v ≡ true
        go zero v h l = absurd (omega (arith, sum_has R.rank (size N) v h))
        go (suc f) v h l = by_bool (vis v) (λ e. e)
            (λ e.
            let w = waiting v h e in
            let u = w.0 in
            let below = R.below u w.1 (hidden_comb u w.2) in
            let lt = all_has (λ x. (x < size N) × (R.rank x < R.rank u)) (deps N u) v (in_vars (λ x. (x < size N) × (R.rank x < R.rank u)) (gate_at N u).ins below) w.3 in
            let lt1 = lt.1 in
            clash (go f u w.1 (omega arith)) w.2)

    -- ---- how long the order is

    share : ℕ → ℕ
    share u = bit (is_d N u) + bit (not (is_d N u) && vis u)

    share_le : (u : ℕ) → share u ≤ 1
    unfolding share
    share_le u = go (is_d N u) (vis u)
      where
        go : (a b : Bool) → bit a + bit (not a && b) ≤ 1
        go true b = le_refl 1
        go false true = le_refl 1
        go false false = zero-le

    order_length : length (topo_order N) ≡ sum_to share (size N)
    unfolding share
    order_length =
        length-append ffs ord
        ∙ ap₂ ◌+◌ (rising_length (is_d N) (size N)) I.len
        ∙ sum_add (λ u. bit (is_d N u)) (λ u. bit (not (is_d N u) && vis u)) (size N)

    pub order_most : length (topo_order N) ≤ size N
    order_most = omega (arith, order_length, sum_le share (size N) share_le)

    sorts_visited : sorts N ≡ true → (u : ℕ) → u < size N → vis u ≡ true
    unfolding share
    sorts_visited ok u h = by_bool (is_d N u)
        (λ e. I.dffs u e)
        (λ e. by_bool (vis u) (λ q. q)
        (λ q. let o : share u ≡ 1 = sum_full share (size N) u share_le (sym order_length ∙ eqb-true (length (topo_order N)) (size N) ok) h in
        let z : 0 ≡ 1 = sym (ap₂ (λ a b. bit a + bit (not a && b)) e q) ∙ o in absurd (omega arith)))

    pub visited_sorts : ((u : ℕ) → u < size N → vis u ≡ true) → sorts N ≡ true
    unfolding share
    visited_sorts all =
        eq-eqb (length (topo_order N)) (size N)
        (order_length
        ∙ sum_ones share (size N) (λ u h. by_bool (is_d N u)
        (λ e. ap (λ a. bit a + bit (not a && vis u)) e)
        (λ e. ap₂ (λ a b. bit a + bit (not a && b)) e (all u h))))

    -- SORT SUCCEEDS where there are ranks; so where the network is sorted already
    pub ranked_sorts : Ranked N (λ v. v < size N) → sorts N ≡ true
    ranked_sorts R = visited_sorts (all_visited R)

    -- ---- the order, full or not

    pub order_distinct : Distinct (topo_order N)
    order_distinct =
        distinct_append ffs ord (rising_distinct (is_d N) (size N)) I.distinct
        (all_map ffs (λ x a. all_map ord (λ y b q. clash a.0 (rw q at b.1.1)) I.of_ord) (rising_all (is_d N) (size N)))

    pub order_bound : All (λ o. o < size N) (topo_order N)
    order_bound =
        all_append (λ o. o < size N) ffs ord
        (rising_bound (is_d N) (size N))
        (all_map ord (λ x a. a.1.0) I.of_ord)

    -- the first of the order are the flip-flops
    dff_at_lem : (j : ℕ) → j < length ffs → is_d N (get_or (topo_order N) j 0) ≡ true
    dff_at_lem j l = rw (get_or-append ffs ord 0 j l) (all_at (λ x. (is_d N x ≡ true) × (x < size N)) ffs 0 (rising_all (is_d N) (size N)) j l).0

    comb_at : (i : ℕ) → i < length ord → is_d N (get_or (topo_order N) (length ffs + i) 0) ≡ false
    comb_at i l = rw (get_or-append-add ffs ord i 0) (all_at (λ u. (vis u ≡ true) × ((u < size N) × (is_d N u ≡ false))) ord 0 I.of_ord i l).1.1

    dff_place : (j : ℕ) → j < length (topo_order N) → is_d N (get_or (topo_order N) j 0) ≡ true → j < length ffs
    dff_place j h d = elim (dec_lt j (length ffs)) [
      | yes l ↦ l
      | no l ↦ (let i : ℕ = j - length ffs in
          let q : length ffs + i ≡ j = omega arith in
          clash d (rw q at (comb_at i (omega (arith, length-append ffs ord)))))
    ]

    comb_place : (j : ℕ) → is_d N (get_or (topo_order N) j 0) ≡ false → length ffs ≤ j
    comb_place j c = elim (dec_lt j (length ffs)) [ yes l ↦ clash (dff_at_lem j l) c | no l ↦ omega arith ]

    -- FLIP-FLOPS FIRST, in old order
    pub dffs_first : (i j : ℕ) → i < length (topo_order N) → is_d N (get_or (topo_order N) i 0) ≡ true → is_d N (get_or (topo_order N) j 0) ≡ false → i < j
    dffs_first i j h d c = omega (arith, dff_place i h d, comb_place j c)

    pub dffs_rising : (i j : ℕ) → i < length (topo_order N) → j < length (topo_order N) → is_d N (get_or (topo_order N) i 0) ≡ true → is_d N (get_or (topo_order N) j 0) ≡ true
        → get_or (topo_order N) i 0 < get_or (topo_order N) j 0 → i < j
    dffs_rising i j hi hj di dj l =
        let pi = dff_place i hi di in
        let pj = dff_place j hj dj in
        rising_index (is_d N) (size N) i j pi pj (omega (arith, get_or-append ffs ord 0 i pi, get_or-append ffs ord 0 j pj))

    ordered_index : (l : List ℕ) → Ordered N l → (k u : ℕ) → k < length l → u < size N → is_d N u ≡ false → has (get_or l k 0) (deps N u) ≡ true
        → (i : ℕ) × (k < i) × (i < length l) × (get_or l i 0 ≡ u)
    ordered_index [] o k u h hu c m = absurd (not-suc-le-zero h)
    ordered_index (x ∷ l) o zero u h hu c m = let r = has_index u l (o.0 u hu c m) in (suc r.0, suc-le-suc zero-le, suc-le-suc r.1, r.2)
    ordered_index (x ∷ l) o (suc k) u h hu c m = let r = ordered_index l o.1 k u (le_of_suc-le-suc h) hu c m in (suc r.0, suc-le-suc r.1, suc-le-suc r.2, r.3)

    module _ (ok : sorts N ≡ true) where
      -- A PERMUTATION: distinct, all below n, and of them n
      pub order_full : length (topo_order N) ≡ size N
      order_full = eqb-true (length (topo_order N)) (size N) ok

      pub place : (m : ℕ) → m < size N → Kept (topo_order N) m
      place m h = by_bool (is_d N m)
          (λ e. has_index m (topo_order N) (has_left m ffs ord (rising_has (is_d N) (size N) m h e)))
          (λ e. has_index m (topo_order N) (has_right m ffs ord (I.in_ord m e (sorts_visited ok m h))))

      -- a gate's node stands before it
      before : (j m : ℕ) → j < length (topo_order N) → is_d N (get_or (topo_order N) j 0) ≡ false → has m (deps N (get_or (topo_order N) j 0)) ≡ true → m < size N
          → Before (topo_order N) j m
      before j m hj c mem hm = back (j - length ffs) (let l = comb_place j c in omega arith)
        where
          x : ℕ
          x = get_or (topo_order N) j 0

          back : (i : ℕ) → j ≡ length ffs + i → Before (topo_order N) j m
          back i q = by_bool (is_d N m)
              (λ e.
              let r = has_index m ffs (rising_has (is_d N) (size N) m hm e) in
              let l = r.1 in
              (r.0, omega arith, get_or-append ffs ord 0 r.0 l ∙ r.2))
              (λ e.
              let r = has_index m ord (I.in_ord m e (sorts_visited ok m hm)) in
              let xi : x ≡ get_or ord i 0 = ap (λ y. get_or (topo_order N) y 0) q ∙ get_or-append-add ffs ord i 0 in
              let hi : i < length ord = omega (arith, length-append ffs ord) in
              let w = ordered_index ord I.ordered r.0 x r.1 (all_at (λ o. o < size N) (topo_order N) 0 order_bound j hj) c (rw r.2 mem) in
              let same : w.0 ≡ i = distinct_index ord I.distinct w.0 i w.2 hi (w.3 ∙ xi) in
              let l = w.1 in
              (length ffs + r.0, omega arith, get_or-append-add ffs ord r.0 0 ∙ r.2))

      -- EACH COMBINATIONAL GATE AFTER ALL IT NAMES
      pub order_topo : Topo N (topo_order N)
      order_topo j hj c =
          vars_in (Before (topo_order N) j) (gate_at N (get_or (topo_order N) j 0)).ins
          (has_all (Before (topo_order N) j) (deps N (get_or (topo_order N) j 0))
          (λ m mem. before j m hj c mem
          (all_has (λ d. d < size N) (deps N (get_or (topo_order N) j 0)) m (inside (get_or (topo_order N) j 0) (all_at (λ o. o < size N) (topo_order N) 0 order_bound j hj)) mem)))

      order_order : OutsInside N → Order N (topo_order N)
      order_order outs_in = record {
        distinct = order_distinct;
        bound = order_bound;
        ins = λ n k.
            vars_in (Kept (topo_order N)) (gate_at N n).ins
            (all_map (deps N n) place (inside n (rw k.2 at (all_at (λ o. o < size N) (topo_order N) 0 order_bound k.0 k.1))));
        outs = vars_in (Kept (topo_order N)) N.outs (all_map (vars N.outs) place outs_in);
      }

module _ (N : Net) (w : wired N ≡ true) where
  pub sort_order : sorts N ≡ true → Order N (topo_order N)
  sort_order ok = order_order N (wired_inside N w) ok (wired_outs_inside N w)

  pub sort_topo : sorts N ≡ true → Topo N (topo_order N)
  sort_topo ok = order_topo N (wired_inside N w) ok

  pub sort_size : sorts N ≡ true → size (topo_sort N) ≡ size N
  unfolding topo_sort
  sort_size ok = remap_size N (topo_order N) ∙ order_full N (wired_inside N w) ok

  -- where sort succeeds there are ranks
  pub sorts_ranked : sorts N ≡ true → Ranked N (λ v. v < size N)
  sorts_ranked ok =
      let O = sort_order ok in
      let R = remap_ranked N (topo_order N) O (sort_topo ok) in
      record {
        rank = R.rank;
        below = λ n h e. all_map (gate_at N n).ins (λ s f m q. (kept_inside N (topo_order N) O m (f m q).0, (f m q).1)) (R.below n (place N (wired_inside N w) ok n h) e);
      }

  -- a network that is sorted already can be sorted
  pub sorted_sorts : is_topo_sorted N ≡ true → sorts N ≡ true
  sorted_sorts t = ranked_sorts N (wired_inside N w) (sorted_ranked N (sorted N t))

-- THE RESULT of sort on a valid network: valid, sorted, and no larger
module _ (N : Net) (A : Valid N) (ok : sorts N ≡ true) where
  pub sort_valid : Valid (topo_sort N)
  unfolding topo_sort
  sort_valid = remap_valid N (topo_order N) (sort_order N A.signals ok) A

  pub sort_sorted : is_topo_sorted (topo_sort N) ≡ true
  unfolding topo_sort
  sort_sorted =
      let few = A.nodes_few in
      sorted_test (topo_sort N) (remap_sorted N (topo_order N) (sort_order N A.signals ok) (omega arith) (sort_topo N A.signals ok))

  pub sort_fanin : fanin (topo_sort N).nodes ≤ fanin N.nodes
  unfolding topo_sort
  sort_fanin = remap_fanin N (topo_order N) (sort_order N A.signals ok)

  pub sort_combs : combs (topo_sort N).nodes ≤ combs N.nodes
  unfolding topo_sort
  sort_combs = remap_combs N (topo_order N) (sort_order N A.signals ok)
