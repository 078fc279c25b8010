-- cleanup: it keeps exactly what outputs reach; its result is valid, no larger, and sorted where the source is.
use mathlib.Core.Path.{◌≡◌, refl, sym, ap, ◌∙◌}
use mathlib.Core.Logic.{◌⊎◌, inl, inr}
use Prim.Native.Nat.{ℕ, zero, suc, ◌≤◌, ◌<◌}
use native.Mathlib.Nat.{le_refl}
use native.Mathlib.Omega.{arith}
use native.Mathlib.Decide.{ℕ_discrete}
use mathlib.Core.Bool.{true, false}
use mathlib.Core.List.{List, [], ◌∷◌}
use lib.ListN.{length, get_or, length-append}
use Rattle.laws.specs.Lists.{All}
use Rattle.laws.proofs.Lists.{all_map, all_at, all_append, all_both, length_none}
use Rattle.laws.proofs.Choices.{by_bool, clash}
use Rattle.model.specs.Gate.{Net, gate_at, size, fanin, combs, wired, is_topo_sorted, Valid}
use Rattle.model.specs.Network.{vars, deps, has, Reach, out, through, Walk, go_at, step_at, walk, first_walk, walk_left, seen, cleanup_order, cleanup, translation}
use Rattle.model.proofs.Names.{Names, sorted, sorted_test}
use Rattle.shape.specs.Forms.{Inside, OutsInside, Kept, Order, Topo}
use Rattle.shape.proofs.Sums.{upd_same, upd_other, unseen_visit}
use Rattle.shape.proofs.Members.{has_left, has_right, has_tail, has_index, all_has, has_all, rising_all, rising_bound, rising_has, rising_distinct, rising_index}
use Rattle.shape.proofs.Wires.{vars_in, wired_inside, wired_outs_inside}
use Rattle.shape.proofs.Remap.{translation_removed, remap_size, remap_sorted, remap_fanin, remap_combs, remap_valid}

module _ (N : Net) where
  -- seen, or about to be
  abbrev Due : Walk → ℕ → Type 0
  Due w m = (w.vis m ≡ true) ⊎ (has m w.stk ≡ true)

  -- what holds at every turn
  pub record K (w : Walk) : Type 0 where
    pub outs : All (Due w) (vars N.outs)
    pub closed : (n : ℕ) → w.vis n ≡ true → All (Due w) (deps N n)
    pub sound : (n : ℕ) → w.vis n ≡ true → Reach N n × (n < size N)
    pub stack : All (λ n. Reach N n × (n < size N)) w.stk

  skip : (w : Walk) (v : ℕ) (r : List ℕ) → K w → w.stk ≡ v ∷ r → w.vis v ≡ true → K (go_at N true v r w)
  skip w v r I q e = record {
    outs = all_map (vars N.outs) due I.outs;
    closed = λ n h. all_map (deps N n) due (I.closed n h);
    sound = I.sound;
    stack = (rw q at I.stack).1;
  }
    where
      due : (m : ℕ) → Due w m → Due (go_at N true v r w) m
      due m (inl x) = inl x
      due m (inr x) = elim (ℕ_discrete v m) [ yes y ↦ inl (rw (← y) e) | no y ↦ inr (has_tail m v r y (rw q at x)) ]

  visit : Inside N → (w : Walk) (v : ℕ) (r : List ℕ) → K w → w.stk ≡ v ∷ r → K (go_at N false v r w)
  visit inside w v r I q = record {
    outs = all_map (vars N.outs) due I.outs;
    closed = λ n h. elim (ℕ_discrete n v) [
      | yes y ↦ rw y (has_all (Due w') (deps N v) (λ m x. inr (has_left m (deps N v) r x)))
      | no y ↦ all_map (deps N n) due (I.closed n (sym (upd_other w.vis v true n y) ∙ h))
    ];
    sound = λ n h. elim (ℕ_discrete n v) [ yes y ↦ rw y top | no y ↦ I.sound n (sym (upd_other w.vis v true n y) ∙ h) ];
    stack = all_append (λ n. Reach N n × (n < size N)) (deps N v) r
        (has_all (λ n. Reach N n × (n < size N)) (deps N v) (λ m x. (through top.0 x, all_has (λ d. d < size N) (deps N v) m (inside v top.1) x)))
        (rw q at I.stack).1;
  }
    where
      w' : Walk
      w' = go_at N false v r w

      top : Reach N v × (v < size N)
      top = (rw q at I.stack).0

      due : (m : ℕ) → Due w m → Due w' m
      due m (inl x) = elim (ℕ_discrete m v) [ yes y ↦ inl (rw y (upd_same w.vis v true)) | no y ↦ inl (upd_other w.vis v true m y ∙ x) ]
      due m (inr x) = elim (ℕ_discrete v m) [
        | yes y ↦ inl (rw (← y) (upd_same w.vis v true))
        | no y ↦ inr (has_right m (deps N v) r (has_tail m v r y (rw q at x)))
      ]

  pub turn : Inside N → (w : Walk) → K w → K (step_at N w.stk w) × ((w.stk ≡ []) ⊎ (walk_left N (step_at N w.stk w) < walk_left N w))
  turn inside w I = go w.stk refl
    where
      go : (k : List ℕ) → w.stk ≡ k → K (step_at N k w) × ((w.stk ≡ []) ⊎ (walk_left N (step_at N k w) < walk_left N w))
      go [] q = (I, inl q)
      go (v ∷ r) q = by_bool (w.vis v)
          (λ e. rw e (skip w v r I q e, inr (omega (arith, ap length q))))
          (λ e. rw e (
            visit inside w v r I q,
            inr (omega (
              arith,
              ap length q,
              length-append (deps N v) r,
              unseen_visit N w.vis v (rw q at I.stack).0.1 e,
            )),
          ))

  pub stay : (f : ℕ) (w : Walk) → w.stk ≡ [] → walk N f w ≡ w
  unfolding walk
  stay zero w q = refl
  stay (suc f) w q = ap (λ k. walk N f (step_at N k w)) q ∙ stay f w q

  -- with turns for all the work left, the list of those to visit runs empty
  finish : Inside N → (f : ℕ) (w : Walk) → K w → walk_left N w ≤ f → K (walk N f w) × ((walk N f w).stk ≡ [])
  unfolding walk
  finish inside zero w I h = (I, length_none w.stk (omega arith))
  finish inside (suc f) w I h =
      let t = turn inside w I in
      elim t.1 [
        | inl q ↦ (let y : walk N f (step_at N w.stk w) ≡ w = ap (λ k. walk N f (step_at N k w)) q ∙ stay f w q in rw y (I, q))
        | inr l ↦ finish inside f (step_at N w.stk w) t.0 (omega arith)
      ]

  pub first_K : OutsInside N → K (first_walk N)
  first_K outs_in = record {
    outs = has_all (Due (first_walk N)) (vars N.outs) (λ m x. inr x);
    closed = λ n h. clash h refl;
    sound = λ n h. clash h refl;
    stack = has_all (λ n. Reach N n × (n < size N)) (vars N.outs) (λ m x. (out x, all_has (λ d. d < size N) (vars N.outs) m outs_in x));
  }

  abbrev pub last_walk : Walk
  last_walk = walk N (walk_left N (first_walk N)) (first_walk N)

  module _ (inside : Inside N) (outs_in : OutsInside N) where
    end : K last_walk × (last_walk.stk ≡ [])
    end = finish inside (walk_left N (first_walk N)) (first_walk N) (first_K outs_in) (le_refl _)

    pub walk_empty : last_walk.stk ≡ []
    walk_empty = end.1

    done : (m : ℕ) → Due last_walk m → seen N m ≡ true
    done m (inl x) = x
    done m (inr x) = clash (rw end.1 at x) refl

    seen_sound : (n : ℕ) → seen N n ≡ true → Reach N n × (n < size N)
    seen_sound n h = end.0.sound n h

    reach_seen : {n : ℕ} → Reach N n → seen N n ≡ true
    reach_seen (out {m = m} x) = done m (all_has (Due last_walk) (vars N.outs) m end.0.outs x)
    reach_seen (through {n = n} {m = m} r x) = done m (all_has (Due last_walk) (deps N n) m (end.0.closed n (reach_seen r)) x)

    keep_at : (n : ℕ) → seen N n ≡ true → Kept (cleanup_order N) n
    keep_at n h = has_index n (cleanup_order N) (rising_has (seen N) (size N) n (seen_sound n h).1 h)

    kept_seen : (n : ℕ) → Kept (cleanup_order N) n → seen N n ≡ true
    kept_seen n k = rw k.2 at (all_at (λ x. (seen N x ≡ true) × (x < size N)) (cleanup_order N) 0 (rising_all (seen N) (size N)) k.0 k.1).0

    order_order : Order N (cleanup_order N)
    order_order = record {
      distinct = rising_distinct (seen N) (size N);
      bound = rising_bound (seen N) (size N);
      ins = λ n k.
          vars_in (Kept (cleanup_order N)) (gate_at N n).ins
          (has_all (Kept (cleanup_order N)) (deps N n) (λ m x. keep_at m (done m (all_has (Due last_walk) (deps N n) m (end.0.closed n (kept_seen n k)) x))));
      outs =
          vars_in (Kept (cleanup_order N)) N.outs
          (has_all (Kept (cleanup_order N)) (vars N.outs) (λ m x. keep_at m (done m (all_has (Due last_walk) (vars N.outs) m end.0.outs x))));
    }

module _ (N : Net) (w : wired N ≡ true) where
  -- CLEANUP KEEPS EXACTLY WHAT OUTPUTS REACH
  pub kept_reach : (v : ℕ) → Kept (cleanup_order N) v → Reach N v
  kept_reach v k = (seen_sound N (wired_inside N w) (wired_outs_inside N w) v (kept_seen N (wired_inside N w) (wired_outs_inside N w) v k)).0

  pub reach_kept : (v : ℕ) → Reach N v → Kept (cleanup_order N) v
  reach_kept v r = keep_at N (wired_inside N w) (wired_outs_inside N w) v (reach_seen N (wired_inside N w) (wired_outs_inside N w) r)

  -- and what they do not reach maps to zero
  pub removed_zero : (v : ℕ) → (Reach N v → ⊥) → translation (size N) (cleanup_order N) v ≡ 0
  removed_zero v never =
      translation_removed (size N) (cleanup_order N) v
      (by_bool (has v (cleanup_order N)) (λ h. absurd (never (kept_reach v (has_index v (cleanup_order N) h)))) (λ h. h))

  pub cleanup_order_lem : Order N (cleanup_order N)
  cleanup_order_lem = order_order N (wired_inside N w) (wired_outs_inside N w)

  -- old order: what is sorted stays sorted
  pub cleanup_topo : is_topo_sorted N ≡ true → Topo N (cleanup_order N)
  cleanup_topo t j h e =
      let o = get_or (cleanup_order N) j 0 in
      let ho : o < size N = all_at (λ o. o < size N) (cleanup_order N) 0 cleanup_order_lem.bound j h in
      all_map (gate_at N o).ins
      (λ s p m r.
      let k = p.1 m r in
      let l = p.0 m r in
      (k.0, rising_index (seen N) (size N) k.0 j k.1 h (rw k.2 l), k.2))
      (all_both (Names (λ m. m < o)) (Names (Kept (cleanup_order N))) (gate_at N o).ins (sorted N t o ho e) (cleanup_order_lem.ins o (j, h, refl)))

  pub cleanup_size : size (cleanup N) ≡ length (cleanup_order N)
  unfolding cleanup
  cleanup_size = remap_size N (cleanup_order N)

-- THE RESULT of cleanup on a valid network: valid, no larger, and sorted where the source was
module _ (N : Net) (A : Valid N) where
  pub cleanup_valid : Valid (cleanup N)
  unfolding cleanup
  cleanup_valid = remap_valid N (cleanup_order N) (cleanup_order_lem N A.signals) A

  pub cleanup_sorted : is_topo_sorted N ≡ true → is_topo_sorted (cleanup N) ≡ true
  unfolding cleanup
  cleanup_sorted t =
      let few = A.nodes_few in
      sorted_test (cleanup N) (remap_sorted N (cleanup_order N) (cleanup_order_lem N A.signals) (omega arith) (cleanup_topo N A.signals t))

  pub cleanup_fanin : fanin (cleanup N).nodes ≤ fanin N.nodes
  unfolding cleanup
  cleanup_fanin = remap_fanin N (cleanup_order N) (cleanup_order_lem N A.signals)

  pub cleanup_combs : combs (cleanup N).nodes ≤ combs N.nodes
  unfolding cleanup
  cleanup_combs = remap_combs N (cleanup_order N) (cleanup_order_lem N A.signals)
