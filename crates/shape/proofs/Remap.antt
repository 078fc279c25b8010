-- remap by an order: where each node goes; the result is valid, sorted where the order is, and no larger than its source.
use mathlib.Core.Path.{◌≡◌, refl, sym, ap, ◌∙◌}
use Prim.Native.Nat.{ℕ, zero, suc, ◌+◌, ◌≤◌, ◌<◌}
use native.Mathlib.Nat.{not-suc-le-zero, le_of_suc-le-suc}
use native.Mathlib.Omega.{arith}
use mathlib.Core.Bool.{true, false}
use mathlib.Core.List.{List, [], ◌∷◌, map}
use lib.ListN.{length, get_or, set, length-map, length-set, replicate, length-replicate}
use lib.Seq.{get_or-set_same, get_or-set_other}
use Rattle.laws.specs.Lists.{All, Fresh, Distinct}
use Rattle.laws.proofs.Lists.{all_map, all_both, all_at, map_all, get_or_map_in}
use Rattle.model.specs.Signal.{ref, from_var, remap_order}
use Rattle.model.specs.Gate.{Gate, Net, is_dff, remap_gate, no_gate, gate_at, size, all_shaped, fanin, combs, wired, Valid}
use Rattle.model.specs.Network.{is_d, has, fill, translation, remap}
use Rattle.model.proofs.Words.{node_ref}
use Rattle.model.proofs.Names.{Names, In, node_names, in_remap, Sorted}
use Rattle.shape.specs.Forms.{Ranked, Kept, Before, Order, Topo}
use Rattle.shape.proofs.Sums.{sum_list, list_map, list_sum, fanin_total, comb_of, combs_total, sum_distinct, length_distinct}
use Rattle.shape.proofs.Members.{fresh_of}
use Rattle.shape.proofs.Named.{Here, here_through, here_var, shaped_all, shaped_at, shaped_remap, wired_all, wired_ins, wired_outs}

-- ---- the translation

fill_other : (os t : List ℕ) (b v : ℕ) → Fresh v os → get_or (fill t b os) v 0 ≡ get_or t v 0
fill_other [] t b v f = refl
fill_other (o ∷ os) t b v f = fill_other os (set t o (from_var b)) (suc b) v f.1 ∙ get_or-set_other t o v (from_var b) 0 (λ e. f.0 (sym e))

fill_at : (os t : List ℕ) (b j : ℕ) → Distinct os → All (λ o. o < length t) os → j < length os → get_or (fill t b os) (get_or os j 0) 0 ≡ from_var (b + j)
fill_at [] t b j d h l = absurd (not-suc-le-zero l)
fill_at (o ∷ os) t b zero d h l =
    fill_other os (set t o (from_var b)) (suc b) o d.0 ∙ get_or-set_same t o (from_var b) 0 h.0 ∙ ap from_var (omega arith)
fill_at (o ∷ os) t b (suc j) d h l =
    fill_at os (set t o (from_var b)) (suc b) j d.1 (all_map os (λ a q. rw length-set q) h.1) (le_of_suc-le-suc l) ∙ ap from_var (omega arith)

zeros : (n v : ℕ) → ◌≡◌ {A = ℕ} (get_or (replicate n 0) v 0) 0
zeros zero v = refl
zeros (suc n) zero = refl
zeros (suc n) (suc v) = zeros n v

-- what is not in the order maps to zero
pub translation_removed : (n : ℕ) (order : List ℕ) (v : ℕ) → has v order ≡ false → translation n order v ≡ 0
unfolding translation
translation_removed n order v h = fill_other order (replicate n 0) 0 v (fresh_of v order h) ∙ zeros n v

-- the node at place j of the order is node j
pub translation_kept : (n : ℕ) (order : List ℕ) → Distinct order → All (λ o. o < n) order → (v : ℕ) (k : Kept order v) → translation n order v ≡ from_var k.0
unfolding translation
translation_kept n order distinct bound v k =
    ap (λ x. get_or (fill (replicate n 0) 0 order) x 0) (sym k.2)
    ∙ fill_at order (replicate n 0) 0 k.0 distinct (rw length-replicate bound) k.1
    ∙ ap from_var (omega arith)

-- ---- a network by an order of its nodes

module _ (N : Net) (order : List ℕ) where
  pub remap_size : size (remap order N) ≡ length order
  unfolding remap
  remap_size = length-map order _

  pub remap_inputs : (remap order N).inputs ≡ N.inputs
  unfolding remap
  remap_inputs = refl

  pub remap_outs : (remap order N).outs ≡ map (remap_order (translation (size N) order)) N.outs
  unfolding remap
  remap_outs = refl

  pub remap_gate_lem : (j : ℕ) → j < length order → gate_at (remap order N) j ≡ remap_gate (translation (size N) order) (gate_at N (get_or order j 0))
  unfolding remap
  remap_gate_lem j h = get_or_map_in (λ o. remap_gate (translation (size N) order) (gate_at N o)) order 0 no_gate j h

  module _ (O : Order N order) where
    abbrev τ : ℕ → ℕ
    τ = translation (size N) order

    pub τ_at : (v : ℕ) (k : Kept order v) → τ v ≡ from_var k.0
    τ_at = translation_kept (size N) order O.distinct O.bound

    pub gate_kept : (v : ℕ) (k : Kept order v) → gate_at (remap order N) k.0 ≡ remap_gate τ (gate_at N v)
    gate_kept v k = remap_gate_lem k.0 k.1 ∙ ap (λ x. remap_gate τ (gate_at N x)) k.2

    pub kept_inside : (v : ℕ) → Kept order v → v < size N
    kept_inside v k = rw k.2 at (all_at (λ o. o < size N) order 0 O.bound k.0 k.1)

    pub order_length : length order ≤ size N
    order_length = length_distinct (size N) order O.distinct O.bound

    -- sorted, where the order is
    pub remap_sorted : size N < 1073741824 → Topo N order → Sorted (remap order N)
    remap_sorted small topo j h e =
        let h' : j < length order = omega (arith, remap_size) in
        let f : is_d N (get_or order j 0) ≡ false = ap is_dff (sym (remap_gate_lem j h')) ∙ e in
        rw (remap_gate_lem j h')
        (in_remap τ (Before order j) (λ m. m < j) (gate_at N (get_or order j 0)).ins
        (λ m b.
        let l = b.1 in
        let k : Kept order m = (b.0, omega arith, b.2) in
        node_names (λ m. m < j) (τ m) b.0 (ap ref (τ_at m k) ∙ node_ref b.0 (omega (arith, order_length))) l)
        (topo j h' f))

    -- without a loop, where the order is sorted: the mapping itself is a rank
    pub remap_ranked : Topo N order → Ranked N (Kept order)
    remap_ranked topo = record {
      rank = τ;
      below = λ n k e.
          let f : is_d N (get_or order k.0 0) ≡ false = rw k.2 e in
          let t : In (Before order k.0) (gate_at N n).ins = rw k.2 at (topo k.0 k.1 f) in
          all_map (gate_at N n).ins
          (λ s p m q.
          let b = p m q in
          let l = b.1 in
          let kept-m : Kept order m = (b.0, (let l' = k.1 in omega arith), b.2) in
          (kept-m, omega (arith, τ_at m kept-m, τ_at n k)))
          t;
    }

    -- no more of anything that a gate brings with it wherever it stands
    module _ (w : Gate → ℕ) (same : (t : ℕ → ℕ) (g : Gate) → w (remap_gate t g) ≡ w g) where
      pub remap_weigh : sum_list w (remap order N).nodes ≤ sum_list w N.nodes
      unfolding remap
      remap_weigh =
          omega (
            arith,
            list_map w (λ o. remap_gate τ (gate_at N o)) (λ o. w (gate_at N o)) (λ o. same τ (gate_at N o)) order,
            sum_distinct (size N) (λ o. w (gate_at N o)) order O.distinct O.bound,
            list_sum w N.nodes no_gate,
          )

    pub remap_fanin : fanin (remap order N).nodes ≤ fanin N.nodes
    remap_fanin =
        omega (
          arith,
          fanin_total (remap order N).nodes,
          fanin_total N.nodes,
          remap_weigh (λ g. length g.ins) (λ t g. length-map g.ins (remap_order t)),
        )

    pub remap_combs : combs (remap order N).nodes ≤ combs N.nodes
    remap_combs =
        omega (
          arith,
          combs_total (remap order N).nodes,
          combs_total N.nodes,
          remap_weigh comb_of (λ t g. refl),
        )

    -- valid, where the source is
    remap_shaped : all_shaped N.nodes ≡ true → all_shaped (remap order N).nodes ≡ true
    remap_shaped h = shaped_all (remap order N).nodes (λ j l.
        let l' : j < length order = omega (arith, remap_size) in
        rw (remap_gate_lem j l')
        (shaped_remap τ (gate_at N (get_or order j 0)) ∙ shaped_at N.nodes h (get_or order j 0) (all_at (λ o. o < size N) order 0 O.bound j l')))

    module _ (few : size N ≤ 512) (w : wired N ≡ true) where
      kept_here : (v : ℕ) → Kept order v → Here N.inputs (size (remap order N)) (τ v)
      kept_here v k =
          let l = k.1 in
          rw (τ_at v k) (here_var N.inputs (size (remap order N)) k.0 (omega (arith, remap_size)) (omega (arith, remap_size, order_length)))

      list_here : (l : List ℕ) → In (Kept order) l → All (Here N.inputs (size N)) l → All (Here N.inputs (size (remap order N))) (map (remap_order τ) l)
      list_here l k h =
          map_all (Here N.inputs (size (remap order N))) (remap_order τ) l
          (λ s p. here_through τ N.inputs (size N) (size (remap order N)) s (λ v e. kept_here v (p.0 v e)) p.1)
          (all_both (Names (Kept order)) (Here N.inputs (size N)) l k h)

      remap_wired : wired (remap order N) ≡ true
      remap_wired =
          wired_all (remap order N)
          (λ j l.
          let l' : j < length order = omega (arith, remap_size) in
          let o = get_or order j 0 in
          rw (remap_inputs, remap_gate_lem j l')
          (list_here (gate_at N o).ins (O.ins o (j, l', refl)) (wired_ins N w o (all_at (λ x. x < size N) order 0 O.bound j l'))))
          (rw (remap_inputs, remap_outs) (list_here N.outs O.outs (wired_outs N w)))

    pub remap_valid : Valid N → Valid (remap order N)
    remap_valid A = record {
      inputs_few = rw remap_inputs A.inputs_few;
      nodes_few = let n = A.nodes_few in omega (arith, remap_size, order_length);
      outs_few = rw (remap_outs, length-map N.outs (remap_order τ)) A.outs_few;
      gates_shaped = remap_shaped A.gates_shaped;
      ins_few = let n = A.ins_few in omega (arith, remap_fanin);
      signals = remap_wired A.nodes_few A.signals;
    }
