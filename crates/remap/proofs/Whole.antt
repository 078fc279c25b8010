-- The network by an order of its nodes, from its parts.
use Prim.Native.Nat.{ℕ, zero, suc, ◌+◌, ◌≤◌, ◌<◌}
use mathlib.Core.Path.{◌≡◌, refl, sym, ap, ap₂, fun_ext, ◌∙◌}
use mathlib.Core.List.{List, [], ◌∷◌, ◌++◌, map}
use native.Mathlib.Omega.{arith}
use Rattle.laws.specs.Lists.{All, tab}
use Rattle.laws.proofs.Lists.{all_at, all_of}
use Rattle.laws.proofs.Tabs.{tab_ext, length_tab, get_or_tab, map_tab}
use Rattle.model.specs.Signal.{remap_order}
use Rattle.model.specs.Gate.{remap_gate, size}
use Rattle.model.specs.Gate as model
use Rattle.model.specs.Network.{sum_to, translation, remap}
use Rattle.shape.specs.Forms.{Below}
use Rattle.shape.proofs.Sums.{sum_over, sum_distinct}
use Rattle.shape.proofs.Wires.{remap_same}
use Rattle.shape.proofs.Remap.{order_length, remap_valid}
use Rattle.tables.specs.Layout.{first_at, count_at, input_at, ins_at, output_at, gate_at, nodes_of, outputs_of, net_of, cell, tr_base, order_base}
use Rattle.tables.specs.Building.{put_outputs}
use Rattle.tables.specs.Holding.{network_of}
use Rattle.tables.specs.declared.counts.Counts.{Counts}
use Rattle.shape.proofs.Written.{gate_eq}
use Rattle.tables.proofs.Building.{length_put_outputs, cell_put_outputs, nodes_of_put_outputs, packed_put_outputs, outputs_of_put_outputs}
use Rattle.tables.proofs.Holding.{size_network, gate_network, holds}
use Rattle.remap.specs.Tables.{order_from}
use Rattle.translation.specs.Tables.{outputs_by}
use Rattle.remap.specs.Remapping.{inputs_of, Mapping, gate_by, Mapped, OutMapping, Numbering, Numbered, with_nodes, Orders, Remapped}
use Rattle.remap.proofs.Tabled.{length_order_from, order_from_tab}

-- translations that agree below n
map_same : (τ ρ : ℕ → ℕ) (n : ℕ) (l : List ℕ) → All (Below n) l → ((v : ℕ) → v < n → τ v ≡ ρ v) → map (remap_order τ) l ≡ map (remap_order ρ) l
map_same τ ρ n [] a h = refl
map_same τ ρ n (s ∷ l) a h = ap₂ ◌∷◌ (remap_same τ ρ n s a.0 h) (map_same τ ρ n l a.1 h)

-- the inputs of an order, summed
sum_over_append : (f : ℕ → ℕ) (a b : List ℕ) → sum_over f (a ++ b) ≡ sum_over f a + sum_over f b
sum_over_append f [] b = omega arith
sum_over_append f (x ∷ a) b = omega (arith, sum_over_append f a b)

over_tab : (f o : ℕ → ℕ) (m : ℕ) → sum_to (λ j. f (o j)) m ≡ sum_over f (tab o m)
unfolding tab
over_tab f o zero = refl
over_tab f o (suc m) = omega (arith, over_tab f o m, sum_over_append f (tab o m) (o m ∷ []))

module _ (from l : List ℕ) (c : Counts) (m : ℕ) (O : Orders from l c m) where
  abbrev os : List ℕ
  os = order_from l 0 m

  order_at : (k : ℕ) → k < m → cell l order_base k < c.nodes
  order_at k h =
      let b : All (λ o. o < size (network_of from c)) (tab (cell l order_base) m) = rw (order_from_tab l m) at O.order.bound in
      let at-k = all_at (λ o. o < size (network_of from c)) (tab (cell l order_base) m) 0 b k (omega (arith, length_tab (cell l order_base) m)) in
      omega (arith, at-k, get_or_tab (cell l order_base) m k 0 h, size_network from c)

  few : m ≤ 512
  few = let n = O.ok.few in omega (arith, order_length (network_of from c) (order_from l 0 m) O.order, length_order_from l m 0, size_network from c)

  pub whole_numbering : (n : ℕ) → n ≡ c.nodes → Numbering l n m
  whole_numbering n e = record { room = O.room; most = rw e O.ok.few; few = few; named = rw e order_at }

  module _ (d : List ℕ) (n : ℕ) (en : n ≡ c.nodes) (D : Numbered l d n m) where
    -- THE ROOM: an order without repeats has no more inputs than the network
    fits : inputs_of from d m ≤ 2048
    unfolding inputs_of
    fits =
        let t = O.ok.total in
        let same : cell d order_base ≡ cell l order_base = fun_ext D.numbers.order in
        rw same
        (omega (
          arith,
          over_tab (count_at from) (cell l order_base) m,
          ap (sum_over (count_at from)) (order_from_tab l m),
          sum_distinct (size (network_of from c)) (count_at from) (order_from l 0 m) O.order.distinct O.order.bound,
          ap (sum_to (count_at from)) (size_network from c),
        ))

    pub whole_mapping : Mapping from d c m
    whole_mapping = record {
      ok = O.ok;
      room = D.numbers.room;
      few = few;
      named = λ k h. rw (D.numbers.order k) (order_at k h);
      into = fits;
    }

    module _ (e : List ℕ) (E : Mapped from d e m) where
      pub whole_outs : (o : ℕ) → o ≡ c.outs → OutMapping from e o
      whole_outs o q = record {
        long = O.ok.long;
        room = E.moved.room;
        few = rw q O.ok.outs_few;
      }

      module _ (g : List ℕ) (p : g ≡ put_outputs e (outputs_by from (cell e tr_base)) c.outs) where
        τ : ℕ → ℕ
        τ = translation (size (network_of from c)) (order_from l 0 m)

        agree : (v : ℕ) → v < c.nodes → cell d tr_base v ≡ translation (size (network_of from c)) (order_from l 0 m) v
        agree v h = D.numbers.map v (rw en h) ∙ ap (λ (x : ℕ). translation x (order_from l 0 m) v) (en ∙ sym (size_network from c))

        e_map : cell e tr_base ≡ cell d tr_base
        e_map = fun_ext (λ j. E.moved.tables tr_base j (omega arith))

        ins_below : (v : ℕ) → v < c.nodes → All (Below c.nodes) (gate_at from v).ins
        unfolding gate_at ins_at
        ins_below v h =
            all_of (Below c.nodes) (ins_at from v) 0
            (λ j p. let q : j < count_at from v = omega (arith, length_tab (λ k. input_at from (first_at from v + k)) (count_at from v)) in
            rw (get_or_tab (λ k. input_at from (first_at from v + k)) (count_at from v) j 0 q) (O.ok.named v j h q))

        gates : (k : ℕ) → k < m → gate_by from d k ≡ remap_gate (translation (size (network_of from c)) (order_from l 0 m)) (model.gate_at (network_of from c) (cell l order_base k))
        unfolding gate_by
        gates k h =
            let low = order_at k h in
            rw (gate_network from c (cell l order_base k) low, D.numbers.order k)
            (gate_eq refl (map_same (cell d tr_base) (translation (size (network_of from c)) (order_from l 0 m)) c.nodes (gate_at from (cell l order_base k)).ins (ins_below (cell l order_base k) low) agree) refl)

        nodes_is : nodes_of g m ≡ (remap (order_from l 0 m) (network_of from c)).nodes
        unfolding remap
        nodes_is =
            ap (λ (x : List ℕ). nodes_of x m) p
            ∙ nodes_of_put_outputs e (outputs_by from (cell e tr_base)) m (inputs_of from d m) E.moved.packed c.outs
            ∙ E.moved.nodes
            ∙ tab_ext (gate_by from d) (λ k. remap_gate (translation (size (network_of from c)) (order_from l 0 m)) (model.gate_at (network_of from c) (cell l order_base k))) m gates
            ∙ sym (map_tab (λ v. remap_gate (translation (size (network_of from c)) (order_from l 0 m)) (model.gate_at (network_of from c) v)) (cell l order_base) m)
            ∙ ap (map (λ v. remap_gate (translation (size (network_of from c)) (order_from l 0 m)) (model.gate_at (network_of from c) v))) (sym (order_from_tab l m))

        outs_is : outputs_of g c.outs ≡ (remap (order_from l 0 m) (network_of from c)).outs
        unfolding remap network_of net_of outputs_of outputs_by
        outs_is =
            let r = E.moved.room in
            ap (λ (x : List ℕ). outputs_of x c.outs) p
            ∙ outputs_of_put_outputs e (outputs_by from (cell e tr_base)) c.outs O.ok.outs_few (omega arith)
            ∙ tab_ext (outputs_by from (cell e tr_base)) (λ j. remap_order (translation (size (network_of from c)) (order_from l 0 m)) (output_at from j)) c.outs
            (λ j h. ap (λ (t : ℕ → ℕ). remap_order t (output_at from j)) e_map ∙ remap_same (cell d tr_base) (translation (size (network_of from c)) (order_from l 0 m)) c.nodes (output_at from j) (O.ok.outs_named j h) agree)
            ∙ sym (map_tab (remap_order (translation (size (network_of from c)) (order_from l 0 m))) (output_at from) c.outs)

        inputs_is : c.inputs ≡ (remap (order_from l 0 m) (network_of from c)).inputs
        unfolding remap network_of net_of
        inputs_is = refl

        pub whole_done : Remapped from l g c m
        whole_done = record {
          room = rw p (let r = E.moved.room in omega (arith, length_put_outputs e (outputs_by from (cell e tr_base)) c.outs));
          holds =
              holds g (with_nodes c m) (remap (order_from l 0 m) (network_of from c)) (inputs_of from d m)
              (rw p (packed_put_outputs e (outputs_by from (cell e tr_base)) m (inputs_of from d m) E.moved.packed c.outs))
              (remap_valid (network_of from c) (order_from l 0 m) O.order O.ok.held.valid) inputs_is nodes_is outs_is;
          map = λ v h.
              rw p (cell_put_outputs e (outputs_by from (cell e tr_base)) c.outs tr_base v O.ok.outs_few (omega arith))
              ∙ E.moved.tables tr_base v (omega arith) ∙ agree v h;
        }

pub ruleset whole = (whole_numbering, whole_mapping, whole_outs, whole_done)
