-- What a held network says of each of its words, and how a pass comes to hold one.
use Prim.Native.Nat.{ℕ, zero, suc, ◌+◌, ◌*◌, ◌^◌, ◌≤◌, ◌<◌}
use mathlib.Core.Path.{◌≡◌, sym, ap, ◌∙◌, subst}
use mathlib.Core.Bool.{true}
use mathlib.Core.List.{List, [], ◌∷◌}
use native.Mathlib.Omega.{arith}
use lib.ListN.{length, get_or}
use lib.Dec.{ltb}
use borrow.Author.Tests.{ltb-true}
use Rattle.laws.specs.Lists.{All}
use Rattle.laws.proofs.Lists.{all_at}
use Rattle.laws.proofs.Tabs.{length_tab, get_or_tab}
use Rattle.laws.proofs.Bools.{and_left, and_right}
use Rattle.kinds.specs.Kinds.{kind_of}
use Rattle.model.specs.Gate.{Gate, Net, Valid, no_gate, size, fits_kind, fits_code, fits_table, shaped, fanin, named}
use Rattle.model.specs.Gate as model
use Rattle.model.specs.Network.{sum_to}
use Rattle.shape.proofs.FactoringGrown.{fanin_append}
use Rattle.shape.proofs.Written.{net_eq}
use Rattle.shape.proofs.Named.{Here, shaped_at, wired_ins, wired_outs}
use Rattle.tables.specs.Layout.{kind_at, first_at, count_at, input_at, low_at, high_at, output_at, ins_at, gate_at, nodes_of, outputs_of, net_of}
use Rattle.tables.specs.Building.{Packed}
use Rattle.tables.specs.Holding.{network_of, Held, Holds}
use Rattle.tables.specs.declared.counts.Counts.{Counts}
use Rattle.tables.proofs.Building.{nodes_of_next, nodes_of_none}

-- ---- the network of an area, part by part

module _ (l : List ℕ) (v : ℕ) where
  pub length_ins_at : length (ins_at l v) ≡ count_at l v
  unfolding ins_at
  length_ins_at = length_tab _ (count_at l v)

  pub get_or_ins_at : (j : ℕ) → j < count_at l v → get_or (ins_at l v) j 0 ≡ input_at l (first_at l v + j)
  unfolding ins_at
  get_or_ins_at j h = get_or_tab (λ k. input_at l (first_at l v + k)) (count_at l v) j 0 h

  pub length_nodes_of : length (nodes_of l v) ≡ v
  unfolding nodes_of
  length_nodes_of = length_tab (gate_at l) v

  pub get_or_nodes_of : (w : ℕ) → w < v → get_or (nodes_of l v) w no_gate ≡ gate_at l w
  unfolding nodes_of
  get_or_nodes_of w h = get_or_tab (gate_at l) v w no_gate h

  pub length_outputs_of : length (outputs_of l v) ≡ v
  unfolding outputs_of
  length_outputs_of = length_tab (output_at l) v

  pub get_or_outputs_of : (j : ℕ) → j < v → get_or (outputs_of l v) j 0 ≡ output_at l j
  unfolding outputs_of
  get_or_outputs_of j h = get_or_tab (output_at l) v j 0 h

-- the inputs of one gate, and of all
pub length_ins : (l : List ℕ) (v : ℕ) → length (gate_at l v).ins ≡ count_at l v
unfolding gate_at
length_ins l v = length_ins_at l v

pub fanin_one : (g : Gate) → fanin (g ∷ []) ≡ length g.ins
unfolding fanin
fanin_one g = omega arith

pub fanin_next : (l : List ℕ) (v : ℕ) → fanin (nodes_of l (suc v)) ≡ fanin (nodes_of l v) + count_at l v
fanin_next l v = rw (nodes_of_next l v, fanin_append, fanin_one, length_ins l v)

pub fanin_nodes_of : (l : List ℕ) (v : ℕ) → fanin (nodes_of l v) ≡ sum_to (count_at l) v
unfolding fanin
fanin_nodes_of l zero = ap fanin (nodes_of_none l)
fanin_nodes_of l (suc v) = fanin_next l v ∙ ap (λ (n : ℕ). n + count_at l v) (fanin_nodes_of l v)

-- ---- a held network

module _ (l : List ℕ) (c : Counts) where
  pub size_network : size (network_of l c) ≡ c.nodes
  unfolding network_of net_of
  size_network = length_nodes_of l c.nodes

  pub gate_network : (v : ℕ) → v < c.nodes → model.gate_at (network_of l c) v ≡ gate_at l v
  unfolding network_of net_of
  gate_network v h = get_or_nodes_of l c.nodes v h

  module _ (H : Held l c) where
    pub inputs_few : c.inputs ≤ 1024
    unfolding network_of net_of
    inputs_few = H.valid.inputs_few

    pub nodes_few : c.nodes ≤ 512
    nodes_few = omega (arith, H.valid.nodes_few, size_network)

    pub outs_few : c.outs ≤ 64
    unfolding network_of net_of
    outs_few = omega (arith, H.valid.outs_few, length_outputs_of l c.outs)

    pub total_few : fanin (nodes_of l c.nodes) ≤ 2048
    unfolding network_of net_of
    total_few = H.valid.ins_few

    pub counts_few : sum_to (count_at l) c.nodes ≤ 2048
    counts_few = omega (arith, total_few, fanin_nodes_of l c.nodes)

    pub output_named : (j : ℕ) → j < c.outs → named c.inputs c.nodes (output_at l j) ≡ true
    unfolding network_of net_of
    output_named j h =
        let os = outputs_of l c.outs in
        let g = all_at (Here c.inputs (size (network_of l c))) os 0 (wired_outs (network_of l c) H.valid.signals) j (rw (length_outputs_of l c.outs) h) in
        rw (get_or_outputs_of l c.outs j h, size_network) at g

    module _ (v : ℕ) (h : v < c.nodes) where
      node_shaped : shaped (gate_at l v) ≡ true
      unfolding network_of net_of
      node_shaped = rw (get_or_nodes_of l c.nodes v h) at (shaped_at (nodes_of l c.nodes) H.valid.gates_shaped v (rw (length_nodes_of l c.nodes) h))

      pub kind_fits : fits_code (kind_at l v) (count_at l v) ≡ true
      unfolding shaped gate_at
      kind_fits =
          let k = fits_code (kind_at l v) (length (ins_at l v)) in
          let t = fits_table (kind_at l v) (length (ins_at l v)) (low_at l v + 2 ^ 32 * high_at l v) in
          rw (length_ins_at l v) at (and_left k t node_shaped)

      pub table_fits : fits_table (kind_at l v) (count_at l v) (low_at l v + 2 ^ 32 * high_at l v) ≡ true
      unfolding shaped gate_at
      table_fits =
          let k = fits_code (kind_at l v) (length (ins_at l v)) in
          let t = fits_table (kind_at l v) (length (ins_at l v)) (low_at l v + 2 ^ 32 * high_at l v) in
          rw (length_ins_at l v) at (and_right k t node_shaped)

      pub kind_known : kind_at l v < 15
      unfolding fits_code
      kind_known = ltb-true (kind_at l v) 15 (and_left (ltb (kind_at l v) 15) (fits_kind (kind_of (kind_at l v)) (count_at l v)) kind_fits)

      pub input_named : (j : ℕ) → j < count_at l v → named c.inputs c.nodes (input_at l (first_at l v + j)) ≡ true
      unfolding network_of net_of gate_at
      input_named j q =
          let P = Here c.inputs (size (network_of l c)) in
          let g : All P (ins_at l v) =
          subst (λ (x : Gate). All P x.ins) (gate_network v h) (wired_ins (network_of l c) H.valid.signals v (rw size_network h)) in
          rw (get_or_ins_at l v j q, size_network) at (all_at P (ins_at l v) 0 g j (rw (length_ins_at l v) q))

-- ---- a pass that has put a valid network into an area holds it

module _ (l : List ℕ) (c : Counts) (N : Net) (at : ℕ) (P : Packed l c.nodes at) where
  pub holds : Valid N → c.inputs ≡ N.inputs → nodes_of l c.nodes ≡ N.nodes → outputs_of l c.outs ≡ N.outs → Holds l c N
  unfolding network_of net_of
  holds ok i ns os =
      let e : network_of l c ≡ N = net_eq i ns os in
      let r = P.room in
      record {
        held = record {
          long = P.long;
          ends = λ v h. omega (arith, P.ends v h);
          valid = subst (λ (m : Net). Valid m) (sym e) ok;
        };
        net = e;
      }
