-- The last turn: flip-flops' inputs and outputs translated, and the network that then stands in the area.
use Prim.Native.Nat.{ℕ, zero, suc, ◌+◌, ◌≤◌, ◌<◌}
use mathlib.Core.Path.{◌≡◌, sym, ap, ◌∙◌}
use mathlib.Core.Bool.{Bool, true, false}
use mathlib.Core.List.{List}
use native.Mathlib.Omega.{arith}
use native.Mathlib.Nat.{le_refl}
use native.Mathlib.Decide.{ℕ_discrete, dec_lt}
use lib.ListN.{length, get_or, length-map}
use lib.Seq.{ext_get_or}
use Rattle.laws.specs.Lists.{tab}
use Rattle.laws.proofs.Tabs.{map_tab}
use Rattle.laws.proofs.Lists.{get_or_map_in}
use Rattle.model.specs.Signal.{remap_order}
use Rattle.model.specs.Gate.{Gate, Net, no_gate, size, is_dff, remap_gate, fanin, is_topo_sorted}
use Rattle.model.specs.Normal.{Norm}
use Rattle.model.specs.Network.{Work, remap_dff, dedup_with}
use Rattle.tables.specs.Layout.{span, first_at, count_at, input_at, output_at, gate_at, nodes_of, outputs_of, net_of}
use Rattle.tables.specs.Building.{Packed, put_outputs}
use Rattle.tables.specs.Holding.{network_of, Held}
use Rattle.tables.specs.declared.counts.Counts.{Counts}
use Rattle.tables.proofs.Gates.{gate_at_by, gate_at_same}
use Rattle.tables.proofs.Building.{length_put_outputs, outputs_of_put_outputs, nodes_of_put_outputs, packed_put_outputs}
use Rattle.tables.proofs.Holding.{length_nodes_of, get_or_nodes_of, fanin_next, size_network, nodes_few, outs_few, holds}
use Rattle.shape.proofs.Named.{wired_outs}
use Rattle.shape.proofs.DedupSweep.{up_to, cells, cells_first, cells_cells, gates_behind}
use Rattle.shape.proofs.Dedup.{remap_all, last, result_inputs, result_nodes, result_outs, map_is, turned_comb, turned_cell, dedup_valid, dedup_sorted}
use Rattle.translation.specs.Tables.{tr_of, outputs_by}
use Rattle.translation.proofs.Translated.{tr_of_cell, tr_of_outputs}
use Rattle.placing.specs.Lists.{norm_of}
use Rattle.dedup.specs.States.{Sweeping, turned, Dedupable, Deduped}
use Rattle.placing.specs.declared.Built.{Built}
use Rattle.dedup.proofs.Turned.{length_turned, tr_of_turned, input_at_turned, input_at_turned_past, kind_at_turned, first_at_turned, count_at_turned, low_at_turned, high_at_turned}
use Rattle.placing.proofs.Lookups.{norm_law}

-- the inputs of more nodes are more
fanin_more : (l : List ℕ) (v w : ℕ) → v ≤ w → fanin (nodes_of l v) ≤ fanin (nodes_of l w)
fanin_more l v zero h = let e : v ≡ 0 = omega arith in rw e (le_refl _)
fanin_more l v (suc w) h = elim (ℕ_discrete v (suc w)) [
  | yes e ↦ rw e (le_refl _)
  | no e ↦ (let m = fanin_more l v w (omega arith) in omega (arith, fanin_next l w))
]

-- a list of gates that another begins with, in an area
begins : (l : List ℕ) (n : ℕ) (a : List Gate) → length a ≤ n → ((j : ℕ) → j < length a → get_or (nodes_of l n) j no_gate ≡ get_or a j no_gate) → nodes_of l (length a) ≡ a
begins l n a h e =
    ext_get_or no_gate (nodes_of l (length a)) a (length_nodes_of l (length a))
    (λ i q. let p : i < length a = omega (arith, length_nodes_of l (length a)) in
    get_or_nodes_of l (length a) i p ∙ sym (get_or_nodes_of l n i (omega arith)) ∙ e i p)

module _ (src : List ℕ) (c : Counts) (can : Bool) (H : Held src c) (srt : is_topo_sorted (network_of src c) ≡ true)
    (l₁ l : List ℕ) (b₁ b : Built) (S₁ : Sweeping src l₁ c true can c.nodes b₁) (S : Sweeping src l c false can c.nodes b) where
  abbrev N : Net
  N = network_of src c

  abbrev norm : Gate → Norm
  norm = norm_of can

  abbrev W : Work
  W = up_to norm N false (size N)

  -- what the sweeps left
  news_is : nodes_of l b.nodes ≡ W.news
  news_is = S.like.news ∙ ap (λ (k : ℕ). (up_to norm N false k).news) (sym (size_network src c))

  trans_is : (v : ℕ) → v < size N → tr_of l v ≡ W.trans v
  trans_is v h = S.like.trans v (rw (size_network src c) at h) ∙ ap (λ (k : ℕ). (up_to norm N false k).trans v) (sym (size_network src c))

  abbrev first : List Gate
  first = cells norm N (norm_law can) H.valid.gates_shaped

  first_is : nodes_of l₁ b₁.nodes ≡ first
  first_is = S₁.like.news ∙ ap (λ (k : ℕ). (up_to norm N true k).news) (sym (size_network src c))

  first_few : length first ≤ b.nodes
  first_few =
      let x = (cells_first norm N (norm_law can) H.valid.gates_shaped).longer in
      omega (arith, ap length news_is, length_nodes_of l b.nodes)

  first_begins : nodes_of l (length first) ≡ first
  first_begins =
      begins l b.nodes first first_few
      (λ j h. ap (λ (m : List Gate). get_or m j no_gate) news_is ∙ (cells_first norm N (norm_law can) H.valid.gates_shaped).same j h)

  -- the first input words are the flip-flops'
  cut : b₁.fanin ≡ fanin (nodes_of l (length first))
  cut = S₁.stands.total ∙ ap fanin (first_is ∙ sym first_begins)

  cut_few : b₁.fanin ≤ 2048
  cut_few = S₁.stands.packed.room

  abbrev m : List ℕ
  m = turned l b₁.fanin

  gate_was : (w : ℕ) → w < b.nodes → get_or W.news w no_gate ≡ gate_at l w
  gate_was w h = ap (λ (x : List Gate). get_or x w no_gate) (sym news_is) ∙ get_or_nodes_of l b.nodes w h

  in_news : (w : ℕ) → w < b.nodes → w < length W.news
  in_news w h = omega (arith, ap length news_is, length_nodes_of l b.nodes)

  module _ (w : ℕ) (h : w < b.nodes) where
    small : w < 512
    small = let few = S.stands.packed.few in omega arith

    abbrev long : 16384 ≤ length l
    long = S.stands.long

    -- a flip-flop's inputs are translated
    cell_turned : w < length first → gate_at m w ≡ remap_gate (tr_of l) (gate_at l w)
    cell_turned q =
        let end : first_at l w + count_at l w ≤ b₁.fanin =
        (let f = S.stands.firsts w h in let n = fanin_next l w in let t = fanin_more l (suc w) (length first) q in omega (arith, cut)) in
        gate_at_by (remap_order (tr_of l)) m l w w (kind_at_turned l long w small b₁.fanin) (count_at_turned l long w small b₁.fanin)
        (λ j p. ap (λ (x : ℕ). input_at m (x + j)) (first_at_turned l long w small b₁.fanin) ∙ input_at_turned l long b₁.fanin (first_at l w + j) cut_few (omega arith))
        (low_at_turned l long w b₁.fanin cut_few) (high_at_turned l long w b₁.fanin cut_few)

    -- a gate's stay
    comb_stays : length first ≤ w → gate_at m w ≡ gate_at l w
    comb_stays q =
        let start : b₁.fanin ≤ first_at l w = (let f = S.stands.firsts w h in let t = fanin_more l (length first) w q in omega (arith, cut)) in
        gate_at_same m l w w (kind_at_turned l long w small b₁.fanin) (count_at_turned l long w small b₁.fanin)
        (λ j p. ap (λ (x : ℕ). input_at m (x + j)) (first_at_turned l long w small b₁.fanin) ∙ input_at_turned_past l long b₁.fanin (first_at l w + j) (omega arith))
        (low_at_turned l long w b₁.fanin cut_few) (high_at_turned l long w b₁.fanin cut_few)

    remap_is : is_dff (get_or W.news w no_gate) ≡ true → remap_gate (tr_of l) (get_or W.news w no_gate) ≡ remap_gate W.trans (get_or W.news w no_gate)
    remap_is d = λ i. record {
      kind = (get_or W.news w no_gate).kind;
      ins = remap_all (tr_of l) W.trans N.inputs (size N) (get_or W.news w no_gate).ins
          (((last norm (norm_law can) N H.valid srt).news w (in_news w h)).of_cell d) trans_is i;
      table = (get_or W.news w no_gate).table;
    }

    gate_turned : gate_at m w ≡ remap_dff norm N W.trans (get_or W.news w no_gate)
    gate_turned = elim (dec_lt w (length first)) [
      | yes q ↦ (let d = cells_cells norm N (norm_law can) H.valid.gates_shaped w q in
          cell_turned q ∙ ap (remap_gate (tr_of l)) (sym (gate_was w h)) ∙ remap_is d ∙ sym (turned_cell norm (norm_law can) N H.valid srt W.trans (get_or W.news w no_gate) d))
      | no q ↦ (let d = gates_behind norm N (norm_law can) H.valid.gates_shaped w (omega arith) (in_news w h) in
          comb_stays (omega arith) ∙ sym (gate_was w h) ∙ sym (turned_comb norm (norm_law can) N H.valid srt W.trans (get_or W.news w no_gate) d))
    ]

  nodes_turned : nodes_of m b.nodes ≡ (dedup_with norm N).nodes
  nodes_turned =
      ext_get_or no_gate (nodes_of m b.nodes) (dedup_with norm N).nodes
      (length_nodes_of m b.nodes ∙ sym (ap length (result_nodes norm (norm_law can) N H.valid srt) ∙ length-map W.news _ ∙ ap length (sym news_is) ∙ length_nodes_of l b.nodes))
      (λ i q. let p : i < b.nodes = omega (arith, length_nodes_of m b.nodes) in
      get_or_nodes_of m b.nodes i p ∙ gate_turned i p
      ∙ sym (ap (λ (x : List Gate). get_or x i no_gate) (result_nodes norm (norm_law can) N H.valid srt) ∙ get_or_map_in (remap_dff norm N W.trans) W.news no_gate no_gate i (in_news i p)))

  packed_turned : Packed m b.nodes b.fanin
  packed_turned =
      let few = S.stands.packed.few in
      record {
        long = rw length_turned S.stands.packed.long;
        few = S.stands.packed.few;
        ends = λ w h. rw (first_at_turned l S.stands.long w (omega arith) b₁.fanin, count_at_turned l S.stands.long w (omega arith) b₁.fanin) (S.stands.packed.ends w h);
        room = S.stands.packed.room;
      }

  abbrev outputs : ℕ → ℕ
  outputs = outputs_by src (tr_of m)

  abbrev o : List ℕ
  o = put_outputs m outputs c.outs

  trans_turned : tr_of m ≡ tr_of l
  trans_turned = tr_of_turned l S.stands.long b₁.fanin cut_few

  outs_turned : outputs_of o c.outs ≡ (dedup_with norm N).outs
  unfolding network_of net_of outputs_of outputs_by
  outs_turned =
      outputs_of_put_outputs m outputs c.outs (outs_few src c H) (rw length_turned S.stands.packed.long)
      ∙ ap (λ (τ : ℕ → ℕ). tab (λ j. remap_order τ (output_at src j)) c.outs) trans_turned
      ∙ sym (map_tab (remap_order (tr_of l)) (output_at src) c.outs)
      ∙ remap_all (tr_of l) W.trans N.inputs (size N) N.outs (wired_outs N H.valid.signals) trans_is
      ∙ sym (result_outs norm (norm_law can) N H.valid srt)

  inputs_is : c.inputs ≡ (dedup_with norm N).inputs
  unfolding network_of net_of
  inputs_is = sym (result_inputs norm (norm_law can) N H.valid srt)

  -- THE WHOLE
  pub finish : (r : Counts) → r.inputs ≡ c.inputs → r.nodes ≡ b.nodes → r.outs ≡ c.outs → Deduped src o c can r
  finish r ei en eo = record {
    holds = holds o r (dedup_with norm N) b.fanin
        (rw en (packed_put_outputs m outputs b.nodes b.fanin packed_turned c.outs))
        (dedup_valid norm (norm_law can) N H.valid srt)
        (ei ∙ inputs_is)
        (rw en (nodes_of_put_outputs m outputs b.nodes b.fanin packed_turned c.outs ∙ nodes_turned))
        (rw eo outs_turned);
    mapping = λ v h.
        (let few = nodes_few src c H in
        let z : span ≤ length m = omega (arith, length_turned l b₁.fanin, S.stands.long) in
        sym (tr_of_cell o (rw length_put_outputs z) v (omega arith))
        ∙ ap (λ (τ : ℕ → ℕ). τ v) (tr_of_outputs m z outputs c.outs (outs_few src c H) ∙ trans_turned)
        ∙ trans_is v (rw (size_network src c) h)
        ∙ sym (ap (λ (τ : ℕ → ℕ). τ v) (map_is norm (norm_law can) N H.valid srt)));
    sorted = dedup_sorted norm (norm_law can) N H.valid srt;
  }

-- the same for the areas as they come out of the calls
pub finished : (src l l₁ l₂ m o : List ℕ) (c : Counts) (can : Bool) (b₁ b : Built) (r : Counts) → Dedupable src l c → Sweeping src l₁ c true can c.nodes b₁
    → Sweeping src l₂ c false can c.nodes b → m ≡ turned l₂ b₁.fanin → o ≡ put_outputs m (outputs_by src (tr_of m)) c.outs
    → r.inputs ≡ c.inputs → r.nodes ≡ b.nodes → r.outs ≡ c.outs → Deduped src o c can r
finished src l l₁ l₂ m o c can b₁ b r D S₁ S em eo ei en et =
    let e : o ≡ put_outputs (turned l₂ b₁.fanin) (outputs_by src (tr_of (turned l₂ b₁.fanin))) c.outs =
    eo ∙ ap (λ (x : List ℕ). put_outputs x (outputs_by src (tr_of x)) c.outs) em in
    rw e (finish src c can D.held D.sorted l₁ l₂ b₁ b S₁ S r ei en et)
