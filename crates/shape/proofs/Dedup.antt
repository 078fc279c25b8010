-- dedup of a valid, sorted network: the result is valid and sorted, no larger, and every old node's mapped signal names something there.
use mathlib.Core.Path.{◌≡◌, refl, sym, ap, ap₂, ◌∙◌, subst}
use mathlib.Core.Logic.{◌≢◌, ◌⊎◌, inl, inr}
use Prim.Native.Nat.{ℕ, suc, ◌≤◌, ◌<◌}
use native.Mathlib.Nat.{le_refl, not-suc-le-zero}
use native.Mathlib.Omega.{arith}
use native.Mathlib.Decide.{ℕ_discrete, dec_lt}
use mathlib.Core.Bool.{Bool, true, false, not}
use mathlib.Core.List.{List, [], ◌∷◌, map}
use lib.ListN.{length, get_or, length-map}
use Rattle.laws.specs.Bools.{bit}
use Rattle.laws.specs.Lists.{All}
use Rattle.laws.proofs.Lists.{all_map, get_or_map_in}
use Rattle.laws.proofs.Choices.{by_bool, clash}
use Rattle.model.specs.Signal.{Ref, rzero, rnode, rinput, ref, is_inverted, flip, from_var, remap_order, remap_ref}
use Rattle.model.specs.Gate.{Gate, Net, is_dff, remap_gate, no_gate, gate_at, size, shaped, fanin, combs, is_topo_sorted, Valid}
use Rattle.model.specs.Normal.{Norm, copied, made}
use Rattle.model.specs.Network.{Work, dedup_node, dedup_combs, remap_dff, dedup_with, dedup_map}
use Rattle.shape.proofs.Named.{Here, here_zero, here_var, here_flip, here_more, here_node, all_remap, shaped_at, shaped_all, wired_ins, wired_outs, wired_all, sorted_ins, sorted_all}
use Rattle.shape.proofs.DedupNormal.{Closed, Form, NormLaw}
use Rattle.shape.proofs.DedupPlace.{Result, result_ext, Put, put_is}
use Rattle.shape.proofs.Sums.{list_map, length_total, fanin_total, comb_of, combs_total}
use Rattle.shape.proofs.DedupSweep.{shaped_remap, is_d, asked, up_to, up_to_start, sweep, due_total, due_most, up_to_turn, asked_comb, asked_cell, count, inputs, gates}

here_closed : (i n : ℕ) → Closed (Here i n)
here_closed i n = record { has_zero = here_zero i n; has_flip = λ s b h. here_flip i n s b h }

-- translating depends on the translation of what is named alone
remap_same : (τ σ : ℕ → ℕ) (i n s : ℕ) → Here i n s → ((m : ℕ) → m < n → τ m ≡ σ m) → remap_order τ s ≡ remap_order σ s
unfolding remap_order
remap_same τ σ i n s h f = go (ref s) refl
  where
    go : (r : Ref) → ref s ≡ r → remap_ref τ r s ≡ remap_ref σ r s
    go rzero e = refl
    go (rnode w) e = ap (λ x. flip x (is_inverted s)) (f w (here_node i n s w h e))
    go (rinput k) e = refl

pub remap_all : (τ σ : ℕ → ℕ) (i n : ℕ) (l : List ℕ) → All (Here i n) l → ((m : ℕ) → m < n → τ m ≡ σ m) → map (remap_order τ) l ≡ map (remap_order σ) l
remap_all τ σ i n [] h f = refl
remap_all τ σ i n (s ∷ l) h f = ap₂ ◌∷◌ (remap_same τ σ i n s h.0 f) (remap_all τ σ i n l h.1 f)

module _ (norm : Gate → Norm) (law : NormLaw norm) (N : Net) (ok : Valid N) (srt : is_topo_sorted N ≡ true) where
  -- handled before node k of a sweep: the flip-flops below k; then all of them, and the gates below k
  abbrev pub Done : Bool → ℕ → ℕ → Type 0
  Done true k n = (n < k) × (is_d norm N n ≡ true)
  Done false k n = (n < size N) × ((is_d norm N n ≡ true) ⊎ (n < k))

  done_comb : (b : Bool) (k n : ℕ) → Done b k n → is_d norm N n ≡ false → (n < k) × (n < size N)
  done_comb true k n x e = clash x.1 e
  done_comb false k n x e = elim x.1 [ inl d ↦ clash d e | inr l ↦ (l, x.0) ]

  -- one more node is handled
  done_turn : (b : Bool) (k n : ℕ) → is_d norm N k ≡ b → Done b (suc k) n → (Done b k n × (n ≢ k)) ⊎ (n ≡ k)
  done_turn true k n e x = elim (ℕ_discrete n k) [ yes q ↦ inr q | no q ↦ inl ((omega arith, x.1), q) ]
  done_turn false k n e x = elim (ℕ_discrete n k) [
    | yes q ↦ inr q
    | no q ↦ inl ((x.0, elim x.1 [ inl d ↦ inl d | inr l ↦ inr (omega arith) ]), q)
  ]

  done_skip : (b : Bool) (k n : ℕ) → is_d norm N k ≡ not b → Done b (suc k) n → Done b k n
  done_skip true k n e x = elim (ℕ_discrete n k) [ yes q ↦ clash x.1 (rw q e) | no q ↦ (omega arith, x.1) ]
  done_skip false k n e x = (x.0, elim x.1 [ inl d ↦ inl d | inr l ↦ elim (ℕ_discrete n k) [ yes q ↦ inl (rw q e) | no q ↦ inr (omega arith) ] ])

  -- a new gate, as node j: a combinational gate names what stands before it, a flip-flop still names old nodes
  pub record New (j : ℕ) (g : Gate) : Type 0 where
    pub is_shaped : shaped g ≡ true
    pub of_comb_lem : is_dff g ≡ false → All (Here N.inputs j) g.ins
    pub of_cell : is_dff g ≡ true → All (Here N.inputs (size N)) g.ins

  -- ---- the invariant of both sweeps

  pub record Inv (b : Bool) (k : ℕ) (d : Work) : Type 0 where
    -- a handled node's translation is what its lookup gave, and names something there
    pub done : (n : ℕ) → Done b k n → Result (asked norm N d.trans n) (d.trans n) d.news
    pub here : (n : ℕ) → Done b k n → Here N.inputs (length d.news) (d.trans n)
    pub news : (j : ℕ) → j < length d.news → New j (get_or d.news j no_gate)

  pub few : (b : Bool) (k : ℕ) → k ≤ size N → length (up_to norm N b k).news ≤ size N
  few b k h =
      let c = count norm N law ok.gates_shaped b k h in
      let m = due_most norm N (λ g. 1) b k h in
      let t = length_total N.nodes in
      omega arith

  new_more : (i j : ℕ) (g : Gate) → i ≤ j → New i g → New j g
  new_more i j g l w = record {
    is_shaped = w.is_shaped;
    of_comb_lem = λ e. all_map g.ins (λ s h. here_more N.inputs i j s l h) (w.of_comb_lem e);
    of_cell = w.of_cell;
  }

  -- what is looked up for node k is made of what is there
  record Looked (n : ℕ) (nm : Norm) : Type 0 where
    copy : (s : ℕ) → nm ≡ copied s → Here N.inputs n s
    node : (g : Gate) (z : Bool) → nm ≡ made g z → New n g

  looked : (b : Bool) (k : ℕ) (d : Work) → k < size N → is_d norm N k ≡ b → Inv b k d → Looked (length d.news) (asked norm N d.trans k)
  looked true k d h e I = elim (asked_cell norm N law ok.gates_shaped d.trans k h e) [
    | inl q ↦ record {
      copy = λ s r. let z : ◌≡◌ {A = ℕ} 0 1 = cc in absurd (omega arith);
      node = λ g z r. let s : gate_at N k ≡ g = cc in subst (New (length d.news)) s (record {
        is_shaped = shaped_at N.nodes ok.gates_shaped k h;
        of_comb_lem = λ c. clash e c;
        of_cell = λ c. wired_ins N ok.signals k h;
      });
    }
    | inr q ↦ record {
      copy = λ s r. let z : 0 ≡ s = cc in subst (Here N.inputs (length d.news)) z (here_zero N.inputs (length d.news));
      node = λ g z r. let z : ◌≡◌ {A = ℕ} 0 1 = cc in absurd (omega arith);
    }
  ]
  looked false k d h e I =
      let S = Here N.inputs (length d.news) in
      let f : Form S (length (gate_at N k).ins) (asked norm N d.trans k) =
      asked_comb norm N law ok.gates_shaped S (here_closed N.inputs (length d.news)) d.trans k h e
      (all_remap d.trans N.inputs k (length d.news) (gate_at N k).ins (λ v l. I.here v (omega arith, inr l)) (sorted_ins N ok.signals srt k h e)) in
      record {
        copy = f.copy;
        node = λ g z r. let t = f.gate g z r in record { is_shaped = t.is_shaped; of_comb_lem = λ c. t.signals; of_cell = λ c. clash c t.comb };
      }

  inv_turn : (b : Bool) (k : ℕ) (d : Work) → k < size N → is_d norm N k ≡ b → length (dedup_node (asked norm N d.trans k) k d).news ≤ 512
      → Inv b k d → Inv b (suc k) (dedup_node (asked norm N d.trans k) k d)
  inv_turn b k d h e small I = record { done = done'; here = here'; news = news' }
    where
      nm : Norm
      nm = asked norm N d.trans k

      d' : Work
      d' = dedup_node nm k d

      P : Put nm k d d'
      P = put_is nm k d

      L : Looked (length d.news) nm
      L = looked b k d h e I

      -- what was looked up before would be looked up again
      same_asked : (n : ℕ) → Done b (suc k) n → asked norm N d.trans n ≡ asked norm N d'.trans n
      same_asked n x = by_bool (is_d norm N n)
          (λ c. rw c)
          (λ c.
          let l = done_comb b (suc k) n x c in
          rw c (ap (λ m. norm (record { kind = (gate_at N n).kind; ins = m; table = (gate_at N n).table }))
          (remap_all d.trans d'.trans N.inputs n (gate_at N n).ins (sorted_ins N ok.signals srt n l.1 c)
          (λ m p. sym (P.other m (λ q. let l0 = l.0 in omega arith))))))

      done' : (n : ℕ) → Done b (suc k) n → Result (asked norm N d'.trans n) (d'.trans n) d'.news
      done' n x = go (done_turn b k n e x)
        where
          go : (Done b k n × (n ≢ k)) ⊎ (n ≡ k) → Result (asked norm N d'.trans n) (d'.trans n) d'.news
          go (inl y) =
              rw (← (same_asked n x), P.other n y.1)
              (result_ext (asked norm N d.trans n) (d.trans n) d.news d'.news P.ext (I.done n y.0))
          go (inr q) = rw (← (same_asked n x), q) P.result

      here_new : (m : Norm) → nm ≡ m → Result m (d'.trans k) d'.news → Here N.inputs (length d'.news) (d'.trans k)
      here_new (copied s) q r = rw r (here_more N.inputs (length d.news) (length d'.news) s P.ext.longer (L.copy s q))
      here_new (made g z) q r =
          rw r.2 (here_flip N.inputs (length d'.news) (from_var r.0) z (here_var N.inputs (length d'.news) r.0 r.1.inside small))

      here' : (n : ℕ) → Done b (suc k) n → Here N.inputs (length d'.news) (d'.trans n)
      here' n x = go (done_turn b k n e x)
        where
          go : (Done b k n × (n ≢ k)) ⊎ (n ≡ k) → Here N.inputs (length d'.news) (d'.trans n)
          go (inl y) = rw (P.other n y.1) (here_more N.inputs (length d.news) (length d'.news) (d.trans n) P.ext.longer (I.here n y.0))
          go (inr q) = rw q (here_new nm refl P.result)

      news' : (j : ℕ) → j < length d'.news → New j (get_or d'.news j no_gate)
      news' j l = elim (dec_lt j (length d.news)) [
        | yes y ↦ rw (P.ext.same j y) (I.news j y)
        | no y ↦ (let y' : length d.news ≤ j = omega arith in
            let r = P.only j y' l in
            rw r.3 (new_more (length d.news) j r.0 y' (L.node r.0 r.1 r.2)))
      ]

  pub inv : (b : Bool) (k : ℕ) → k ≤ size N → Inv b k (up_to norm N b k)
  inv = sweep norm N Inv start turn skip over
    where
      none : (j : ℕ) {X : Type 0} → j < length (up_to norm N true 0).news → X
      none j l = absurd (not-suc-le-zero (subst (λ (m : List Gate). j < length m) (up_to_start norm N) l))

      start : Inv true 0 (up_to norm N true 0)
      start = record { done = λ n x. absurd (not-suc-le-zero x.0); here = λ n x. absurd (not-suc-le-zero x.0); news = λ j l. none j l }

      turn : (b : Bool) (k : ℕ) → k < size N → is_d norm N k ≡ b → Inv b k (up_to norm N b k)
          → Inv b (suc k) (dedup_node (asked norm N (up_to norm N b k).trans k) k (up_to norm N b k))
      turn b k h e I =
          let s = few b (suc k) h in
          let t : length (up_to norm N b (suc k)).news ≤ 512 = (let l = ok.nodes_few in omega arith) in
          inv_turn b k (up_to norm N b k) h e (subst (λ (d : Work). length d.news ≤ 512) (up_to_turn norm N b k e) t) I

      skip : (b : Bool) (k : ℕ) → k < size N → is_d norm N k ≡ not b → Inv b k (up_to norm N b k) → Inv b (suc k) (up_to norm N b k)
      skip b k h e I = record { done = λ n x. I.done n (done_skip b k n e x); here = λ n x. I.here n (done_skip b k n e x); news = I.news }

      over : Inv true (size N) (up_to norm N true (size N)) → Inv false 0 (up_to norm N true (size N))
      over I = record { done = λ n x. I.done n (up n x); here = λ n x. I.here n (up n x); news = I.news }
        where
          up : (n : ℕ) → Done false 0 n → Done true (size N) n
          up n x = (x.0, elim x.1 [ inl d ↦ d | inr l ↦ absurd (not-suc-le-zero l) ])

  -- ---- the whole

  abbrev pub W : Work
  W = dedup_combs norm N (size N)

  abbrev pub result : Net
  result = dedup_with norm N

  pub last : Inv false (size N) W
  last = inv false (size N) (le_refl _)

  pub result_size : size result ≡ length W.news
  unfolding dedup_with
  result_size = length-map W.news (remap_dff norm N W.trans)

  pub result_gate : (j : ℕ) → j < length W.news → gate_at result j ≡ remap_dff norm N W.trans (get_or W.news j no_gate)
  unfolding dedup_with
  result_gate j h = get_or_map_in (remap_dff norm N W.trans) W.news no_gate no_gate j h

  pub result_outs : result.outs ≡ map (remap_order W.trans) N.outs
  unfolding dedup_with
  result_outs = refl

  pub result_inputs : result.inputs ≡ N.inputs
  unfolding dedup_with
  result_inputs = refl

  pub result_nodes : result.nodes ≡ map (remap_dff norm N W.trans) W.news
  unfolding dedup_with
  result_nodes = refl

  pub map_is : dedup_map norm N ≡ W.trans
  unfolding dedup_map
  map_is = refl

  -- the last turn keeps kinds, shapes and numbers of inputs
  pub turned_comb : (τ : ℕ → ℕ) (g : Gate) → is_dff g ≡ false → remap_dff norm N τ g ≡ g
  turned_comb τ g e = rw e

  pub turned_cell : (τ : ℕ → ℕ) (g : Gate) → is_dff g ≡ true → remap_dff norm N τ g ≡ remap_gate τ g
  turned_cell τ g e = rw e

  pub turned_dff : (τ : ℕ → ℕ) (g : Gate) → is_dff (remap_dff norm N τ g) ≡ is_dff g
  turned_dff τ g = by_bool (is_dff g) (λ e. ap is_dff (turned_cell τ g e)) (λ e. ap is_dff (turned_comb τ g e))

  turned_shaped : (τ : ℕ → ℕ) (g : Gate) → shaped (remap_dff norm N τ g) ≡ shaped g
  turned_shaped τ g = by_bool (is_dff g) (λ e. ap shaped (turned_cell τ g e) ∙ shaped_remap τ g) (λ e. ap shaped (turned_comb τ g e))

  turned_length : (τ : ℕ → ℕ) (g : Gate) → length (remap_dff norm N τ g).ins ≡ length g.ins
  turned_length τ g = by_bool (is_dff g)
      (λ e. ap (λ (h : Gate). length h.ins) (turned_cell τ g e) ∙ length-map g.ins (remap_order τ))
      (λ e. ap (λ (h : Gate). length h.ins) (turned_comb τ g e))

  pub dedup_size : size result ≤ size N
  dedup_size = let h = few false (size N) (le_refl _) in omega (arith, result_size)

  pub dedup_fanin : fanin result.nodes ≤ fanin N.nodes
  dedup_fanin =
      let w : Gate → ℕ = λ g. length g.ins in
      let a = list_map w (remap_dff norm N W.trans) w (turned_length W.trans) W.news in
      let b = inputs norm N law ok.gates_shaped false (size N) (le_refl _) in
      let c = due_total norm N w in
      rw (fanin_total result.nodes, fanin_total N.nodes, result_nodes) (omega (arith, fanin_total W.news))

  -- NO MORE COMBINATIONAL GATES than before
  pub dedup_combs_lem : combs result.nodes ≤ combs N.nodes
  dedup_combs_lem =
      let a = list_map comb_of (remap_dff norm N W.trans) comb_of (λ g. ap (λ b. bit (not b)) (turned_dff W.trans g)) W.news in
      let b = gates norm N law ok.gates_shaped false (size N) (le_refl _) in
      let c = due_total norm N comb_of in
      rw (combs_total result.nodes, combs_total N.nodes, result_nodes) (omega (arith, combs_total W.news))

  -- THE MAPPING: every old node's signal names something that is there
  pub dedup_mapped : (v : ℕ) → v < size N → Here result.inputs (size result) (dedup_map norm N v)
  dedup_mapped v h = rw (result_inputs, result_size, map_is) (last.here v (h, inr h))

  trans_here : (v : ℕ) → v < size N → Here N.inputs (size result) (W.trans v)
  trans_here v h = rw result_size (last.here v (h, inr h))

  -- a combinational gate of the result names what stands before it
  gate_below : (j : ℕ) → j < size result → is_dff (gate_at result j) ≡ false → All (Here N.inputs j) (gate_at result j).ins
  gate_below j h e =
      let l : j < length W.news = omega (arith, result_size) in
      let g = get_or W.news j no_gate in
      let c : is_dff g ≡ false = sym (turned_dff W.trans g) ∙ ap is_dff (sym (result_gate j l)) ∙ e in
      subst (λ (x : Gate). All (Here N.inputs j) x.ins) (sym (result_gate j l ∙ turned_comb W.trans g c)) ((last.news j l).of_comb_lem c)

  cell_here : (j : ℕ) → j < size result → is_dff (gate_at result j) ≡ true → All (Here N.inputs (size result)) (gate_at result j).ins
  cell_here j h e =
      let l : j < length W.news = omega (arith, result_size) in
      let g = get_or W.news j no_gate in
      let c : is_dff g ≡ true = sym (turned_dff W.trans g) ∙ ap is_dff (sym (result_gate j l)) ∙ e in
      subst (λ (x : Gate). All (Here N.inputs (size result)) x.ins) (sym (result_gate j l ∙ turned_cell W.trans g c))
      (all_remap W.trans N.inputs (size N) (size result) g.ins trans_here ((last.news j l).of_cell c))

  -- SORTED
  pub dedup_sorted : is_topo_sorted result ≡ true
  dedup_sorted = sorted_all result (λ v h e. rw result_inputs (gate_below v h e))

  -- VALID
  pub dedup_valid : Valid result
  dedup_valid = record {
    inputs_few = rw result_inputs ok.inputs_few;
    nodes_few = (let a = dedup_size in let b = ok.nodes_few in omega arith);
    outs_few = rw (result_outs, length-map N.outs (remap_order W.trans)) ok.outs_few;
    gates_shaped = shaped_all result.nodes (λ v h.
        let l : v < length W.news = omega (arith, result_size) in
        ap shaped (result_gate v l) ∙ turned_shaped W.trans (get_or W.news v no_gate) ∙ (last.news v l).is_shaped);
    ins_few = (let a = dedup_fanin in let b = ok.ins_few in omega arith);
    signals = wired_all result
        (λ v h. rw result_inputs (by_bool (is_dff (gate_at result v))
        (λ e. cell_here v h e)
        (λ e. all_map (gate_at result v).ins (λ s x. here_more N.inputs v (size result) s (omega arith) x) (gate_below v h e))))
        (rw (result_inputs, result_outs) (all_remap W.trans N.inputs (size N) (size result) N.outs trans_here (wired_outs N ok.signals)));
  }
