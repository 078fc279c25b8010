-- dedup and canonical: the same outputs in every cycle from zero, and the mapped signal carries each old node's value.
use mathlib.Core.Path.{◌≡◌, refl, sym, ap, ◌∙◌, subst}
use mathlib.Core.Logic.{◌⊎◌, inl, inr}
use Prim.Native.Nat.{ℕ, ◌<◌}
use native.Mathlib.Omega.{arith}
use mathlib.Core.Bool.{Bool, true, false}
use mathlib.Core.List.{List}
use Rattle.laws.specs.Bools.{xor}
use Rattle.model.specs.Signal.{ref, is_inverted, from_var}
use Rattle.model.specs.Gate.{Gate, Net, is_dff, remap_gate, gate_at, size, shaped, is_topo_sorted, Valid}
use Rattle.model.specs.Evaluate.{at, signal_value, gate_value, shows, Consistent, evaluate, after, all_zero, run_from_zero}
use Rattle.model.specs.Normal.{Norm, copied, made, make_canonical, norm_value}
use Rattle.model.specs.Network.{Work, remap_dff, dedup_with, dedup_map, as_is, deduplicate, canonical}
use Rattle.model.proofs.Words.{flip_false, zero_ref, zero_inv}
use Rattle.model.proofs.Names.{sorted, wired_ins, wired_out}
use Rattle.model.proofs.Forward.{shows_comb, evaluate_sorted}
use Rattle.shape.proofs.Named.{shaped_at}
use Rattle.shape.proofs.Sort.{sorted_ranked}
use Rattle.shape.proofs.DedupNormal.{NormLaw, as_is_law, canonical_law}
use Rattle.shape.proofs.DedupPlace.{Result}
use Rattle.shape.proofs.DedupSweep.{asked, asked_cell, asked_kind}
use Rattle.shape.proofs.Dedup.{W, last, result_size, result_gate, result_outs, map_is, turned_comb, turned_cell, dedup_size, dedup_sorted}
use Rattle.meaning.proofs.Values.{value_flip}
use Rattle.meaning.proofs.GateValues.{value_of_canonical, Stuck, flip_flop_of_canonical}
use Rattle.meaning.proofs.Valuations.{value_node}
use Rattle.meaning.proofs.Simulation.{CellTo, kept, tied, Carries, same_from_zero, probe_from_zero}

-- what a normalization must be for dedup to keep values: a gate's value stays, and a flip-flop that becomes zero never left it
pub record NormValues (norm : Gate → Norm) : Type 0 where
  pub of_comb_lem : (g : Gate) → is_dff g ≡ false → (i v : ℕ → Bool) → norm_value i v (norm g) ≡ gate_value i v g
  pub of_cell : (g : Gate) → shaped g ≡ true → is_dff g ≡ true → norm g ≡ copied 0 → Stuck g.ins

no_copy : {g : Gate} {z : Bool} {s : ℕ} {X : Type 0} → made g z ≡ copied s → X
no_copy e = let z : ◌≡◌ {A = ℕ} 0 1 = cc in absurd (omega arith)

pub as_is_values : NormValues as_is
as_is_values = record { of_comb_lem = λ g e i v. refl; of_cell = λ g s d q. no_copy q }

pub canonical_values : NormValues make_canonical
canonical_values = record {
  of_comb_lem = λ g e i v. value_of_canonical i v g e;
  of_cell = λ g s d q. stuck g q (flip_flop_of_canonical g s d);
}
  where
    stuck : (g : Gate) → make_canonical g ≡ copied 0 → (make_canonical g ≡ made g false) ⊎ ((make_canonical g ≡ copied 0) × Stuck g.ins) → Stuck g.ins
    stuck g q (inl r) = no_copy (sym r ∙ q)
    stuck g q (inr r) = r.1

module _ (norm : Gate → Norm) (law : NormLaw norm) (vals : NormValues norm) (N : Net) (ok : Valid N) (srt : is_topo_sorted N ≡ true) where
  abbrev N' : Net
  N' = dedup_with norm N

  abbrev d : Work
  d = W norm law N ok srt

  abbrev τ : ℕ → ℕ
  τ = d.trans

  small : size N' < 1073741823
  small = let a = dedup_size norm law N ok srt in let b = ok.nodes_few in omega arith

  -- a looked-up gate's signal has its value
  node_value : (i st v : ℕ → Bool) → Consistent N' i st v → (nm : Norm) (t : ℕ) → ((g : Gate) (z : Bool) → nm ≡ made g z → is_dff g ≡ false)
      → Result nm t d.news → signal_value i v t ≡ norm_value i v nm
  node_value i st v c (copied s) t k r = ap (signal_value i v) r
  node_value i st v c (made g z) t k r =
      let j = r.0 in
      let l = r.1.inside in
      let e = k g z refl in
      let s = result_size norm law N ok srt in
      let same : gate_at N' j ≡ g =
      result_gate norm law N ok srt j l ∙ ap (remap_dff norm N τ) r.1.there ∙ turned_comb norm law N ok srt τ g e in
      ap (signal_value i v) r.2
      ∙ value_flip i v (from_var j) z
      ∙ ap (xor z)
      (value_node i v j (omega (arith, small))
      ∙ c j (omega arith)
      ∙ ap (λ (x : Gate). shows i v x (st j)) same
      ∙ shows_comb i v g (st j) e)

  comb_value : (n : ℕ) → n < size N → is_dff (gate_at N n) ≡ false → (i st v : ℕ → Bool) → Consistent N' i st v
      → signal_value i v (τ n) ≡ gate_value i v (remap_gate τ (gate_at N n))
  comb_value n h e i st v c =
      let g = remap_gate τ (gate_at N n) in
      let q : asked norm N τ n ≡ norm g = rw e in
      let r : Result (norm g) (τ n) d.news = subst (λ (x : Norm). Result x (τ n) d.news) q ((last norm law N ok srt).done n (h, inr h)) in
      node_value i st v c (norm g) (τ n) (λ f z p. asked_kind norm N law ok.gates_shaped τ n h f z (q ∙ p) ∙ e) r
      ∙ vals.of_comb_lem g e i v

  cell_to : (n : ℕ) → n < size N → is_dff (gate_at N n) ≡ true → (asked norm N τ n ≡ made (gate_at N n) false) ⊎ (asked norm N τ n ≡ copied 0)
      → CellTo N' τ (gate_at N n) (τ n)
  cell_to n h e (inl q) =
      let r : Result (made (gate_at N n) false) (τ n) d.news = subst (λ (x : Norm). Result x (τ n) d.news) q ((last norm law N ok srt).done n (h, inr h)) in
      let j = r.0 in
      let l = r.1.inside in
      let s = result_size norm law N ok srt in
      let g : gate_at N' j ≡ remap_gate τ (gate_at N n) =
      result_gate norm law N ok srt j l ∙ ap (remap_dff norm N τ) r.1.there ∙ turned_cell norm law N ok srt τ (gate_at N n) e in
      kept j (omega arith) (r.2 ∙ flip_false (from_var j)) (ap is_dff g ∙ e) (ap (λ (x : Gate). x.ins) g)
  cell_to n h e (inr q) =
      let r : Result (copied 0) (τ n) d.news = subst (λ (x : Norm). Result x (τ n) d.news) q ((last norm law N ok srt).done n (h, inr h)) in
      let p : asked norm N τ n ≡ norm (gate_at N n) = rw e in
      tied (ap ref r ∙ zero_ref) (ap is_inverted r ∙ zero_inv) (vals.of_cell (gate_at N n) (shaped_at N.nodes ok.gates_shaped n h) e (sym p ∙ q))

  pub dedup_carries : Carries N N' τ (λ n. n < size N)
  dedup_carries = record {
    small = (let s = small in omega arith);
    inside = λ n h. h;
    comb = comb_value;
    cell = λ n h e. cell_to n h e (asked_cell norm N law ok.gates_shaped τ n h e);
    cell_ins = λ n h e. wired_ins N ok.signals n h;
    outs = result_outs norm law N ok srt;
    outs_in = wired_out N ok.signals;
  }

  -- THE SAME OUTPUTS in every cycle, from zero
  pub dedup_runs : (is : List (List Bool)) → run_from_zero N is ≡ run_from_zero N' is
  dedup_runs is =
      same_from_zero N N' τ (λ n. n < size N) dedup_carries (sorted_ranked N (sorted N srt)) (evaluate N) (evaluate N')
      (evaluate_sorted N srt) (evaluate_sorted N' (dedup_sorted norm law N ok srt)) is

  -- THE MAPPING: in the cycle after any inputs, an old node's value is its mapped signal's
  pub dedup_probe : (is : List (List Bool)) (i : List Bool) (n : ℕ) → n < size N
      → signal_value (at i) (evaluate N' (at i) (after N' all_zero is)) (dedup_map norm N n) ≡ evaluate N (at i) (after N all_zero is) n
  dedup_probe is i n h =
      ap (λ (σ : ℕ → ℕ). signal_value (at i) (evaluate N' (at i) (after N' all_zero is)) (σ n)) (map_is norm law N ok srt)
      ∙ probe_from_zero N N' τ (λ n. n < size N) dedup_carries (sorted_ranked N (sorted N srt)) (evaluate N) (evaluate N')
      (evaluate_sorted N srt) (evaluate_sorted N' (dedup_sorted norm law N ok srt)) is i n h

-- ---- the two entries

module _ (N : Net) (ok : Valid N) (srt : is_topo_sorted N ≡ true) where
  pub deduplicate_runs : (is : List (List Bool)) → run_from_zero N is ≡ run_from_zero (deduplicate N) is
  deduplicate_runs = dedup_runs as_is as_is_law as_is_values N ok srt

  pub canonical_runs : (is : List (List Bool)) → run_from_zero N is ≡ run_from_zero (canonical N) is
  canonical_runs = dedup_runs make_canonical canonical_law canonical_values N ok srt

  pub deduplicate_probe : (is : List (List Bool)) (i : List Bool) (n : ℕ) → n < size N
      → signal_value (at i) (evaluate (deduplicate N) (at i) (after (deduplicate N) all_zero is)) (dedup_map as_is N n) ≡ evaluate N (at i) (after N all_zero is) n
  deduplicate_probe = dedup_probe as_is as_is_law as_is_values N ok srt

  pub canonical_probe : (is : List (List Bool)) (i : List Bool) (n : ℕ) → n < size N
      → signal_value (at i) (evaluate (canonical N) (at i) (after (canonical N) all_zero is)) (dedup_map make_canonical N n) ≡ evaluate N (at i) (after N all_zero is) n
  canonical_probe = dedup_probe make_canonical canonical_law canonical_values N ok srt
