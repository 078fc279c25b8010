-- The one simulation lemma that every pass uses: what a pass owes of each node, and that the runs are then the same.
use mathlib.Core.Path.{◌≡◌, refl, sym, ap, ap₂, ◌∙◌}
use Prim.Native.Nat.{ℕ, ◌<◌}
use native.Mathlib.Omega.{arith}
use mathlib.Core.Bool.{Bool, true, false}
use mathlib.Core.List.{List, [], ◌∷◌, map}
use Rattle.kinds.specs.Kinds.{kind_of}
use Rattle.laws.proofs.Choices.{by_bool}
use Rattle.model.specs.Signal.{rzero, is_inverted, ref, from_var, remap_order}
use Rattle.model.specs.Gate.{Gate, Net, is_dff, remap_gate, gate_at, size}
use Rattle.model.specs.Evaluate.{at, value_of, signal_value, gate_value, next_state, Consistent, outputs, next, Eval, Solves, run_by, after_by, all_zero}
use Rattle.model.proofs.Names.{In, values_cong}
use Rattle.model.proofs.Forward.{shows_dff, shows_comb}
use Rattle.shape.specs.Forms.{Ranked}
use Rattle.meaning.proofs.Values.{value_zero}
use Rattle.meaning.proofs.Valuations.{value_node, pull, values_remap, ConsistentOn, agree}

-- ---- what a pass owes

-- where flip-flop g of the old network goes: to a flip-flop with the translated inputs, or, tied to zero, to the constant
pub data CellTo (N' : Net) (τ : ℕ → ℕ) (g : Gate) (s : ℕ) : Type 0 where
  kept : (j : ℕ) → j < size N' → s ≡ from_var j → is_dff (gate_at N' j) ≡ true → (gate_at N' j).ins ≡ map (remap_order τ) g.ins → CellTo N' τ g s
  tied : ref s ≡ rzero → is_inverted s ≡ false → ((i v : ℕ → Bool) → next_state (map (signal_value i v) g.ins) false ≡ false) → CellTo N' τ g s

-- N' carries the nodes K of N: node n of N is the signal τ n of N'
pub record Carries (N N' : Net) (τ : ℕ → ℕ) (K : ℕ → Type 0) : Type 0 where
  pub small : size N' < 1073741824
  pub inside : (n : ℕ) → K n → n < size N
  -- a translated combinational gate agrees with its translated inputs, in every valuation of the new network
  pub comb : (n : ℕ) → K n → is_dff (gate_at N n) ≡ false → (i st' v' : ℕ → Bool) → Consistent N' i st' v'
      → signal_value i v' (τ n) ≡ gate_value i v' (remap_gate τ (gate_at N n))
  pub cell : (n : ℕ) → K n → is_dff (gate_at N n) ≡ true → CellTo N' τ (gate_at N n) (τ n)
  pub cell_ins : (n : ℕ) → K n → is_dff (gate_at N n) ≡ true → In K (gate_at N n).ins
  pub outs : N'.outs ≡ map (remap_order τ) N.outs
  pub outs_in : In K N.outs

-- states that agree: each flip-flop's is carried by its translated signal
abbrev pub Related : (N : Net) (τ : ℕ → ℕ) (K : ℕ → Type 0) (st st' : ℕ → Bool) → Type 0
Related N τ K st st' = (n : ℕ) → K n → is_dff (gate_at N n) ≡ true → signal_value all_zero st' (τ n) ≡ st n

pub gate_remap : (i v : ℕ → Bool) (τ : ℕ → ℕ) (g : Gate) → gate_value i v (remap_gate τ g) ≡ gate_value i (pull i v τ) g
unfolding gate_value
gate_remap i v τ g = ap (λ l. value_of (kind_of g.kind) l g.table) (values_remap i v τ g.ins)

pub next_dff : (N : Net) (i v st : ℕ → Bool) (n : ℕ) → is_dff (gate_at N n) ≡ true
    → next N i v st n ≡ next_state (map (signal_value i v) (gate_at N n).ins) (st n)
unfolding next
next_dff N i v st n e = rw e

module _ (N N' : Net) (τ : ℕ → ℕ) (K : ℕ → Type 0) (C : Carries N N' τ K) (R : Ranked N K) where
  node_val : (i v : ℕ → Bool) (j s : ℕ) → j < size N' → s ≡ from_var j → signal_value i v s ≡ v j
  node_val i v j s h e = ap (signal_value i v) e ∙ value_node i v j (let l = C.small in omega arith)

  pub related_zero : Related N τ K all_zero all_zero
  related_zero n k e = go (C.cell n k e)
    where
      go : CellTo N' τ (gate_at N n) (τ n) → signal_value all_zero all_zero (τ n) ≡ false
      go (kept j h q d ins) = node_val all_zero all_zero j (τ n) h q
      go (tied r f t) = value_zero all_zero all_zero (τ n) r f

  -- a flip-flop's translated signal shows its state in every valuation
  cell_val : (i st st' v' : ℕ → Bool) → Consistent N' i st' v' → Related N τ K st st'
      → (n : ℕ) → K n → is_dff (gate_at N n) ≡ true → signal_value i v' (τ n) ≡ st n
  cell_val i st st' v' c r n k e = go (C.cell n k e)
    where
      go : CellTo N' τ (gate_at N n) (τ n) → signal_value i v' (τ n) ≡ st n
      go (kept j h q d ins) =
          node_val i v' j (τ n) h q ∙ c j h ∙ shows_dff i v' (gate_at N' j) (st' j) d ∙ sym (node_val all_zero st' j (τ n) h q) ∙ r n k e
      go (tied z f t) = value_zero i v' (τ n) z f ∙ sym (value_zero all_zero st' (τ n) z f) ∙ r n k e

  pub pull_consistent : (i st st' v' : ℕ → Bool) → Consistent N' i st' v' → Related N τ K st st' → ConsistentOn K N i st (pull i v' τ)
  pull_consistent i st st' v' c r n k =
      by_bool (is_dff (gate_at N n))
      (λ e. cell_val i st st' v' c r n k e ∙ sym (shows_dff i (pull i v' τ) (gate_at N n) (st n) e))
      (λ e. C.comb n k e i st' v' c ∙ gate_remap i v' τ (gate_at N n) ∙ sym (shows_comb i (pull i v' τ) (gate_at N n) (st n) e))

  -- ONE CYCLE: every kept node's value is carried by its translated signal
  module _ (i st st' v v' : ℕ → Bool) (cv : Consistent N i st v) (cv' : Consistent N' i st' v') (r : Related N τ K st st') where
    pub carried : (n : ℕ) → K n → signal_value i v' (τ n) ≡ v n
    carried n k = agree N K R i st (pull i v' τ) v (pull_consistent i st st' v' cv' r) (λ m km. cv m (C.inside m km)) n k

    values : (l : List ℕ) → In K l → map (signal_value i v') (map (remap_order τ) l) ≡ map (signal_value i v) l
    values l inK = values_remap i v' τ l ∙ values_cong i (pull i v' τ) v K l inK carried

    pub same_outputs : outputs N i v ≡ outputs N' i v'
    unfolding outputs
    same_outputs = sym (ap (map (signal_value i v')) C.outs ∙ values N.outs C.outs_in)

    pub related_next : Related N τ K (next N i v st) (next N' i v' st')
    related_next n k e = go (C.cell n k e)
      where
        go : CellTo N' τ (gate_at N n) (τ n) → signal_value all_zero (next N' i v' st') (τ n) ≡ next N i v st n
        go (kept j h q d ins) =
            node_val all_zero (next N' i v' st') j (τ n) h q
            ∙ next_dff N' i v' st' j d
            ∙ ap₂ next_state (ap (map (signal_value i v')) ins ∙ values (gate_at N n).ins (C.cell_ins n k e)) (sym (node_val all_zero st' j (τ n) h q) ∙ r n k e)
            ∙ sym (next_dff N i v st n e)
        go (tied z f t) =
            value_zero all_zero (next N' i v' st') (τ n) z f
            ∙ sym (next_dff N i v st n e
            ∙ ap (next_state (map (signal_value i v) (gate_at N n).ins)) (sym (r n k e) ∙ value_zero all_zero st' (τ n) z f)
            ∙ t i v)

  -- RUNS, by valuations of both networks
  module _ (ev ev' : Eval) (s : Solves N ev) (s' : Solves N' ev') where
    pub same_run : (is : List (List Bool)) (st st' : ℕ → Bool) → Related N τ K st st' → run_by N ev st is ≡ run_by N' ev' st' is
    same_run [] st st' r = refl
    same_run (i ∷ is) st st' r =
        ap₂ ◌∷◌ (same_outputs (at i) st st' _ _ (s (at i) st) (s' (at i) st') r)
        (same_run is _ _ (related_next (at i) st st' _ _ (s (at i) st) (s' (at i) st') r))

    pub related_after : (is : List (List Bool)) (st st' : ℕ → Bool) → Related N τ K st st' → Related N τ K (after_by N ev st is) (after_by N' ev' st' is)
    related_after [] st st' r = r
    related_after (i ∷ is) st st' r = related_after is _ _ (related_next (at i) st st' _ _ (s (at i) st) (s' (at i) st') r)

    -- from zero: the same outputs in every cycle
    pub same_from_zero : (is : List (List Bool)) → run_by N ev all_zero is ≡ run_by N' ev' all_zero is
    same_from_zero is = same_run is all_zero all_zero related_zero

    -- what the mapping means: in the cycle after any inputs, from related states, the translated signal carries the node's value
    pub probe : (is : List (List Bool)) (i : List Bool) (st st' : ℕ → Bool) → Related N τ K st st' → (n : ℕ) → K n
        → signal_value (at i) (ev' (at i) (after_by N' ev' st' is)) (τ n) ≡ ev (at i) (after_by N ev st is) n
    probe is i st st' r n k =
        carried (at i) (after_by N ev st is) (after_by N' ev' st' is) _ _ (s (at i) _) (s' (at i) _) (related_after is st st' r) n k

    pub probe_from_zero : (is : List (List Bool)) (i : List Bool) (n : ℕ) → K n
        → signal_value (at i) (ev' (at i) (after_by N' ev' all_zero is)) (τ n) ≡ ev (at i) (after_by N ev all_zero is) n
    probe_from_zero is i n k = probe is i all_zero all_zero related_zero n k
