-- The two sweeps of dedup, flip-flops and then gates, as one: an induction over both, and what the new nodes weigh.
use mathlib.Core.Path.{◌≡◌, refl, sym, ap, ◌∙◌, subst}
use mathlib.Core.Logic.{◌⊎◌, inl, inr}
use Prim.Native.Nat.{ℕ, zero, suc, ◌+◌, ◌≤◌, ◌<◌}
use native.Mathlib.Nat.{le_refl, not-suc-le-zero}
use native.Mathlib.Omega.{arith}
use native.Mathlib.Decide.{ℕ_discrete, dec_lt}
use mathlib.Core.Bool.{Bool, true, false, not, cond}
use mathlib.Core.List.{List, [], ◌∷◌, map}
use lib.ListN.{length, get_or, length-map}
use Rattle.laws.specs.Lists.{All}
use Rattle.laws.proofs.Choices.{by_bool}
use Rattle.model.specs.Signal.{from_var, remap_order}
use Rattle.model.specs.Gate.{Gate, Net, is_dff, remap_gate, no_gate, gate_at, size, shaped, all_shaped, fanin, combs}
use Rattle.model.specs.Normal.{Norm, copied, made}
use Rattle.model.specs.Network.{sum_to, Work, dedup_node, dedup_dffs, dedup_combs}
use Rattle.shape.proofs.Sums.{sum_list, list_append, list_sum, comb_of, combs_total}
pub use Rattle.shape.proofs.Sums.{fanin_total, length_total}
use Rattle.shape.proofs.Named.{shaped_at}
pub use Rattle.shape.proofs.Named.{shaped_remap}
use Rattle.shape.proofs.DedupNormal.{Closed, Form, NormLaw, made_few, made_dff}
use Rattle.shape.proofs.DedupPlace.{Ext, ext_refl, ext_trans, put_is, Grown, same, more, grown}

sum_mono : (f : ℕ → ℕ) (j k : ℕ) → j ≤ k → sum_to f j ≤ sum_to f k
sum_mono f j zero h = let e : j ≡ 0 = omega arith in rw e (le_refl _)
sum_mono f j (suc k) h = elim (ℕ_discrete j (suc k)) [
  | yes e ↦ rw e (le_refl _)
  | no e ↦ let m = sum_mono f j k (omega arith) in omega arith
]

module _ (norm : Gate → Norm) (N : Net) where
  abbrev pub is_d : ℕ → Bool
  is_d n = is_dff (gate_at N n)

  -- the gate that is looked up for node n: a flip-flop by its old signals, a gate by its translated ones
  abbrev pub asked_gate : (ℕ → ℕ) → ℕ → Gate
  asked_gate τ n = cond (is_d n) (gate_at N n) (remap_gate τ (gate_at N n))

  abbrev pub asked : (ℕ → ℕ) → ℕ → Norm
  asked τ n = norm (asked_gate τ n)

  -- before node k, in the sweep over flip-flops or in that over gates
  abbrev pub up_to : Bool → ℕ → Work
  up_to true k = dedup_dffs norm N k
  up_to false k = dedup_combs norm N k

  pub up_to_turn : (b : Bool) (k : ℕ) → is_d k ≡ b → up_to b (suc k) ≡ dedup_node (asked (up_to b k).trans k) k (up_to b k)
  unfolding dedup_dffs dedup_combs
  up_to_turn true k e = rw e
  up_to_turn false k e = rw e

  pub up_to_skip : (b : Bool) (k : ℕ) → is_d k ≡ not b → up_to b (suc k) ≡ up_to b k
  unfolding dedup_dffs dedup_combs
  up_to_skip true k e = rw e
  up_to_skip false k e = rw e

  pub up_to_over : up_to false 0 ≡ up_to true (size N)
  unfolding dedup_combs
  up_to_over = refl

  pub up_to_start : (up_to true 0).news ≡ []
  unfolding dedup_dffs
  up_to_start = refl

  pub up_to_trans : (v : ℕ) → (up_to true 0).trans v ≡ from_var v
  unfolding dedup_dffs
  up_to_trans v = refl

  flipped : (a b : Bool) → (a ≡ b) ⊎ (a ≡ not b)
  flipped true true = inl refl
  flipped true false = inr refl
  flipped false true = inr refl
  flipped false false = inl refl

  -- what holds at the start, and through each node, holds after both sweeps
  module _ {ℓ} (P : Bool → ℕ → Work → Type ℓ)
      (start : P true 0 (up_to true 0))
      (turn : (b : Bool) (k : ℕ) → k < size N → is_d k ≡ b → P b k (up_to b k) → P b (suc k) (dedup_node (asked (up_to b k).trans k) k (up_to b k)))
      (skip : (b : Bool) (k : ℕ) → k < size N → is_d k ≡ not b → P b k (up_to b k) → P b (suc k) (up_to b k))
      (over : P true (size N) (up_to true (size N)) → P false 0 (up_to true (size N))) where
    one : (b : Bool) → P b 0 (up_to b 0) → (k : ℕ) → k ≤ size N → P b k (up_to b k)
    one b z zero h = z
    one b z (suc k) h =
        let p = one b z k (omega arith) in
        go (flipped (is_d k) b) p
      where
        go : (is_d k ≡ b) ⊎ (is_d k ≡ not b) → P b k (up_to b k) → P b (suc k) (up_to b (suc k))
        go (inl e) p = subst (P b (suc k)) (sym (up_to_turn b k e)) (turn b k h e p)
        go (inr e) p = subst (P b (suc k)) (sym (up_to_skip b k e)) (skip b k h e p)

    pub sweep : (b : Bool) (k : ℕ) → k ≤ size N → P b k (up_to b k)
    sweep true k h = one true start k h
    sweep false k h = one false (subst (P false 0) (sym up_to_over) (over (one true start (size N) (le_refl _)))) k h

  -- ---- what the nodes that were looked up weigh

  module _ (w : Gate → ℕ) where
    abbrev of_dff : ℕ → ℕ
    of_dff i = cond (is_d i) (w (gate_at N i)) 0

    abbrev of_comb : ℕ → ℕ
    of_comb i = cond (is_d i) 0 (w (gate_at N i))

    abbrev pub due : Bool → ℕ → ℕ
    due true k = sum_to of_dff k
    due false k = sum_to of_dff (size N) + sum_to of_comb k

    both : (k : ℕ) → sum_to of_dff k + sum_to of_comb k ≡ sum_to (λ i. w (gate_at N i)) k
    both zero = refl
    both (suc k) = let e = both k in by_bool (is_d k) (λ d. rw d (omega arith)) (λ d. rw d (omega arith))

    pub due_total : due false (size N) ≡ sum_list w N.nodes
    due_total = both (size N) ∙ list_sum w N.nodes no_gate

    due_turn : (b : Bool) (k : ℕ) → is_d k ≡ b → due b (suc k) ≡ due b k + w (gate_at N k)
    due_turn true k e = rw e
    due_turn false k e = rw e (omega arith)

    due_skip : (b : Bool) (k : ℕ) → is_d k ≡ not b → due b (suc k) ≡ due b k
    due_skip true k e = rw e (omega arith)
    due_skip false k e = rw e (omega arith)

    pub due_most : (b : Bool) (k : ℕ) → k ≤ size N → due b k ≤ sum_list w N.nodes
    due_most true k h = let m = sum_mono of_dff k (size N) h in let t = due_total in omega arith
    due_most false k h = let m = sum_mono of_comb k (size N) h in let t = due_total in omega arith

    -- a node that is still to be looked up has its weight left
    pub due_left : (b : Bool) (k : ℕ) → k < size N → is_d k ≡ b → due b k + w (gate_at N k) ≤ sum_list w N.nodes
    due_left b k h e = let m = due_most b (suc k) h in let q = due_turn b k e in omega arith

    module _ (light : (τ : ℕ → ℕ) (n : ℕ) → n < size N → (g : Gate) (z : Bool) → asked τ n ≡ made g z → w g ≤ w (gate_at N n)) where
      none_yet : sum_list w (up_to true 0).news ≤ 0
      none_yet = rw up_to_start (le_refl 0)

      pub weigh : (b : Bool) (k : ℕ) → k ≤ size N → sum_list w (up_to b k).news ≤ due b k
      weigh = sweep (λ b k d. sum_list w d.news ≤ due b k) none_yet turn
          (λ b k h e p. let q = due_skip b k e in omega arith)
          (λ p. omega arith)
        where
          turn : (b : Bool) (k : ℕ) → k < size N → is_d k ≡ b → sum_list w (up_to b k).news ≤ due b k → sum_list w (dedup_node (asked (up_to b k).trans k) k (up_to b k)).news ≤ due b (suc k)
          turn b k h e p = go (grown (asked (up_to b k).trans k) k (up_to b k))
            where
              m : List Gate
              m = (dedup_node (asked (up_to b k).trans k) k (up_to b k)).news

              go : Grown (asked (up_to b k).trans k) (up_to b k).news m → sum_list w m ≤ due b (suc k)
              go (same q) = let r = due_turn b k e in rw q (omega arith)
              go (more g z q r) =
                  let s = due_turn b k e in
                  let l = light (up_to b k).trans k h g z q in
                  let t = list_append w (up_to b k).news (g ∷ []) in
                  rw r (omega arith)

  -- ---- what is looked up, by the law of the normalization

  module _ (law : NormLaw norm) (ok : all_shaped N.nodes ≡ true) where
    pub asked_comb : (S : ℕ → Type 0) → Closed S → (τ : ℕ → ℕ) (n : ℕ) → n < size N → is_d n ≡ false → All S (map (remap_order τ) (gate_at N n).ins)
        → Form S (length (gate_at N n).ins) (asked τ n)
    asked_comb S c τ n h e a =
        let g = remap_gate τ (gate_at N n) in
        let f : Form S (length g.ins) (norm g) = law.of_comb_lem S c g (shaped_remap τ (gate_at N n) ∙ shaped_at N.nodes ok n h) e a in
        rw e (rw (length-map (gate_at N n).ins (remap_order τ)) at f)

    pub asked_cell : (τ : ℕ → ℕ) (n : ℕ) → n < size N → is_d n ≡ true → (asked τ n ≡ made (gate_at N n) false) ⊎ (asked τ n ≡ copied 0)
    asked_cell τ n h e = rw e (law.of_cell (gate_at N n) (shaped_at N.nodes ok n h) e)

    asked_shaped : (τ : ℕ → ℕ) (n : ℕ) → n < size N → shaped (asked_gate τ n) ≡ true
    asked_shaped τ n h =
        let s = shaped_at N.nodes ok n h in
        by_bool (is_d n) (λ e. rw e s) (λ e. rw e (shaped_remap τ (gate_at N n) ∙ s))

    asked_length : (τ : ℕ → ℕ) (n : ℕ) → length (asked_gate τ n).ins ≡ length (gate_at N n).ins
    asked_length τ n = by_bool (is_d n) (λ e. rw e) (λ e. rw e (length-map (gate_at N n).ins (remap_order τ)))

    asked_dff : (τ : ℕ → ℕ) (n : ℕ) → is_dff (asked_gate τ n) ≡ is_d n
    asked_dff τ n = by_bool (is_d n) (λ e. rw e e) (λ e. rw e e)

    -- a flip-flop comes of a flip-flop, a gate of a gate
    pub asked_kind : (τ : ℕ → ℕ) (n : ℕ) → n < size N → (g : Gate) (z : Bool) → asked τ n ≡ made g z → is_dff g ≡ is_d n
    asked_kind τ n h g z q = made_dff norm law (asked_gate τ n) (asked_shaped τ n h) g z q ∙ asked_dff τ n

    -- no more nodes, gate inputs or combinational gates than were looked up
    pub count : (b : Bool) (k : ℕ) → k ≤ size N → length (up_to b k).news ≤ due (λ g. 1) b k
    count b k h = rw (length_total (up_to b k).news) (weigh (λ g. 1) (λ τ n l g z q. le_refl 1) b k h)

    pub inputs : (b : Bool) (k : ℕ) → k ≤ size N → fanin (up_to b k).news ≤ due (λ g. length g.ins) b k
    inputs b k h =
        rw (fanin_total (up_to b k).news)
        (weigh (λ g. length g.ins) (λ τ n l g z q. rw (← (asked_length τ n)) (made_few norm law (asked_gate τ n) (asked_shaped τ n l) g z q)) b k h)

    pub gates : (b : Bool) (k : ℕ) → k ≤ size N → combs (up_to b k).news ≤ due comb_of b k
    gates b k h = rw (combs_total (up_to b k).news) (weigh comb_of (λ τ n l g z q. rw (asked_kind τ n l g z q) (le_refl _)) b k h)

    -- ---- the flip-flops stand first

    -- the new nodes of the sweep over flip-flops
    abbrev pub cells : List Gate
    cells = (up_to true (size N)).news

    -- in the first sweep there are flip-flops alone; the second puts gates behind them
    abbrev Apart : Bool → ℕ → Work → Type 0
    Apart true k d = (j : ℕ) → j < length d.news → is_dff (get_or d.news j no_gate) ≡ true
    Apart false k d = Ext cells d.news × ((j : ℕ) → length cells ≤ j → j < length d.news → is_dff (get_or d.news j no_gate) ≡ false)

    apart_turn : (b : Bool) (k : ℕ) → k < size N → is_d k ≡ b → Apart b k (up_to b k) → Apart b (suc k) (dedup_node (asked (up_to b k).trans k) k (up_to b k))
    apart_turn true k h e p = λ j l. elim (dec_lt j (length (up_to true k).news)) [
      | yes q ↦ ap is_dff ((put_is (asked (up_to true k).trans k) k (up_to true k)).ext.same j q) ∙ p j q
      | no q ↦ (let r = (put_is (asked (up_to true k).trans k) k (up_to true k)).only j (omega arith) l in
          ap is_dff r.3 ∙ asked_kind (up_to true k).trans k h r.0 r.1 r.2 ∙ e)
    ]
    apart_turn false k h e p =
        let P = put_is (asked (up_to false k).trans k) k (up_to false k) in (
          ext_trans p.0 P.ext,
          λ j c l. elim (dec_lt j (length (up_to false k).news)) [
            | yes q ↦ ap is_dff (P.ext.same j q) ∙ p.1 j c q
            | no q ↦ (let r = P.only j (omega arith) l in ap is_dff r.3 ∙ asked_kind (up_to false k).trans k h r.0 r.1 r.2 ∙ e)
          ],
        )

    apart_skip : (b : Bool) (k : ℕ) → Apart b k (up_to b k) → Apart b (suc k) (up_to b k)
    apart_skip true k p = p
    apart_skip false k p = p

    apart : (b : Bool) (k : ℕ) → k ≤ size N → Apart b k (up_to b k)
    apart = sweep Apart
        (λ j l. absurd (not-suc-le-zero (subst (λ (m : List Gate). j < length m) up_to_start l)))
        apart_turn
        (λ b k h e p. apart_skip b k p)
        (λ p. (ext_refl cells, λ j c l. absurd (omega arith)))

    -- THE ORDER of the new nodes
    pub cells_first : Ext cells (up_to false (size N)).news
    cells_first = (apart false (size N) (le_refl _)).0

    pub cells_cells : (j : ℕ) → j < length cells → is_dff (get_or (up_to false (size N)).news j no_gate) ≡ true
    cells_cells j h = ap is_dff (cells_first.same j h) ∙ apart true (size N) (le_refl _) j h

    pub gates_behind : (j : ℕ) → length cells ≤ j → j < length (up_to false (size N)).news → is_dff (get_or (up_to false (size N)).news j no_gate) ≡ false
    gates_behind = (apart false (size N) (le_refl _)).1
