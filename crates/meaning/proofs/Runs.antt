-- Runs: by any valuation that every gate agrees with they are the runs of the forward pass; and what a pass between sorted
-- networks shows of them.
use mathlib.Core.Path.{◌≡◌, refl, sym, ap, ap₂, fun_ext, ◌∙◌}
use Prim.Native.Nat.{ℕ, ◌≤◌, ◌<◌}
use native.Mathlib.Omega.{arith}
use native.Mathlib.Decide.{dec_lt}
use mathlib.Core.Bool.{Bool, true, false, cond}
use mathlib.Core.List.{List, [], ◌∷◌, map}
use lib.ListN.{get_or-eq_default}
use Rattle.kinds.specs.Kinds.{kind_of}
use Rattle.laws.proofs.Lists.{all_map, all_both}
use Rattle.model.specs.Gate.{Gate, Net, is_dff, no_gate, gate_at, size, wired, is_topo_sorted}
use Rattle.model.specs.Evaluate.{at, signal_value, next_state, Consistent, outputs, next, evaluate, Eval, Solves, run_by, run, run_from_zero}
use Rattle.model.proofs.Names.{Names, In, values_cong, Sorted, sorted, wired_ins, wired_out}
use Rattle.model.proofs.Forward.{evaluate_consistent, evaluate_sorted}
use Rattle.shape.specs.Forms.{Ranked}
use Rattle.shape.proofs.Sort.{sorted_ranked}
use Rattle.meaning.proofs.Valuations.{agree}
use Rattle.meaning.proofs.Simulation.{Carries, same_from_zero}

-- beyond the nodes there is no flip-flop
pub beyond : (N : Net) (n : ℕ) → size N ≤ n → is_dff (gate_at N n) ≡ false
unfolding kind_of
beyond N n h = ap (λ (g : Gate). is_dff g) (get_or-eq_default N.nodes no_gate h)

pub next_beyond : (N : Net) (i v st : ℕ → Bool) (n : ℕ) → is_dff (gate_at N n) ≡ false → next N i v st n ≡ st n
unfolding next
next_beyond N i v st n e = rw e

-- ---- one run, whatever the valuation

module _ (N : Net) (w : wired N ≡ true) (R : Ranked N (λ n. n < size N)) where
  module _ (i st u v : ℕ → Bool) (cu : Consistent N i st u) (cv : Consistent N i st v) where
    one_values : (l : List ℕ) → In (λ m. m < size N) l → map (signal_value i u) l ≡ map (signal_value i v) l
    one_values l inN = values_cong i u v (λ m. m < size N) l inN (agree N (λ m. m < size N) R i st u v cu cv)

    pub one_outputs : outputs N i u ≡ outputs N i v
    unfolding outputs
    one_outputs = one_values N.outs (wired_out N w)

    pub one_next : next N i u st ≡ next N i v st
    unfolding next
    one_next = fun_ext at_node
      where
        at_node : (n : ℕ) → next N i u st n ≡ next N i v st n
        at_node n = elim (dec_lt n (size N)) [
          | yes h ↦ ap (λ (l : List Bool). cond (is_dff (gate_at N n)) (next_state l (st n)) (st n)) (one_values (gate_at N n).ins (wired_ins N w n h))
          | no h ↦ next_beyond N i u st n (beyond N n (omega arith)) ∙ sym (next_beyond N i v st n (beyond N n (omega arith)))
        ]

  pub one_run : (ev ev' : Eval) → Solves N ev → Solves N ev' → (is : List (List Bool)) (st : ℕ → Bool) → run_by N ev st is ≡ run_by N ev' st is
  one_run ev ev' s s' [] st = refl
  one_run ev ev' s s' (i ∷ is) st =
      ap₂ ◌∷◌ (one_outputs (at i) st _ _ (s (at i) st) (s' (at i) st))
      (one_run ev ev' s s' is _ ∙ ap (λ q. run_by N ev' q is) (one_next (at i) st _ _ (s (at i) st) (s' (at i) st)))

-- RUNS BY THE RELATION of a sorted network are the runs by the forward pass
pub runs_forward : (N : Net) → wired N ≡ true → is_topo_sorted N ≡ true → (ev : Eval) → Solves N ev → (st : ℕ → Bool) (is : List (List Bool))
    → run_by N ev st is ≡ run N st is
runs_forward N w e ev s st is = one_run N w (sorted_ranked N (sorted N e)) ev (evaluate N) s (evaluate_sorted N e) is st

-- ---- passes between sorted networks

-- within K, a network's numbers are ranks
pub ranked_on : (N : Net) (K : ℕ → Type 0) → Sorted N → ((n : ℕ) → K n → n < size N)
    → ((n : ℕ) → K n → is_dff (gate_at N n) ≡ false → In K (gate_at N n).ins) → Ranked N K
ranked_on N K s inside closed = record {
  rank = λ n. n;
  below = λ n k e. all_map (gate_at N n).ins (λ a f m q. (f.0 m q, f.1 m q)) (all_both (Names K) (Names (λ m. m < n)) (gate_at N n).ins (closed n k e) (s n (inside n k) e));
}

-- the same outputs in every cycle, from zero
pub demand_three : (N N' : Net) (τ : ℕ → ℕ) (K : ℕ → Type 0) → Sorted N → Sorted N' → Carries N N' τ K
    → ((n : ℕ) → K n → is_dff (gate_at N n) ≡ false → In K (gate_at N n).ins)
    → (is : List (List Bool)) → run_from_zero N is ≡ run_from_zero N' is
demand_three N N' τ K s s' C closed is =
    same_from_zero N N' τ K C (ranked_on N K s C.inside closed) (evaluate N) (evaluate N') (evaluate_consistent N s) (evaluate_consistent N' s') is
