-- remap by an order: the result has the same outputs in every cycle, from any state carried through it; and so in one cycle, loops or not.
use mathlib.Core.Path.{◌≡◌, refl, sym, ap, ◌∙◌}
use Prim.Native.Nat.{ℕ, ◌<◌}
use mathlib.Core.Bool.{Bool}
use mathlib.Core.List.{List, map}
use Rattle.model.specs.Gate.{Net, size, is_dff, remap_gate, gate_at}
use Rattle.model.specs.Evaluate.{at, signal_value, evaluate, Eval, Solves, run_by, after_by, all_zero, next_state, shows, Consistent, outputs, next}
use Rattle.model.specs.Network.{translation, remap, is_d}
use Rattle.model.proofs.Forward.{evaluate_consistent, shows_dff, shows_comb, gate_cong}
use Rattle.shape.specs.Forms.{Ranked, Kept, Order, Topo}
use Rattle.shape.proofs.Remap.{remap_sorted, remap_ranked, remap_size, remap_outs, remap_gate_lem, kept_inside}
use Rattle.meaning.proofs.Valuations.{pull, values_remap}
use Rattle.meaning.proofs.Simulation.{pull_consistent, same_run, related_zero, probe, Related, gate_remap, next_dff}
use Rattle.meaning.proofs.RemapRuns.{carry, at_place, remap_carries}
use native.Mathlib.Omega.{arith}
use lib.ListN.{length, get_or}
use Rattle.laws.proofs.Choices.{by_bool}
use Rattle.model.specs.Signal.{remap_order}
use Rattle.model.proofs.Names.{In, values_cong}
use Rattle.meaning.proofs.Runs.{next_beyond}

module _ (N : Net) (order : List ℕ) (O : Order N order) (small : size N < 1073741824) where
  abbrev N' : Net
  N' = remap order N

  abbrev τ : ℕ → ℕ
  τ = translation (size N) order

  pub related_carry : (st : ℕ → Bool) → Related N τ (Kept order) st (carry order st)
  related_carry st n k e = at_place N order O small all_zero (carry order st) n k ∙ ap st k.2

  -- THE SAME OUTPUTS IN EVERY CYCLE from any state carried through the mapping, whatever the valuations, where there is no loop
  -- among the kept nodes; and the mapped signal carries each kept node's value
  module _ (R : Ranked N (Kept order)) (ev ev' : Eval) (s : Solves N ev) (s' : Solves N' ev') where
    pub remap_runs : (st : ℕ → Bool) (is : List (List Bool)) → run_by N ev st is ≡ run_by N' ev' (carry order st) is
    remap_runs st is = same_run N N' τ (Kept order) (remap_carries N order O small) R ev ev' s s' is st (carry order st) (related_carry st)

    pub remap_zero : (is : List (List Bool)) → run_by N ev all_zero is ≡ run_by N' ev' all_zero is
    remap_zero is = same_run N N' τ (Kept order) (remap_carries N order O small) R ev ev' s s' is all_zero all_zero (related_zero N N' τ (Kept order) (remap_carries N order O small) R)

    pub remap_probe : (st : ℕ → Bool) (is : List (List Bool)) (i : List Bool) (n : ℕ) → Kept order n
        → signal_value (at i) (ev' (at i) (after_by N' ev' (carry order st) is)) (τ n) ≡ ev (at i) (after_by N ev st is) n
    remap_probe st is i n k = probe N N' τ (Kept order) (remap_carries N order O small) R ev ev' s s' is i st (carry order st) (related_carry st) n k

  -- a network with a sorted order of all its nodes has a valuation: that of the sorted one, read back through the mapping
  pub remap_solves : Topo N order → ((n : ℕ) → n < size N → Kept order n) → Solves N (λ i st. pull i (evaluate N' i (carry order st)) τ)
  remap_solves topo full i st n h =
      pull_consistent N N' τ (Kept order) (remap_carries N order O small) (remap_ranked N order O topo) i st (carry order st) (evaluate N' i (carry order st))
      (evaluate_consistent N' (remap_sorted N order O small topo) i (carry order st)) (related_carry st) n (full n h)

  -- ---- one cycle, loops or not: a valuation of N, carried over, is one of the result

  module _ (i st v : ℕ → Bool) (c : Consistent N i st v) where
    carried_on : (n : ℕ) → Kept order n → pull i (carry order v) τ n ≡ v n
    carried_on n k = at_place N order O small i (carry order v) n k ∙ ap v k.2

    pub carry_consistent : Consistent N' i (carry order st) (carry order v)
    carry_consistent j h =
        let l : j < length order = omega (arith, remap_size N order) in
        let o = get_or order j 0 in
        let k : Kept order o = (j, l, refl) in
        c o (kept_inside N order O o k)
        ∙ by_bool (is_d N o)
        (λ e. shows_dff i v (gate_at N o) (st o) e ∙ sym (shows_dff i (carry order v) (remap_gate τ (gate_at N o)) (st o) e))
        (λ e.
        shows_comb i v (gate_at N o) (st o) e
        ∙ sym (gate_cong i (pull i (carry order v) τ) v (gate_at N o) (Kept order) (O.ins o k) carried_on)
        ∙ sym (gate_remap i (carry order v) τ (gate_at N o))
        ∙ sym (shows_comb i (carry order v) (remap_gate τ (gate_at N o)) (st o) e))
        ∙ ap (λ g. shows i (carry order v) g (st o)) (sym (remap_gate_lem N order j l))

    values : (l : List ℕ) → In (Kept order) l → map (signal_value i (carry order v)) (map (remap_order τ) l) ≡ map (signal_value i v) l
    values l inK = values_remap i (carry order v) τ l ∙ values_cong i (pull i (carry order v) τ) v (Kept order) l inK carried_on

    pub carry_outputs : outputs N i v ≡ outputs N' i (carry order v)
    unfolding outputs
    carry_outputs = sym (ap (map (signal_value i (carry order v))) (remap_outs N order) ∙ values N.outs O.outs)

    pub carry_next : (j : ℕ) → j < length order → next N' i (carry order v) (carry order st) j ≡ carry order (next N i v st) j
    carry_next j l =
        let o = get_or order j 0 in
        let k : Kept order o = (j, l, refl) in
        let same : is_dff (gate_at N' j) ≡ is_d N o = ap is_dff (remap_gate_lem N order j l) in
        by_bool (is_d N o)
        (λ e.
        next_dff N' i (carry order v) (carry order st) j (same ∙ e)
        ∙ ap (λ g. next_state (map (signal_value i (carry order v)) g.ins) (st o)) (remap_gate_lem N order j l)
        ∙ ap (λ l. next_state l (st o)) (values (gate_at N o).ins (O.ins o k))
        ∙ sym (next_dff N i v st o e))
        (λ e. next_beyond N' i (carry order v) (carry order st) j (same ∙ e) ∙ sym (next_beyond N i v st o e))
