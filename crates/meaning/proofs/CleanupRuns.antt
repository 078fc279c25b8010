-- cleanup: the same outputs in every cycle, and the mapped signal carries each kept node's value.
use mathlib.Core.Path.{◌≡◌}
use Prim.Native.Nat.{ℕ, ◌<◌}
use native.Mathlib.Omega.{arith}
use mathlib.Core.Bool.{Bool, true}
use mathlib.Core.List.{List}
use lib.ListN.{length}
use Rattle.laws.proofs.Lists.{all_map, all_both}
use Rattle.model.specs.Gate.{Net, gate_at, size, is_topo_sorted, Valid}
use Rattle.model.specs.Evaluate.{at, signal_value, Consistent, outputs, next, evaluate, Eval, Solves, run_by, run, after_by, after, all_zero, run_from_zero}
use Rattle.model.specs.Network.{translation, Reach, cleanup_order, cleanup, sorts}
use Rattle.model.proofs.Names.{Names}
use Rattle.model.proofs.Forward.{evaluate_sorted}
use Rattle.shape.specs.Forms.{Ranked, Kept, Order}
use Rattle.shape.proofs.Remap.{kept_inside}
use Rattle.shape.proofs.Sort.{sorts_ranked, sorted_sorts}
use Rattle.shape.proofs.Cleanup.{cleanup_order_lem, cleanup_sorted, reach_kept}
use Rattle.meaning.proofs.RemapRuns.{carry}
use Rattle.meaning.proofs.RemapCarried.{remap_runs, remap_zero, remap_probe, carry_consistent, carry_outputs, carry_next}

module _ (N : Net) (A : Valid N) where
  order : Order N (cleanup_order N)
  order = cleanup_order_lem N A.signals

  small : size N < 1073741824
  small = let few = A.nodes_few in omega arith

  -- ---- one cycle, of any network, loops or not: values that agree with every gate, carried over, agree with every gate that is
  -- left, and give the same outputs and the same states

  module _ (i st v : ℕ → Bool) (c : Consistent N i st v) where
    pub cleanup_consistent : Consistent (cleanup N) i (carry (cleanup_order N) st) (carry (cleanup_order N) v)
    unfolding cleanup
    cleanup_consistent = carry_consistent N (cleanup_order N) order small i st v c

    pub cleanup_outputs : outputs N i v ≡ outputs (cleanup N) i (carry (cleanup_order N) v)
    unfolding cleanup
    cleanup_outputs = carry_outputs N (cleanup_order N) order small i st v c

    pub cleanup_next : (j : ℕ) → j < length (cleanup_order N)
        → next (cleanup N) i (carry (cleanup_order N) v) (carry (cleanup_order N) st) j ≡ carry (cleanup_order N) (next N i v st) j
    unfolding cleanup
    cleanup_next = carry_next N (cleanup_order N) order small i st v c

  -- ---- runs, where there is no loop: by any valuations of both

  module _ (ok : sorts N ≡ true) where
    ranked : Ranked N (Kept (cleanup_order N))
    ranked =
        let R = sorts_ranked N A.signals ok in
        record {
          rank = R.rank;
          below = λ n k e.
              all_map (gate_at N n).ins (λ s p m q. (p.0 m q, (p.1 m q).1))
              (all_both (Names (Kept (cleanup_order N))) (Names (λ m. (m < size N) × (R.rank m < R.rank n))) (gate_at N n).ins
              (order.ins n k) (R.below n (kept_inside N (cleanup_order N) order n k) e));
        }

    module _ (ev ev' : Eval) (s : Solves N ev) (s' : Solves (cleanup N) ev') where
      pub cleanup_runs_by : (st : ℕ → Bool) (is : List (List Bool)) → run_by N ev st is ≡ run_by (cleanup N) ev' (carry (cleanup_order N) st) is
      unfolding cleanup
      cleanup_runs_by st is = remap_runs N (cleanup_order N) order small ranked ev ev' s s' st is

      pub cleanup_zero_by : (is : List (List Bool)) → run_by N ev all_zero is ≡ run_by (cleanup N) ev' all_zero is
      unfolding cleanup
      cleanup_zero_by is = remap_zero N (cleanup_order N) order small ranked ev ev' s s' is

      -- what outputs reach keeps its value, in the cycle after any inputs
      pub cleanup_probe_by : (st : ℕ → Bool) (is : List (List Bool)) (i : List Bool) (n : ℕ) → Reach N n
          → signal_value (at i) (ev' (at i) (after_by (cleanup N) ev' (carry (cleanup_order N) st) is)) (translation (size N) (cleanup_order N) n)
          ≡ ev (at i) (after_by N ev st is) n
      unfolding cleanup
      cleanup_probe_by st is i n r = remap_probe N (cleanup_order N) order small ranked ev ev' s s' st is i n (reach_kept N A.signals n r)

  -- ---- runs of a sorted network, by the forward pass

  module _ (t : is_topo_sorted N ≡ true) where
    pub cleanup_runs : (is : List (List Bool)) → run_from_zero N is ≡ run_from_zero (cleanup N) is
    cleanup_runs is =
        cleanup_zero_by (sorted_sorts N A.signals t) (evaluate N) (evaluate (cleanup N))
        (evaluate_sorted N t) (evaluate_sorted (cleanup N) (cleanup_sorted N A t)) is

    pub cleanup_runs_from : (st : ℕ → Bool) (is : List (List Bool)) → run N st is ≡ run (cleanup N) (carry (cleanup_order N) st) is
    cleanup_runs_from st is =
        cleanup_runs_by (sorted_sorts N A.signals t) (evaluate N) (evaluate (cleanup N))
        (evaluate_sorted N t) (evaluate_sorted (cleanup N) (cleanup_sorted N A t)) st is

    pub cleanup_probe : (st : ℕ → Bool) (is : List (List Bool)) (i : List Bool) (n : ℕ) → Reach N n
        → signal_value (at i) (evaluate (cleanup N) (at i) (after (cleanup N) (carry (cleanup_order N) st) is)) (translation (size N) (cleanup_order N) n)
        ≡ evaluate N (at i) (after N st is) n
    cleanup_probe st is i n r =
        cleanup_probe_by (sorted_sorts N A.signals t) (evaluate N) (evaluate (cleanup N))
        (evaluate_sorted N t) (evaluate_sorted (cleanup N) (cleanup_sorted N A t)) st is i n r
