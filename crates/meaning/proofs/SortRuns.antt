-- sort: the same outputs in every cycle, and the mapped signal carries the old node's value.
use mathlib.Core.Path.{◌≡◌}
use Prim.Native.Nat.{ℕ, ◌<◌}
use native.Mathlib.Omega.{arith}
use mathlib.Core.Bool.{Bool, true}
use mathlib.Core.List.{List}
use Rattle.model.specs.Gate.{Net, size, Valid}
use Rattle.model.specs.Evaluate.{at, signal_value, evaluate, Eval, Solves, run_by, run, after_by, after, all_zero, run_from_zero}
use Rattle.model.specs.Network.{translation, topo_order, sorts, topo_sort}
use Rattle.model.proofs.Forward.{evaluate_sorted}
use Rattle.shape.specs.Forms.{Ranked, Kept, Order}
use Rattle.shape.proofs.Wires.{wired_inside}
use Rattle.shape.proofs.Remap.{remap_ranked}
use Rattle.shape.proofs.Sort.{sort_order, sort_topo, sort_sorted, place}
use Rattle.meaning.proofs.Valuations.{pull}
use Rattle.meaning.proofs.RemapRuns.{carry}
use Rattle.meaning.proofs.RemapCarried.{remap_runs, remap_zero, remap_probe, remap_solves}

module _ (N : Net) (A : Valid N) (ok : sorts N ≡ true) where
  order : Order N (topo_order N)
  order = sort_order N A.signals ok

  small : size N < 1073741824
  small = let few = A.nodes_few in omega arith

  ranked : Ranked N (Kept (topo_order N))
  ranked = remap_ranked N (topo_order N) order (sort_topo N A.signals ok)

  -- the old network has a valuation: that of the new one, read back through the mapping
  pub sort_solves : Solves N (λ i st. pull i (evaluate (topo_sort N) i (carry (topo_order N) st)) (translation (size N) (topo_order N)))
  unfolding topo_sort
  sort_solves = remap_solves N (topo_order N) order small (sort_topo N A.signals ok) (place N (wired_inside N A.signals) ok)

  -- and by every valuation of it the runs are the same
  module _ (ev : Eval) (s : Solves N ev) where
    -- from zero
    pub sort_runs : (is : List (List Bool)) → run_by N ev all_zero is ≡ run_from_zero (topo_sort N) is
    unfolding topo_sort
    sort_runs is = remap_zero N (topo_order N) order small ranked ev (evaluate (topo_sort N)) s (evaluate_sorted (topo_sort N) (sort_sorted N A ok)) is

    -- from any state carried through the mapping
    pub sort_runs_from : (st : ℕ → Bool) (is : List (List Bool)) → run_by N ev st is ≡ run (topo_sort N) (carry (topo_order N) st) is
    unfolding topo_sort
    sort_runs_from st is = remap_runs N (topo_order N) order small ranked ev (evaluate (topo_sort N)) s (evaluate_sorted (topo_sort N) (sort_sorted N A ok)) st is

    -- in the cycle after any inputs, every node's mapped signal has its value
    pub sort_probe : (st : ℕ → Bool) (is : List (List Bool)) (i : List Bool) (n : ℕ) → n < size N
        → signal_value (at i) (evaluate (topo_sort N) (at i) (after (topo_sort N) (carry (topo_order N) st) is)) (translation (size N) (topo_order N) n)
        ≡ ev (at i) (after_by N ev st is) n
    unfolding topo_sort
    sort_probe st is i n h =
        remap_probe N (topo_order N) order small ranked ev (evaluate (topo_sort N)) s (evaluate_sorted (topo_sort N) (sort_sorted N A ok)) st is i n
        (place N (wired_inside N A.signals) ok n h)
