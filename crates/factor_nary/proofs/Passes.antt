-- One factoring pass, and the two of factor_nary: what each answers, and what is left by sort and canonical.
use mathlib.Core.Path.{◌≡◌, refl, sym, ap, ◌∙◌}
use Prim.Native.Nat.{ℕ}
use native.Mathlib.Omega.{arith}
use mathlib.Core.Bool.{true}
use mathlib.Core.List.{List}
use lib.ListN.{length}
use Rattle.kinds.specs.declared.Family.{Family}
use Rattle.kinds.specs.declared.Family.TheVariants.{And, Xor}
use Rattle.model.specs.Gate.{Net}
use Rattle.model.specs.Network.{canonical, topo_sort}
use Rattle.model.specs.Sharing.{grown, pass_refusal, factor_gates, factor_nary, factor_refusal}
use Rattle.shape.proofs.FactoringPass.{pass_sorts}
use Rattle.tables.specs.Holding.{network_of, Holds}
use Rattle.tables.specs.declared.counts.Counts.{Counts}
use Rattle.growth.specs.Growing.{counts_of}
use Rattle.factoring_run.specs.Running.{Asked}
use Rattle.factor_gates.specs.Passing.{Passed}
use Rattle.stages.specs.Stages.{Workable, Orderable, Staged}
use Rattle.std.specs.Prelude.{Result, Ok, Err}
use Rattle.refusals.specs.declared.Refusal.{Refusal}
use Rattle.refusals.proofs.Numbers.{unless_ok_number, unless_ok_value, unless_err}
use Rattle.stages.proofs.Staging.{staged_left, staged_up, next_refused, next_leaves}
use Rattle.shape.proofs.Sort.{sort_sorted}
use Rattle.topo_sort.specs.Sorts.{Sortable, Sorted, sorting_of}
use Rattle.dedup.specs.States.{Dedupable, Deduped}

-- ---- sort, then canonical

module _ (to from : List ℕ) (c : Counts) (W : Orderable to from c) where
  pub order_asks : Sortable to from c
  order_asks = record { held = W.held; room = (let h = W.long_to in omega arith) }

  -- the grown network has no loop
  pub order_never : (m : List ℕ) (e : Refusal) → Sorted to m c (Err e) → {X : Type 0} → X
  order_never m e S = let z : Err e ≡ Ok tt = S.answer ∙ ap sorting_of W.sorts_is in absurd cc

  module _ (m : List ℕ) (S : Sorted to m c (Ok tt)) where
    pub order_next : Dedupable m to c
    order_next = record {
      held = (S.holds refl).held;
      sorted = rw (S.holds refl).net (sort_sorted (network_of to c) W.held.valid W.sorts_is);
      long = W.long_from;
    }

    pub order_left : (l : List ℕ) (r : Counts) → Deduped m l c true r → Staged 0 (canonical (topo_sort (network_of to c))) l (Ok r)
    order_left l r D = staged_left _ l r (record { holds = rw (← (S.holds refl).net) D.holds; sorted = rw (← (S.holds refl).net) D.sorted })

-- ---- a pass

module _ (from to : List ℕ) (c : Counts) (W : Workable from to c) where
  pub pass_asks : Asked from to c
  pass_asks = record { held = W.held; long = W.long_to }

  module _ (f : Family) (m : List ℕ) where
    abbrev N : Net
    N = network_of from c

    pub pass_refused : (e : Refusal) → Passed f N m (Err e) → (l : List ℕ) (r : Result Counts Refusal) (x : Refusal) → r ≡ Err x → x ≡ e
        → Staged (pass_refusal f N) (factor_gates f N) l r
    pass_refused e P l r x p q =
        staged_up (pass_refusal f N) (factor_gates f N) l r x e p q (sym (unless_err (Err e) (pass_refusal f N) (counts_of (grown f N)) e P.answer refl))

    module _ (g : Counts) (P : Passed f N m (Ok g)) where
      none : pass_refusal f N ≡ 0
      none = unless_ok_number (Ok g) (pass_refusal f N) (counts_of (grown f N)) g P.answer refl

      grown_holds : Holds m g (grown f N)
      grown_holds = rw (unless_ok_value (Ok g) (pass_refusal f N) (counts_of (grown f N)) g P.answer refl) (P.holds none)

      pub pass_next : length m ≡ length to → Orderable m from g
      pass_next h = record {
        held = grown_holds.held;
        sorts_is = rw grown_holds.net (pass_sorts f N W.held.valid W.sorted none);
        long_from = rw h W.long_to;
        long_to = W.long_from;
      }

      pub pass_left : (l : List ℕ) (s : Result Counts Refusal) → Staged 0 (canonical (topo_sort (network_of m g))) l s → Staged (pass_refusal f N) (factor_gates f N) l s
      unfolding factor_gates
      pass_left l s S = rw none (rw grown_holds.net at S)

-- ---- the two passes

module _ (N : Net) (m : List ℕ) where
  pub factor_refused : (e : Refusal) → Staged (pass_refusal And N) (factor_gates And N) m (Err e) → (l : List ℕ) (r : Result Counts Refusal) (x : Refusal) → r ≡ Err x → x ≡ e
      → Staged (factor_refusal N) (factor_nary N) l r
  unfolding factor_refusal factor_nary
  factor_refused e S l r x p q = next_refused _ _ m e S (pass_refusal Xor (factor_gates And N)) (factor_gates Xor (factor_gates And N)) l r x p q

  pub factor_left : (d : Counts) → Staged (pass_refusal And N) (factor_gates And N) m (Ok d) → (l : List ℕ) (s : Result Counts Refusal)
      → Staged (pass_refusal Xor (network_of m d)) (factor_gates Xor (network_of m d)) l s → Staged (factor_refusal N) (factor_nary N) l s
  unfolding factor_refusal factor_nary
  factor_left d S l s T = next_leaves _ _ m d S (pass_refusal Xor) (factor_gates Xor) l s T
