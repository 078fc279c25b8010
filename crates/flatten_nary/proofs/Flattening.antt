-- flatten_nary: what the gates' function answered, and what is left by cleanup and canonical.
use mathlib.Core.Path.{◌≡◌, refl, sym}
use borrow.Author.Tests.{ltb-false}
use Prim.Native.Nat.{ℕ, ◌≤◌}
use native.Mathlib.Omega.{arith}
use mathlib.Core.Bool.{true}
use mathlib.Core.List.{List}
use lib.ListN.{length}
use lib.Dec.{ltb}
use Rattle.model.specs.Network.{canonical, cleanup}
use Rattle.model.specs.Sharing.{flattened_inputs, flatten_nary}
use Rattle.shape.proofs.Flatten.{merged_sorted}
use Rattle.tables.specs.Holding.{network_of}
use Rattle.tables.specs.declared.counts.Counts.{Counts}
use Rattle.flatten.specs.Flattening.{Mergeable, Merged, merging_number}
use Rattle.stages.specs.Stages.{Workable, Left, Staged, flat_refusal}
use Rattle.std.specs.Prelude.{Result, Ok, Err}
use Rattle.refusals.specs.declared.Refusal.{Refusal}
use Rattle.refusals.proofs.Numbers.{unless_ok_number, unless_err}
use Rattle.laws.proofs.Choices.{by_bool}
use Rattle.stages.proofs.Staging.{staged_left, staged_up}
use Rattle.shape.proofs.Cleanup.{cleanup_sorted}
use Rattle.cleanup.specs.Marking.{Cleanable, Cleaned}
use Rattle.dedup.specs.States.{Dedupable, Deduped}

-- ---- cleanup, then canonical

module _ (to from : List ℕ) (c : Counts) (W : Workable to from c) where
  pub clean_asks : Cleanable to from c
  clean_asks = record { held = W.held; room = (let h = W.long_to in omega arith) }

  module _ (m : List ℕ) (d : Counts) (C : Cleaned to m c d) where
    pub clean_next : Dedupable m to d
    clean_next = record {
      held = C.holds.held;
      sorted = rw C.holds.net (cleanup_sorted (network_of to c) W.held.valid W.sorted);
      long = W.long_from;
    }

    pub clean_left : (l : List ℕ) (r : Counts) → Deduped m l d true r → Left (canonical (cleanup (network_of to c))) l r
    clean_left l r D = record { holds = rw (← C.holds.net) D.holds; sorted = rw (← C.holds.net) D.sorted }

-- ---- flatten_nary

module _ (from to : List ℕ) (c : Counts) (W : Workable from to c) where
  pub merge_asks : Mergeable from to c
  merge_asks = record { held = W.held; sorted = W.sorted; long = (let h = W.long_to in omega arith) }

  module _ (limit : ℕ) (m : List ℕ) where
    abbrev inputs : ℕ
    inputs = flattened_inputs (network_of from c) limit

    pub merge_refused : (e : Refusal) → Merged (network_of from c) limit m c (Err e) → (l : List ℕ) (r : Result Counts Refusal) (x : Refusal) → r ≡ Err x → x ≡ e
        → Staged (flat_refusal (network_of from c) limit) (flatten_nary (network_of from c) limit) l r
    unfolding flat_refusal
    merge_refused e M l r x p q =
        staged_up _ (flatten_nary (network_of from c) limit) l r x e p q (sym (unless_err (Err e) (merging_number inputs) tt e M.answer refl))

    module _ (M : Merged (network_of from c) limit m c (Ok tt)) where
      within : merging_number inputs ≡ 0
      within = unless_ok_number (Ok tt) (merging_number inputs) tt tt M.answer refl

      few : inputs ≤ 2048
      few = by_bool (ltb 2048 inputs) (λ e. let z : ◌≡◌ {A = ℕ} 10 0 = rw e at within in absurd (omega arith)) (λ e. ltb-false 2048 inputs e)

      pub merge_next : length m ≡ length to → Workable m from c
      merge_next h = record {
        held = (M.holds few).held;
        sorted = rw (M.holds few).net (merged_sorted (network_of from c) limit W.held.valid W.sorted);
        long_from = rw h W.long_to;
        long_to = W.long_from;
      }

      pub merge_left : (l : List ℕ) (r : Counts) → Left (canonical (cleanup (network_of m c))) l r
          → Staged (flat_refusal (network_of from c) limit) (flatten_nary (network_of from c) limit) l (Ok r)
      unfolding flat_refusal flatten_nary
      merge_left l r L = rw within (staged_left _ l r (rw (M.holds few).net at L))

pub ruleset flattens = (clean_asks, clean_next, clean_left, merge_asks)
