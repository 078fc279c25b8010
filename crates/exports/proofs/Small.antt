-- A length fits 32 bits: an image has at most 512 headers, 2,048 inputs, 1,024 table words, 64 outputs and a trailer.
use mathlib.Core.Path.{◌≡◌}
use mathlib.Core.Bool.{true, cond, ◌&&◌}
use mathlib.Core.List.{List, []}
use Prim.Native.Nat.{ℕ, ◌≤◌}
use native.Mathlib.Omega.{arith}
use lib.ListN.{length}
use lib.Dec.{eqb, leb, ltb}
use borrow.Author.Tests.{eqb-true, ltb-false}
use Rattle.answers.specs.Numbers.{length_of}
use Rattle.laws.proofs.Choices.{by_bool, by_test}
use Rattle.model.specs.Gate.{Net, Valid, is_topo_sorted}
use Rattle.model.specs.Image.{refusal_of, sorted_refusal_of, net_of, image_of}
use Rattle.model.specs.Answers.{Outcome, refused, written, evaluated, answer_of, areas_short, in_areas, in_room, unless}
use Rattle.model.specs.Evaluate.{cycle_refusal}
use Rattle.model.specs.Normal.{make_canonical}
use Rattle.model.specs.Network.{as_is, sorts}
use Rattle.model.specs.Sharing.{flattened_inputs, flatten_nary, share_logic}
use Rattle.model.specs.Entries.{read_outcome, evaluated_of, cycle_outcome, evaluate_outcome, canonical_outcome, dedup_outcome, cleanup_outcome, sort_outcome, flatten_outcome, factor_outcome, share_outcome}
use Rattle.shape.proofs.Sizes.{image_length}
use Rattle.shape.proofs.Valids.{valid_net}
use Rattle.shape.proofs.Ladder.{sorted_at0}
use Rattle.shape.proofs.Accepted.{accepted_sorted}
use Rattle.shape.proofs.Cleanup.{cleanup_valid}
use Rattle.shape.proofs.Sort.{sort_valid}
use Rattle.shape.proofs.Flatten.{flatten_valid, flatten_sorted}
use Rattle.shape.proofs.FactoringPass.{factor_valid}
use Rattle.shape.proofs.Dedup.{dedup_valid}
use Rattle.shape.proofs.DedupNormal.{as_is_law, canonical_law}

-- the length that an outcome answers
pub record Small (o : Outcome) : Type 0 where
  pub few : length_of (answer_of o) ≤ 14608

pub small_refused : (n : ℕ) → Small (refused n)
small_refused n = record { few = omega arith }

pub small_written : (N : Net) → Valid N → (m : List ℕ) → Small (written (image_of N) m)
small_written N h m = record { few = image_length N h }

pub small_evaluated : (os st : List ℕ) → Small (evaluated os st)
small_evaluated os st = record { few = omega arith }

-- each step of the ladder
pub small_room : (x y : ℕ) (o : Outcome) → Small o → Small (in_room x y o)
small_room x y (refused n) h = h
small_room x y (written w m) h = by_test Small (leb (length w) x && leb (length m) y) (λ e. h) (λ e. small_refused 13)
small_room x y (evaluated os st) h = h

pub small_unless : (k : ℕ) (o : Outcome) → (k ≡ 0 → Small o) → Small (unless k o)
unfolding unless
small_unless k o h = by_test Small (eqb k 0) (λ e. h (eqb-true k 0 e)) (λ e. small_refused k)

pub small_areas : (a b : List ℕ) (o : Outcome) → Small o → Small (in_areas a b o)
unfolding in_areas
small_areas a b o h = by_test Small (areas_short a b) (λ e. small_refused 1) (λ e. h)

-- ---- each entry

pub small_read : (img out a b : List ℕ) → Small (read_outcome img out a b)
unfolding read_outcome
small_read img out a b =
    small_areas a b _
    (small_room (length out) 0 _ (small_unless (refusal_of img) _ (λ e. small_written (net_of img) (valid_net img e) [])))

pub small_evaluate : (img inputs state out a b : List ℕ) → Small (evaluate_outcome img inputs state out a b)
unfolding evaluate_outcome cycle_outcome evaluated_of
small_evaluate img inputs state out a b =
    small_areas a b _
    (small_unless (sorted_refusal_of img) _ (λ e. small_unless (cycle_refusal (net_of img) inputs state (length out)) _ (λ e. small_evaluated _ _)))

-- an image that meets none of 2 to 7 holds a valid network, and so does what dedup leaves of it
valid_sorted : (img : List ℕ) → sorted_refusal_of img ≡ 0 → Valid (net_of img)
valid_sorted img e = valid_net img ((sorted_at0 img).0 e).0

module _ (img out mapping a b : List ℕ) where
  pub small_canonical : Small (canonical_outcome img out mapping a b)
  unfolding canonical_outcome
  small_canonical =
      small_areas a b _
      (small_room (length out) (length mapping) _
      (small_unless (sorted_refusal_of img) _
      (λ e. small_written _ (dedup_valid make_canonical canonical_law (net_of img) (valid_sorted img e) (accepted_sorted img e)) _)))

  pub small_dedup : Small (dedup_outcome img out mapping a b)
  unfolding dedup_outcome
  small_dedup =
      small_areas a b _
      (small_room (length out) (length mapping) _
      (small_unless (sorted_refusal_of img) _
      (λ e. small_written _ (dedup_valid as_is as_is_law (net_of img) (valid_sorted img e) (accepted_sorted img e)) _)))

  pub small_cleanup : Small (cleanup_outcome img out mapping a b)
  unfolding cleanup_outcome
  small_cleanup =
      small_areas a b _
      (small_room (length out) (length mapping) _
      (small_unless (refusal_of img) _ (λ e. small_written _ (cleanup_valid (net_of img) (valid_net img e)) _)))

  pub small_sort : Small (sort_outcome img out mapping a b)
  unfolding sort_outcome
  small_sort =
      small_areas a b _
      (small_room (length out) (length mapping) _
      (small_unless (refusal_of img) _
      (λ e. by_test Small (sorts (net_of img)) (λ t. small_written _ (sort_valid (net_of img) (valid_net img e) t) _) (λ t. small_refused 8))))

-- the entries of share_logic.rs
module _ (img out a b : List ℕ) where
  valid_flat : (limit : ℕ) → sorted_refusal_of img ≡ 0 → ◌≡◌ {A = ℕ} (cond (ltb 2048 (flattened_inputs (net_of img) limit)) 10 0) 0
      → Valid (flatten_nary (net_of img) limit) × (is_topo_sorted (flatten_nary (net_of img) limit) ≡ true)
  valid_flat limit e z = by_bool (ltb 2048 (flattened_inputs (net_of img) limit))
      (λ t. absurd (omega (arith, rw t at z)))
      (λ t.
      let few = ltb-false 2048 (flattened_inputs (net_of img) limit) t in
      (flatten_valid (net_of img) limit (valid_sorted img e) (accepted_sorted img e) few, flatten_sorted (net_of img) limit (valid_sorted img e) (accepted_sorted img e) few))

  pub small_flatten : (limit : ℕ) → Small (flatten_outcome img out a b limit)
  unfolding flatten_outcome
  small_flatten limit =
      small_areas a b _
      (small_room (length out) 0 _ (small_unless (sorted_refusal_of img) _ (λ e. small_unless _ _ (λ z. small_written _ (valid_flat limit e z).0 _))))

  pub small_factor : Small (factor_outcome img out a b)
  unfolding factor_outcome
  small_factor =
      small_areas a b _
      (small_room (length out) 0 _
      (small_unless (sorted_refusal_of img) _
      (λ e. small_unless _ _ (λ y. small_unless _ _ (λ z. small_written _ (factor_valid (net_of img) (valid_sorted img e) (accepted_sorted img e) z) _)))))

  pub small_share : (limit : ℕ) → Small (share_outcome img out a b limit)
  unfolding share_outcome share_logic
  small_share limit =
      small_areas a b _
      (small_room (length out) 0 _
      (small_unless (sorted_refusal_of img) _
      (λ e. small_unless _ _
      (λ y. small_unless _ _ (λ z. small_written _ (factor_valid (flatten_nary (net_of img) limit) (valid_flat limit e y).0 (valid_flat limit e y).1 z) _)))))
