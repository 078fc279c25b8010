-- From an entry's promise to its exported one.
use mathlib.Core.Path.{◌≡◌, refl, ap, ◌∙◌}
use mathlib.Core.List.{List}
use Prim.Native.Nat.{ℕ, ◌<◌}
use native.Mathlib.Omega.{arith}
use Rattle.answers.specs.Numbers.{length_of}
use Rattle.model.specs.Answers.{Answer}
use Rattle.model.specs.Answers.{Outcome, Kept, Kept2}
use Rattle.model.specs.Entries.{read_outcome, evaluate_outcome, canonical_outcome, dedup_outcome, cleanup_outcome, sort_outcome, flatten_outcome, factor_outcome, share_outcome}
use Rattle.exports.specs.Packed.{packed, Exported, Exported2}
use Rattle.exports.proofs.Small.{Small, small_read, small_evaluate, small_canonical, small_dedup, small_cleanup, small_sort, small_flatten, small_factor, small_share}

module _ (o : Outcome) (out a b : List ℕ) (r : Answer) (out' a' b' : List ℕ) (K : Kept o out a b r out' a' b') where
  fits : Small o → length_of r < 4294967296
  fits S = rw K.answer (let h = S.few in omega arith)

  pub exported : (n : ℕ) → n ≡ packed r → Exported o out a b n out' a' b'
  exported n e = record {
    number = e ∙ ap packed K.answer;
    kept = record { answer = refl; result = K.result; area_a = K.area_a; area_b = K.area_b };
  }

-- with a mapping, or a state
pub exported2 : (o : Outcome) (out second a b : List ℕ) (r : Answer) (out' second' a' b' : List ℕ) → Kept2 o out second a b r out' second' a' b'
    → (n : ℕ) → n ≡ packed r → Exported2 o out second a b n out' second' a' b'
exported2 o out second a b r out' second' a' b' K n e =
    let E = exported o out a b r out' a' b' K.first n e in
    record { number = E.number; kept = record { first = E.kept; second_is = K.second_is } }

-- ---- each entry

pub read_fits : (img out a b : List ℕ) (r : Answer) (out' a' b' : List ℕ) → Kept (read_outcome img out a b) out a b r out' a' b' → length_of r < 4294967296
read_fits img out a b r out' a' b' K = fits (read_outcome img out a b) out a b r out' a' b' K (small_read img out a b)

pub evaluate_fits : (img inputs state out a b : List ℕ) (r : Answer) (out' state' a' b' : List ℕ)
    → Kept2 (evaluate_outcome img inputs state out a b) out state a b r out' state' a' b' → length_of r < 4294967296
evaluate_fits img inputs state out a b r out' state' a' b' K =
    fits (evaluate_outcome img inputs state out a b) out a b r out' a' b' K.first (small_evaluate img inputs state out a b)

-- the entries with a mapping
module _ (img out mapping a b : List ℕ) (r : Answer) (out' mapping' a' b' : List ℕ) where
  pub canonical_fits : Kept2 (canonical_outcome img out mapping a b) out mapping a b r out' mapping' a' b' → length_of r < 4294967296
  canonical_fits K = fits (canonical_outcome img out mapping a b) out a b r out' a' b' K.first (small_canonical img out mapping a b)

  pub dedup_fits : Kept2 (dedup_outcome img out mapping a b) out mapping a b r out' mapping' a' b' → length_of r < 4294967296
  dedup_fits K = fits (dedup_outcome img out mapping a b) out a b r out' a' b' K.first (small_dedup img out mapping a b)

  pub cleanup_fits : Kept2 (cleanup_outcome img out mapping a b) out mapping a b r out' mapping' a' b' → length_of r < 4294967296
  cleanup_fits K = fits (cleanup_outcome img out mapping a b) out a b r out' a' b' K.first (small_cleanup img out mapping a b)

  pub sort_fits : Kept2 (sort_outcome img out mapping a b) out mapping a b r out' mapping' a' b' → length_of r < 4294967296
  sort_fits K = fits (sort_outcome img out mapping a b) out a b r out' a' b' K.first (small_sort img out mapping a b)

-- the entries of share_logic.rs
module _ (img out a b : List ℕ) (r : Answer) (out' a' b' : List ℕ) where
  pub flatten_fits : (limit : ℕ) → Kept (flatten_outcome img out a b limit) out a b r out' a' b' → length_of r < 4294967296
  flatten_fits limit K = fits (flatten_outcome img out a b limit) out a b r out' a' b' K (small_flatten img out a b limit)

  pub factor_fits : Kept (factor_outcome img out a b) out a b r out' a' b' → length_of r < 4294967296
  factor_fits K = fits (factor_outcome img out a b) out a b r out' a' b' K (small_factor img out a b)

  pub share_fits : (limit : ℕ) → Kept (share_outcome img out a b limit) out a b r out' a' b' → length_of r < 4294967296
  share_fits limit K = fits (share_outcome img out a b limit) out a b r out' a' b' K (small_share img out a b limit)
