-- No second answer satisfies the promise of an entry: as document 01 counts it (`unique_..`), and as the entry gives it (`no_second_..`).
use mathlib.Core.Path.{◌≡◌}
use mathlib.Core.List.{List}
use Prim.Native.Nat.{ℕ}
use Rattle.std.specs.Prelude.{Result}
use Rattle.refusals.specs.Numbers.{numbered}
use Rattle.refusals.specs.declared.Refusal.{Refusal}
use Rattle.model.specs.Answers.{Answer}
use Rattle.model.specs.Answers.{Outcome, Kept2}
use Rattle.model.specs.Entries.{canonical_outcome, dedup_outcome, cleanup_outcome, sort_outcome}
use Rattle.tables.proofs.Unique.{Same, unique2}
use Rattle.lending.proofs.Unique.{Agree, no_second2}

module _ (img out map a b : List ℕ) (r s : Answer) (out' map' a' b' out'' map'' a'' b'' : List ℕ) where
  abbrev Once : Outcome → Type 0
  Once o = Kept2 o out map a b r out' map' a' b' → Kept2 o out map a b s out'' map'' a'' b'' → Same r out' a' b' s out'' a'' b'' × (map' ≡ map'')

  once : (o : Outcome) → Once o
  once o = unique2 o out a b r s out' a' b' out'' a'' b'' map map' map''

  pub unique_canonical : Once (canonical_outcome img out map a b)
  unique_canonical = once (canonical_outcome img out map a b)

  pub unique_dedup : Once (dedup_outcome img out map a b)
  unique_dedup = once (dedup_outcome img out map a b)

  pub unique_cleanup : Once (cleanup_outcome img out map a b)
  unique_cleanup = once (cleanup_outcome img out map a b)

  pub unique_sort : Once (sort_outcome img out map a b)
  unique_sort = once (sort_outcome img out map a b)

module _ (img out map a b : List ℕ) (r s : Result ℕ Refusal) (out' map' a' b' out'' map'' a'' b'' : List ℕ) where
  abbrev Single : Outcome → Type 0
  Single o = Kept2 o out map a b (numbered r) out' map' a' b' → Kept2 o out map a b (numbered s) out'' map'' a'' b'' → Agree r out' a' b' s out'' a'' b'' × (map' ≡ map'')

  single : (o : Outcome) → Single o
  single o = no_second2 o out a b r s out' a' b' out'' a'' b'' map map' map''

  pub no_second_canonical : Single (canonical_outcome img out map a b)
  no_second_canonical = single (canonical_outcome img out map a b)

  pub no_second_dedup : Single (dedup_outcome img out map a b)
  no_second_dedup = single (dedup_outcome img out map a b)

  pub no_second_cleanup : Single (cleanup_outcome img out map a b)
  no_second_cleanup = single (cleanup_outcome img out map a b)

  pub no_second_sort : Single (sort_outcome img out map a b)
  no_second_sort = single (sort_outcome img out map a b)
