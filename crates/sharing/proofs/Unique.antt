-- No second answer satisfies the promise of an entry: as document 01 counts it (`unique_..`), and as the entry gives it (`no_second_..`).
use mathlib.Core.List.{List}
use Prim.Native.Nat.{ℕ}
use Rattle.std.specs.Prelude.{Result}
use Rattle.refusals.specs.Numbers.{numbered}
use Rattle.refusals.specs.declared.Refusal.{Refusal}
use Rattle.model.specs.Answers.{Answer}
use Rattle.model.specs.Answers.{Outcome, Kept}
use Rattle.model.specs.Entries.{flatten_outcome, factor_outcome, share_outcome}
use Rattle.tables.proofs.Unique.{Same, unique}
use Rattle.lending.proofs.Unique.{Agree, no_second}

module _ (img out a b : List ℕ) (r s : Answer) (out' a' b' out'' a'' b'' : List ℕ) where
  abbrev Once : Outcome → Type 0
  Once o = Kept o out a b r out' a' b' → Kept o out a b s out'' a'' b'' → Same r out' a' b' s out'' a'' b''

  once : (o : Outcome) → Once o
  once o = unique o out a b r s out' a' b' out'' a'' b''

  pub unique_flatten : (limit : ℕ) → Once (flatten_outcome img out a b limit)
  unique_flatten limit = once (flatten_outcome img out a b limit)

  pub unique_factor : Once (factor_outcome img out a b)
  unique_factor = once (factor_outcome img out a b)

  pub unique_share : (limit : ℕ) → Once (share_outcome img out a b limit)
  unique_share limit = once (share_outcome img out a b limit)

module _ (img out a b : List ℕ) (r s : Result ℕ Refusal) (out' a' b' out'' a'' b'' : List ℕ) where
  abbrev Single : Outcome → Type 0
  Single o = Kept o out a b (numbered r) out' a' b' → Kept o out a b (numbered s) out'' a'' b'' → Agree r out' a' b' s out'' a'' b''

  single : (o : Outcome) → Single o
  single o = no_second o out a b r s out' a' b' out'' a'' b''

  pub no_second_flatten : (limit : ℕ) → Single (flatten_outcome img out a b limit)
  no_second_flatten limit = single (flatten_outcome img out a b limit)

  pub no_second_factor : Single (factor_outcome img out a b)
  no_second_factor = single (factor_outcome img out a b)

  pub no_second_share : (limit : ℕ) → Single (share_outcome img out a b limit)
  no_second_share limit = single (share_outcome img out a b limit)
