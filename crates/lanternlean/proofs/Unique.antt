-- No second answer satisfies the promise of read: as document 01 counts it (`unique_read`), and as read gives it (`no_second_read`).
use mathlib.Core.List.{List}
use Prim.Native.Nat.{ℕ}
use Rattle.std.specs.Prelude.{Result}
use Rattle.refusals.specs.Numbers.{numbered}
use Rattle.refusals.specs.declared.Refusal.{Refusal}
use Rattle.model.specs.Answers.{Answer}
use Rattle.model.specs.Answers.{Kept}
use Rattle.tables.proofs.Unique.{Same, unique}
use Rattle.lending.proofs.Unique.{Agree, no_second}
use Rattle.model.specs.Entries.{read_outcome}

module _ (img out a b : List ℕ) (r s : Answer) (out' a' b' out'' a'' b'' : List ℕ) where
  pub unique_read : Kept (read_outcome img out a b) out a b r out' a' b' → Kept (read_outcome img out a b) out a b s out'' a'' b''
      → Same r out' a' b' s out'' a'' b''
  unique_read = unique (read_outcome img out a b) out a b r s out' a' b' out'' a'' b''

module _ (img out a b : List ℕ) (r s : Result ℕ Refusal) (out' a' b' out'' a'' b'' : List ℕ) where
  pub no_second_read : Kept (read_outcome img out a b) out a b (numbered r) out' a' b' → Kept (read_outcome img out a b) out a b (numbered s) out'' a'' b''
      → Agree r out' a' b' s out'' a'' b''
  no_second_read = no_second (read_outcome img out a b) out a b r s out' a' b' out'' a'' b''
