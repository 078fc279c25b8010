-- No second answer satisfies the promise of evaluate: as document 01 counts it (`unique_evaluate`), and as evaluate gives it
-- (`no_second_evaluate`).
use mathlib.Core.Path.{◌≡◌}
use mathlib.Core.List.{List}
use Prim.Native.Nat.{ℕ}
use Rattle.std.specs.Prelude.{Result}
use Rattle.refusals.specs.Numbers.{numbered}
use Rattle.refusals.specs.declared.Refusal.{Refusal}
use Rattle.model.specs.Answers.{Answer}
use Rattle.model.specs.Answers.{Kept2}
use Rattle.tables.proofs.Unique.{Same, unique2}
use Rattle.lending.proofs.Unique.{Agree, no_second2}
use Rattle.model.specs.Entries.{evaluate_outcome}

module _ (img ins st out a b : List ℕ) (r s : Answer) (out' st' a' b' out'' st'' a'' b'' : List ℕ) where
  pub unique_evaluate : Kept2 (evaluate_outcome img ins st out a b) out st a b r out' st' a' b' → Kept2 (evaluate_outcome img ins st out a b) out st a b s out'' st'' a'' b''
      → Same r out' a' b' s out'' a'' b'' × (st' ≡ st'')
  unique_evaluate = unique2 (evaluate_outcome img ins st out a b) out a b r s out' a' b' out'' a'' b'' st st' st''

module _ (img ins st out a b : List ℕ) (r s : Result ℕ Refusal) (out' st' a' b' out'' st'' a'' b'' : List ℕ) where
  pub no_second_evaluate : Kept2 (evaluate_outcome img ins st out a b) out st a b (numbered r) out' st' a' b'
      → Kept2 (evaluate_outcome img ins st out a b) out st a b (numbered s) out'' st'' a'' b'' → Agree r out' a' b' s out'' a'' b'' × (st' ≡ st'')
  no_second_evaluate = no_second2 (evaluate_outcome img ins st out a b) out a b r s out' a' b' out'' a'' b'' st st' st''
