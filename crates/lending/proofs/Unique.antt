-- No second answer of an entry: what it promises of `numbered` fixes the answer itself and every lent word at exit.
use mathlib.Core.Path.{◌≡◌}
use mathlib.Core.List.{List}
use Prim.Native.Nat.{ℕ}
use Rattle.std.specs.Prelude.{Result}
use Rattle.refusals.specs.Numbers.{numbered}
use Rattle.refusals.specs.declared.Refusal.{Refusal}
use Rattle.refusals.proofs.Numbers.{same_numbered}
use Rattle.model.specs.Answers.{Outcome, Kept, Kept2}
use Rattle.tables.proofs.Unique.{Same, unique, unique2}

-- two entries' answers, and what the calls left, agree
pub record Agree (r : Result ℕ Refusal) (out a b : List ℕ) (s : Result ℕ Refusal) (out' a' b' : List ℕ) : Type 0 where
  pub answer : r ≡ s
  pub result : out ≡ out'
  pub area_a : a ≡ a'
  pub area_b : b ≡ b'

module _ (o : Outcome) (out a b : List ℕ) (r s : Result ℕ Refusal) (out' a' b' out'' a'' b'' : List ℕ) where
  agree : Same (numbered r) out' a' b' (numbered s) out'' a'' b'' → Agree r out' a' b' s out'' a'' b''
  agree S = record { answer = same_numbered r s S.answer; result = S.result; area_a = S.area_a; area_b = S.area_b }

  pub no_second : Kept o out a b (numbered r) out' a' b' → Kept o out a b (numbered s) out'' a'' b'' → Agree r out' a' b' s out'' a'' b''
  no_second K L = agree (unique o out a b (numbered r) (numbered s) out' a' b' out'' a'' b'' K L)

  -- with a mapping, or a state
  pub no_second2 : (second second' second'' : List ℕ) → Kept2 o out second a b (numbered r) out' second' a' b'
      → Kept2 o out second a b (numbered s) out'' second'' a'' b'' → Agree r out' a' b' s out'' a'' b'' × (second' ≡ second'')
  no_second2 second second' second'' K L =
      let S = unique2 o out a b (numbered r) (numbered s) out' a' b' out'' a'' b'' second second' second'' K L in (agree S.0, S.1)
