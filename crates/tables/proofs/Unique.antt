-- No second answer: what an entry promises fixes the answer and every lent word at exit.
use mathlib.Core.Path.{◌≡◌, sym, ◌∙◌}
use mathlib.Core.List.{List}
use Prim.Native.Nat.{ℕ}
use Rattle.model.specs.Answers.{Answer}
use Rattle.model.specs.Answers.{Outcome, Kept, Kept2}

-- two answers, and what two calls left, agree
pub record Same (r : Answer) (out a b : List ℕ) (s : Answer) (out' a' b' : List ℕ) : Type 0 where
  pub answer : r ≡ s
  pub result : out ≡ out'
  pub area_a : a ≡ a'
  pub area_b : b ≡ b'

module _ (o : Outcome) (out a b : List ℕ) (r s : Answer) (out' a' b' out'' a'' b'' : List ℕ) where
  pub unique : Kept o out a b r out' a' b' → Kept o out a b s out'' a'' b'' → Same r out' a' b' s out'' a'' b''
  unique K L = record {
    answer = K.answer ∙ sym L.answer;
    result = K.result ∙ sym L.result;
    area_a = K.area_a ∙ sym L.area_a;
    area_b = K.area_b ∙ sym L.area_b;
  }

  -- with a mapping, or a state
  pub unique2 : (second second' second'' : List ℕ) → Kept2 o out second a b r out' second' a' b' → Kept2 o out second a b s out'' second'' a'' b''
      → Same r out' a' b' s out'' a'' b'' × (second' ≡ second'')
  unique2 second second' second'' K L = (unique K.first L.first, K.second_is ∙ sym L.second_is)
