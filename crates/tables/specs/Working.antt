-- What the work of an entry leaves of its answer and result buffers, the areas being lent to it for scratch.
use Rattle.std.specs.Prelude.{◌≡◌, ℕ, ◌≤◌, List, length}
use Rattle.model.specs.Answers.{Answer}
use Rattle.model.specs.Answers.{Outcome, cleared, answer_of, result_after, second_after}

-- both areas have their 16,384 words
pub record Areas (a b : List ℕ) : Type 0 where
  pub long_a : 16384 ≤ length a
  pub long_b : 16384 ≤ length b

-- and are cleared
pub record Cleared (a b a' b' : List ℕ) : Type 0 where
  pub area_a : a' ≡ cleared a
  pub area_b : b' ≡ cleared b

-- the answer r and the buffer lent for the result, at exit primed, from the outcome
pub record Answered (o : Outcome) (out : List ℕ) (r : Answer) (out' : List ℕ) : Type 0 where
  pub answer : r ≡ answer_of o
  pub result : out' ≡ result_after o out

-- with a mapping, or a state, lent beside the result
pub record Answered2 (o : Outcome) (out second : List ℕ) (r : Answer) (out' second' : List ℕ) : Type 0 where
  pub first : Answered o out r out'
  pub second_is : second' ≡ second_after o second
