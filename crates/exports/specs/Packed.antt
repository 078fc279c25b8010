-- An answer for C: "the number in its low 32 bits and the length in its high 32 bits".
use Rattle.std.specs.Prelude.{◌≡◌, ℕ, ◌+◌, ◌*◌, List}
use Rattle.answers.specs.Numbers.{number_of, length_of}
use Rattle.model.specs.Answers.{Answer}
use Rattle.model.specs.Answers.{Outcome, answer_of, Kept, Kept2}

unfoldable pub packed : Answer → ℕ
packed a = number_of a + 4294967296 * length_of a

-- the entry's promise, its answer packed
pub record Exported (o : Outcome) (out a b : List ℕ) (r : ℕ) (out' a' b' : List ℕ) : Type 0 where
  pub number : r ≡ packed (answer_of o)
  pub kept : Kept o out a b (answer_of o) out' a' b'

-- with a mapping, or a state
pub record Exported2 (o : Outcome) (out second a b : List ℕ) (r : ℕ) (out' second' a' b' : List ℕ) : Type 0 where
  pub number : r ≡ packed (answer_of o)
  pub kept : Kept2 o out second a b (answer_of o) out' second' a' b'
