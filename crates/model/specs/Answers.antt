-- What every entry promises (document 01, "Numbers a caller can get"): one outcome, and from it the answer and every lent
-- word afterwards.
use Rattle.std.specs.Prelude.{◌≡◌, ℕ, Result, Bool, cond, ◌&&◌, ◌||◌, List, ◌++◌, length, drop, replicate, eqb, leb, ltb}
use Rattle.std.specs.Prelude.{Ok, Err}

-- what an entry comes to: refused with a number; an image's bytes written, with a mapping (a word per old node) where there
-- is one; or a cycle evaluated, with the outputs' bytes and the state's bytes for all nodes
pub data Outcome : Type 0 where
  refused : ℕ → Outcome
  written : List ℕ → List ℕ → Outcome
  evaluated : List ℕ → List ℕ → Outcome

-- an answer as document 01 counts it: the length of what was written, or the number of what refuses it
abbrev pub Answer : Type 0
Answer = Result ℕ ℕ

abbrev pub answer_of : Outcome → Answer
answer_of (refused n) = Err n
answer_of (written image mapping) = Ok (length image)
answer_of (evaluated outputs state) = Ok 0

-- a lent buffer with a result at its front, and nothing past it written
unfoldable pub laid_over : List ℕ → List ℕ → List ℕ
laid_over result lent = result ++ drop (length result) lent

-- the buffer lent for the image, or for the outputs
abbrev pub result_after : Outcome → List ℕ → List ℕ
result_after (refused n) lent = lent
result_after (written image mapping) lent = laid_over image lent
result_after (evaluated outputs state) lent = laid_over outputs lent

-- the buffer lent for the mapping, or for the state
abbrev pub second_after : Outcome → List ℕ → List ℕ
second_after (refused n) lent = lent
second_after (written image mapping) lent = laid_over mapping lent
second_after (evaluated outputs state) lent = laid_over state lent

-- ---- the two work areas

-- 1: "either of the two work areas is below 16,384 words"
unfoldable pub areas_short : List ℕ → List ℕ → Bool
areas_short a b = ltb (length a) 16384 || ltb (length b) 16384

-- the first 16,384 words zero, words beyond as found
unfoldable pub cleared : List ℕ → List ℕ
cleared l = replicate 16384 0 ++ drop 16384 l

-- an area afterwards, of the areas a and b: 1 changes nothing, any other answer clears
unfoldable pub area_after : List ℕ → List ℕ → List ℕ → List ℕ
area_after a b l = cond (areas_short a b) l (cleared l)

-- ---- the ladder: 1 before everything, 13 after everything but 14

unfoldable pub in_areas : List ℕ → List ℕ → Outcome → Outcome
in_areas a b o = cond (areas_short a b) (refused 1) o

-- refused with a number, unless it is 0
unfoldable pub unless : ℕ → Outcome → Outcome
unless n o = cond (eqb n 0) o (refused n)

-- 13: "a lent result buffer is shorter than the result"; the lengths lent for the image and for the mapping
abbrev pub in_room : ℕ → ℕ → Outcome → Outcome
in_room result mapping (refused n) = refused n
in_room result mapping (written w m) = cond (leb (length w) result && leb (length m) mapping) (written w m) (refused 13)
in_room result mapping (evaluated os st) = evaluated os st

-- ---- the promise: the answer r and each lent slice at exit (primed), from the outcome and the slices at entry

pub record Kept (o : Outcome) (out a b : List ℕ) (r : Answer) (out' a' b' : List ℕ) : Type 0 where
  pub answer : r ≡ answer_of o
  pub result : out' ≡ result_after o out
  pub area_a : a' ≡ area_after a b a
  pub area_b : b' ≡ area_after a b b

-- with a mapping, or a state, lent beside the result
pub record Kept2 (o : Outcome) (out second a b : List ℕ) (r : Answer) (out' second' a' b' : List ℕ) : Type 0 where
  pub first : Kept o out a b r out' a' b'
  pub second_is : second' ≡ second_after o second
