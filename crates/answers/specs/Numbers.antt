-- An answer as document 01 counts it: "Acceptance answers 0 and, where an image is written, its length in bytes; a refusal
-- answers its number and length 0."
use Rattle.std.specs.Prelude.{◌≡◌, ℕ, Result, Ok, Err}

abbrev pub number_of : Result ℕ ℕ → ℕ
number_of (Ok len) = 0
number_of (Err n) = n

-- the same where a refusal is converted to its number
abbrev pub IsNumberOf : {E : Type 0} → (E → ℕ → Type 0) → Result ℕ E → ℕ → Type 0
IsNumberOf converts (Ok len) n = n ≡ 0
IsNumberOf converts (Err e) n = converts e n

abbrev pub length_of : {E : Type 0} → Result ℕ E → ℕ
length_of (Ok len) = len
length_of (Err e) = 0
