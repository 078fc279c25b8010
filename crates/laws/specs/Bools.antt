-- Truth values: the exclusive or, and a truth value as a bit.
use Rattle.std.specs.Prelude.{ℕ, Bool, true, false, not}

-- exclusive or; it computes as soon as the first argument is known
abbrev pub xor : Bool → Bool → Bool
xor false b = b
xor true b = not b

abbrev pub bit : Bool → ℕ
bit false = 0
bit true = 1
