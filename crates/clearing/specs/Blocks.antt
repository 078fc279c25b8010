-- Words from a place on: joined bit by bit, and set to zero.
use Rattle.std.specs.Prelude.{ℕ, zero, suc, ◌+◌, List, get_or, set}
use Rattle.std.specs.Int.Bits.{bit_or}

unfoldable pub joined : List ℕ → ℕ → ℕ → ℕ
joined l from zero = 0
joined l from (suc n) = bit_or (joined l from n) (get_or l (from + n) 0)

unfoldable pub zeroed : List ℕ → ℕ → ℕ → List ℕ
zeroed l from zero = l
zeroed l from (suc n) = set (zeroed l from n) (from + n) 0
