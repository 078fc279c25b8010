-- A word stored in a list of bytes.
use Rattle.std.specs.Prelude.{ℕ, ◌+◌, ◌/◌, ◌%◌, List, set}

-- the list with a word stored at `at`
unfoldable pub put_word : List ℕ → ℕ → ℕ → List ℕ
put_word b at w = set (set (set (set b at (w % 256)) (at + 1) (w / 256 % 256)) (at + 2) (w / 65536 % 256)) (at + 3) (w / 16777216)
