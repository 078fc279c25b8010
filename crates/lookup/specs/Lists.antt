-- A table filled word by word, and what a search answers.
use Rattle.std.specs.Prelude.{ℕ, zero, suc, List, Option, Some, None}
use Rattle.std.proofs.Math.Option as math
use Rattle.tables.specs.Layout.{store}

-- l with f 0, .. f (n - 1) as words of the table at b
unfoldable pub filled : List ℕ → ℕ → (ℕ → ℕ) → ℕ → List ℕ
filled l b f zero = l
filled l b f (suc n) = store (filled l b f n) b n (f n)

abbrev pub as_option : Option ℕ → math.Option ℕ
as_option (Some w) = math.some w
as_option None = math.none

-- a node as the chains' words name it, counted from 1; 0 is none
abbrev pub counted : Option ℕ → ℕ
counted None = 0
counted (Some w) = suc w
