-- What replacing a pair leaves in the words, gate by gate.
use Rattle.std.specs.Prelude.{suc, zero, ℕ, List}
use Rattle.replace_in.specs.Words.{replaced_in}

unfoldable pub replaced_all : List ℕ → ℕ → ℕ → ℕ → ℕ → List ℕ
replaced_all l zero p q z = l
replaced_all l (suc i) p q z = replaced_in (replaced_all l i p q z) i p q z
