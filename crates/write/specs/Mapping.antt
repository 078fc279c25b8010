-- What is asked for a network that is written with its mapping.
use Rattle.std.specs.Prelude.{ℕ, ◌+◌, ◌≤◌, List, length}
use Rattle.tables.specs.Layout.{tr_base}
use Rattle.tables.specs.Holding.{Held}
use Rattle.tables.specs.declared.counts.Counts.{Counts}

-- a network with the mapping of so many old nodes behind it
pub record HeldMapped (l : List ℕ) (c : Counts) (old : ℕ) : Type 0 where
  pub held : Held l c
  pub inside : tr_base + old ≤ length l
