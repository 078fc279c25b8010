-- What each part of a listing asks of the tables, and the inputs of a node as fields.
use Rattle.std.specs.Prelude.{ℕ, ◌+◌, ◌≤◌, ◌<◌, List, ◌∷◌, ◌++◌, map, length}
use Rattle.laws.specs.Lists.{tab}
use Rattle.kinds.specs.Kinds.{kind_of}
use Rattle.model.specs.Listing.{decimal, kind_text, signal_text, spaced}
use Rattle.tables.specs.Layout.{net_size, first_at, count_at, input_at}

-- a node that stands in the tables
pub record Node (l : List ℕ) (v : ℕ) : Type 0 where
  pub long : net_size ≤ length l
  pub few : v < 512
  pub ends : first_at l v + count_at l v ≤ 2048

-- input words that stand in the tables
pub record Inputs (l : List ℕ) (first n : ℕ) : Type 0 where
  pub long : net_size ≤ length l
  pub inside : first + n ≤ 2048

-- the name and the kind of a node
unfoldable pub head_text : ℕ → ℕ → List ℕ
head_text v kind = (120 ∷ decimal v) ++ (32 ∷ kind_text (kind_of kind))

-- the n inputs from `first` on, as fields
unfoldable pub inputs_text : List ℕ → ℕ → ℕ → List ℕ
inputs_text l first n = spaced (map signal_text (tab (λ j. input_at l (first + j)) n))

-- so many outputs
pub record Outputs (l : List ℕ) (m : ℕ) : Type 0 where
  pub long : net_size ≤ length l
  pub few : m ≤ 64
