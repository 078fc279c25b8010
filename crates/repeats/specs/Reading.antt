-- What the search for a repeat asks of the area that it reads, and the number that it comes to.
use Rattle.std.specs.Prelude.{ℕ, ◌+◌, ◌<◌, ◌≤◌, cond, List, length}
use Rattle.model.specs.Gate.{Gate}
use Rattle.model.specs.Sharing.{any_repeats}
use Rattle.tables.specs.Layout.{count_at, first_at, net_size}

-- node v's inputs stand in the input table
pub record Node (l : List ℕ) (v : ℕ) : Type 0 where
  pub long : net_size ≤ length l
  pub few : v < 512
  pub ends : first_at l v + count_at l v ≤ 2048

-- those of each of the first n nodes do
pub record Nodes (l : List ℕ) (n : ℕ) : Type 0 where
  pub long : net_size ≤ length l
  pub few : n ≤ 512
  pub ends : (v : ℕ) → v < n → first_at l v + count_at l v ≤ 2048

-- 9, or 0
unfoldable pub repeats_refusal : List Gate → ℕ
repeats_refusal gs = cond (any_repeats gs) 9 0
