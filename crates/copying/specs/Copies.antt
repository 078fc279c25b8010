-- A gate copied from one network to another, as it is: what each function asks and leaves.
use Rattle.std.specs.Prelude.{ℕ, ◌+◌, ◌<◌, ◌≤◌, List, length}
use Rattle.tables.specs.Building.{put_node}
pub use Rattle.tables.specs.Building.{inputs_from}
use Rattle.tables.specs.Layout.{count_at, first_at, high_at, kind_at, low_at, net_size}

-- node v, its input words put from `at` on
pub record Putting (from l : List ℕ) (v at : ℕ) : Type 0 where
  pub source : net_size ≤ length from
  pub long : net_size ≤ length l
  pub few : v < 512
  pub ends : first_at from v + count_at from v ≤ 2048
  pub room : at + count_at from v ≤ 2048

-- l with node v of from as its own, its input words from `at` on
unfoldable pub put_copy : List ℕ → List ℕ → ℕ → ℕ → List ℕ
put_copy from l v at = put_node l v (kind_at from v) at (inputs_from from (first_at from v)) (count_at from v) (low_at from v) (high_at from v)
