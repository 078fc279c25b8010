-- The state of a pass that the words hold, and what replacing a pair leaves.
use Rattle.std.specs.Prelude.{ℕ, ◌+◌, ◌<◌, ◌≤◌, ◌≡◌, List}
use Rattle.laws.specs.Lists.{tab}
use Rattle.model.specs.Sharing.{State, replace_pair}
use Rattle.pairs.specs.Lists.{Laid, lists_of, pair_at, start_at}

-- g lists, n old nodes, k new ones
unfoldable pub state_of : List ℕ → ℕ → ℕ → ℕ → State
state_of l g n k = record { lists = lists_of l g; next = n + k; built = tab (λ j. pair_at l (n + j)) k }

-- there is room for so many new nodes
pub record Ready (l : List ℕ) (g n k room : ℕ) : Type 0 where
  pub laid : Laid l g
  pub old : g ≤ n
  pub nodes : n + room ≤ 512
  pub more : k ≤ room

-- m holds g lists, each where l has it
pub record Placed (l m : List ℕ) (g : ℕ) : Type 0 where
  pub laid : Laid m g
  pub starts : (i : ℕ) → i < g → start_at m i ≡ start_at l i

-- the pair of a and b is new node k
pub record Replaced (l m : List ℕ) (g n k a b : ℕ) : Type 0 where
  pub placed : Placed l m g
  pub state : state_of m g n (k + 1) ≡ replace_pair (state_of l g n k) a b
