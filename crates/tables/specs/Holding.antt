-- A network held in an area: what every pass asks of the area that it reads, and gives of the area that it leaves.
use Rattle.std.specs.Prelude.{◌≡◌, ℕ, ◌+◌, ◌<◌, ◌≤◌, List, length}
use Rattle.model.specs.Gate.{Net, Valid}
use Rattle.tables.specs.Layout.{net_size, first_at, count_at, net_of}
use Rattle.tables.specs.declared.counts.Counts.{Counts}

-- the network of so many inputs, nodes and outputs in the words of an area
unfoldable pub network_of : List ℕ → Counts → Net
network_of l c = net_of l c.inputs c.nodes c.outs

-- asked: the tables are there, each gate's inputs stand in the input table, and the network is valid
pub record Held (l : List ℕ) (c : Counts) : Type 0 where
  pub long : net_size ≤ length l
  pub ends : (v : ℕ) → v < c.nodes → first_at l v + count_at l v ≤ 2048
  pub valid : Valid (network_of l c)

-- given: the same, of a network that is named
pub record Holds (l : List ℕ) (c : Counts) (N : Net) : Type 0 where
  pub held : Held l c
  pub net : network_of l c ≡ N
