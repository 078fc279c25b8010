-- The new network under way: what stands in the area that is written, and the model's state that it is.
use Rattle.std.specs.Prelude.{ℕ, ◌+◌, ◌≤◌, ◌<◌, ◌≡◌, Bool, true, cond, List, length}
use Rattle.model.specs.Gate.{Gate, remap_gate, shaped, fanin}
use Rattle.model.specs.Normal.{Norm}
use Rattle.model.specs.Network.{Work, place, dedup_node}
use Rattle.tables.specs.Layout.{net_size, first_at, count_at, gate_at, nodes_of, cell}
use Rattle.tables.specs.Building.{Packed, put_node}
use Rattle.gates.specs.declared.Normalization.{Normalization}
use Rattle.same_gate.specs.Listed.{list_base}
use Rattle.same_gate.specs.declared.Sought.{Sought}
use Rattle.translation.specs.Tables.{tr_of}
use Rattle.placing.specs.Lists.{count_of}
use Rattle.lookup.specs.Chains.{Chained, joined}
use Rattle.placing.specs.declared.Built.{Built}
use Rattle.placing.specs.declared.place.Spot.{Spot}

-- so many nodes stand in l, each gate's inputs right behind those before it
pub record Stands (l : List ℕ) (b : Built) : Type 0 where
  pub long : 16384 ≤ length l
  pub packed : Packed l b.nodes b.fanin
  pub firsts : (v : ℕ) → v < b.nodes → first_at l v ≡ fanin (nodes_of l v)
  pub total : b.fanin ≡ fanin (nodes_of l b.nodes)

-- the model's state that the words are
abbrev pub work_of : List ℕ → Built → Work
work_of l b = record { trans = tr_of l; news = nodes_of l b.nodes }

-- ---- a gate put behind those that stand there

pub record Room (l : List ℕ) (b : Built) (n : ℕ) : Type 0 where
  pub stands : Stands l b
  pub chained : Chained l b.nodes
  pub more : b.nodes < 512
  pub fits : b.fanin + n ≤ 2048

pub record Appended (l m : List ℕ) (b : Built) (h : ℕ) (g : Sought) (r : Built) : Type 0 where
  pub words : m ≡ joined (put_node l b.nodes g.kind b.fanin (cell l list_base) g.n g.low g.high) b.nodes h
  pub nodes_is : r.nodes ≡ b.nodes + 1
  pub fanin_is : r.fanin ≡ b.fanin + g.n

pub record Placed (l m : List ℕ) (b : Built) (g : Gate) (r : Spot) : Type 0 where
  pub stands : Stands m r.built
  pub chained : Chained m r.built.nodes
  pub gates : nodes_of m r.built.nodes ≡ (place g (nodes_of l b.nodes)).all
  pub node_is : r.node ≡ (place g (nodes_of l b.nodes)).pos
  pub small : r.node < 512
  pub trans : tr_of m ≡ tr_of l

-- ---- one old node

pub record Settles (l : List ℕ) (v : ℕ) (b : Built) (r : Normalization) : Type 0 where
  pub room : Room l b (count_of r)
  pub node : v < 512

pub record Asks (src l : List ℕ) (v : ℕ) (b : Built) : Type 0 where
  pub source : net_size ≤ length src
  pub node : v < 512
  pub ends : first_at src v + count_at src v ≤ 2048
  pub is_shaped : shaped (gate_at src v) ≡ true
  pub room : Room l b (count_at src v)

-- m is l after a lookup of the normalization nm for old node v
pub record Did (l m : List ℕ) (v : ℕ) (b : Built) (nm : Norm) (r : Built) : Type 0 where
  pub stands : Stands m r
  pub chained : Chained m r.nodes
  pub work : work_of m r ≡ dedup_node nm v (work_of l b)

-- the gate that is looked up for a node
abbrev pub asked_gate : Bool → (ℕ → ℕ) → Gate → Gate
asked_gate c τ g = cond c g (remap_gate τ g)
