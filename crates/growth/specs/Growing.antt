-- The grown network, put in front of the lists: what each function asks and leaves.
use Rattle.std.specs.Prelude.{ℕ, ◌*◌, ◌+◌, ◌<◌, ◌≤◌, ◌≡◌, cond, List, map, ◌++◌, length, eqb}
use Rattle.laws.specs.Lists.{tab}
use Rattle.model.specs.Gate.{Net, size}
use Rattle.model.specs.Sharing.{factoring, grown, pair_gate, replaced}
use Rattle.pairs.specs.Lists.{Laid, area_size, left_at, lists_of, pair_at}
use Rattle.pairs.specs.States.{state_of}
use Rattle.shape.specs.Room.{buf_inputs, room_of}
use Rattle.tables.specs.Building.{Packed}
use Rattle.tables.specs.Holding.{Held, Holds, network_of}
use Rattle.tables.specs.Layout.{net_size, nodes_of}
use Rattle.uses.specs.Loading.{SameLists, Source, lists_in}
use Rattle.kinds.specs.declared.Family.{Family}
use Rattle.tables.specs.declared.counts.Counts.{Counts}

-- a, and b behind it
unfoldable pub either : ℕ → ℕ → ℕ → ℕ
either a b j = cond (eqb j 0) a b

pub record Puts (l : List ℕ) (v at n : ℕ) : Type 0 where
  pub long : net_size ≤ length l
  pub few : v < 512
  pub room : at + n ≤ 2048

-- ---- the old nodes

-- one signal is left of each gate
pub record Begun (f : Family) (from l : List ℕ) (n : ℕ) : Type 0 where
  pub source : Source from n
  pub laid : Laid l (length (lists_in f from n))
  pub ones : (i : ℕ) → i < length (lists_in f from n) → left_at l i ≡ 1

pub record Nodes (f : Family) (from l m : List ℕ) (n r : ℕ) : Type 0 where
  pub count : r ≡ buf_inputs f (nodes_of from n)
  pub same : SameLists l m
  pub packed : Packed m n r
  pub nodes : nodes_of m n ≡ replaced f (nodes_of from n) (lists_of l (length (lists_in f from n)))

-- ---- the new nodes

pub record Paired (l : List ℕ) (n k at : ℕ) : Type 0 where
  pub long : area_size ≤ length l
  pub packed : Packed l n at
  pub nodes : n + k ≤ 512
  pub room : at + 2 * k ≤ 2048

pub record Whole (f : Family) (l m : List ℕ) (n k at : ℕ) : Type 0 where
  pub long : length m ≡ length l
  pub packed : Packed m (n + k) (at + 2 * k)
  pub nodes : nodes_of m (n + k) ≡ nodes_of l n ++ map (pair_gate f) (tab (λ j. pair_at l (n + j)) k)

-- ---- all of it

-- how much of an area's tables a network fills
abbrev pub counts_of : Net → Counts
counts_of N = record { inputs = N.inputs; nodes = size N; outs = length N.outs }

-- l holds the end of the pass, with k new nodes
pub record Ended (f : Family) (from l : List ℕ) (c : Counts) (k : ℕ) : Type 0 where
  pub held : Held from c
  pub laid : Laid l (length (lists_in f from c.nodes))
  pub fits : k ≤ room_of f (nodes_of from c.nodes)
  pub state : state_of l (length (lists_in f from c.nodes)) c.nodes k ≡ factoring (lists_in f from c.nodes) c.nodes

pub record Grows (f : Family) (from m : List ℕ) (c r : Counts) : Type 0 where
  pub counts : r ≡ counts_of (grown f (network_of from c))
  pub holds : Holds m r (grown f (network_of from c))
