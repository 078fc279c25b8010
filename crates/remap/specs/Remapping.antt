-- A network taken over by an order of its nodes: what each function asks and leaves.
use Rattle.std.specs.Prelude.{◌≡◌, ℕ, ◌+◌, ◌<◌, ◌≤◌, List, length}
use Rattle.laws.specs.Lists.{tab}
use Rattle.model.specs.Signal.{remap_order}
use Rattle.model.specs.Gate.{Gate, size, remap_gate}
use Rattle.model.specs.Network.{sum_to, translation, remap}
use Rattle.shape.specs.Forms.{Order}
use Rattle.tables.specs.Layout.{net_size, span, kind_at, first_at, count_at, input_at, low_at, high_at, gate_at, nodes_of, cell, tr_base, order_base}
use Rattle.tables.specs.Building.{put_node, Packed}
use Rattle.tables.specs.Holding.{network_of, Holds}
use Rattle.tables.specs.declared.counts.Counts.{Counts}
use Rattle.remap.specs.Tables.{Sound, order_from}

-- the input words of `from` from f on, put through the mapping t
unfoldable pub inputs_by : List ℕ → (ℕ → ℕ) → ℕ → ℕ → ℕ
inputs_by from t f j = remap_order t (input_at from (f + j))

pub record Copying (from l : List ℕ) (f at n : ℕ) : Type 0 where
  pub long : net_size ≤ length from
  pub room : span ≤ length l
  pub fits : f + n ≤ 2048
  pub into : at + n ≤ 2048

-- ---- one gate: node v of `from` as node k

pub record Placing (from l : List ℕ) (c : Counts) (v k at : ℕ) : Type 0 where
  pub ok : Sound from c
  pub room : span ≤ length l
  pub node : v < c.nodes
  pub place : k < 512
  pub into : at + count_at from v ≤ 2048

pub record Put (from l e : List ℕ) (v k at r : ℕ) : Type 0 where
  pub words : e ≡ put_node l k (kind_at from v) at (inputs_by from (cell l tr_base) (first_at from v)) (count_at from v) (low_at from v) (high_at from v)
  pub next : r ≡ at + count_at from v

-- ---- the m nodes of the order in l

-- the inputs of the first k of them
unfoldable pub inputs_of : List ℕ → List ℕ → ℕ → ℕ
inputs_of from l k = sum_to (λ j. count_at from (cell l order_base j)) k

pub record Mapping (from l : List ℕ) (c : Counts) (m : ℕ) : Type 0 where
  pub ok : Sound from c
  pub room : span ≤ length l
  pub few : m ≤ 512
  pub named : (k : ℕ) → k < m → cell l order_base k < c.nodes
  pub into : inputs_of from l m ≤ 2048

-- the kth gate of the order, put through the mapping in l
unfoldable pub gate_by : List ℕ → List ℕ → ℕ → Gate
gate_by from l k = remap_gate (cell l tr_base) (gate_at from (cell l order_base k))

-- k of them stand in e, their inputs below `at`; behind its network e is l
pub record Moving (from l e : List ℕ) (k at : ℕ) : Type 0 where
  pub room : span ≤ length e
  pub packed : Packed e k at
  pub nodes : nodes_of e k ≡ tab (gate_by from l) k
  pub free : at ≡ inputs_of from l k
  pub tables : (b j : ℕ) → net_size ≤ b → cell e b j ≡ cell l b j

pub record Mapped (from l e : List ℕ) (m : ℕ) : Type 0 where
  pub moved : Moving from l e m (inputs_of from l m)

pub record OutMapping (from l : List ℕ) (o : ℕ) : Type 0 where
  pub long : net_size ≤ length from
  pub room : span ≤ length l
  pub few : o ≤ 64

-- ---- the mapping of n old nodes

pub record Numbering (l : List ℕ) (n m : ℕ) : Type 0 where
  pub room : span ≤ length l
  pub most : n ≤ 512
  pub few : m ≤ 512
  pub named : (k : ℕ) → k < m → cell l order_base k < n

-- the first k nodes of the order are numbered
pub record Numbers (l e : List ℕ) (n k : ℕ) : Type 0 where
  pub room : span ≤ length e
  pub map : (v : ℕ) → v < n → cell e tr_base v ≡ translation n (order_from l 0 k) v
  pub order : (j : ℕ) → cell e order_base j ≡ cell l order_base j

pub record Numbered (l e : List ℕ) (n m : ℕ) : Type 0 where
  pub numbers : Numbers l e n m

-- ---- the whole

-- so many nodes
abbrev pub with_nodes : Counts → ℕ → Counts
with_nodes c m = record { inputs = c.inputs; nodes = m; outs = c.outs }

-- asked: m words of an order of the network's nodes, in an area to work in
pub record Orders (from l : List ℕ) (c : Counts) (m : ℕ) : Type 0 where
  pub ok : Sound from c
  pub room : span ≤ length l
  pub order : Order (network_of from c) (order_from l 0 m)

-- left: the network by that order, and the mapping
pub record Remapped (from l e : List ℕ) (c : Counts) (m : ℕ) : Type 0 where
  pub room : span ≤ length e
  pub holds : Holds e (with_nodes c m) (remap (order_from l 0 m) (network_of from c))
  pub map : (v : ℕ) → v < c.nodes → cell e tr_base v ≡ translation (size (network_of from c)) (order_from l 0 m) v
