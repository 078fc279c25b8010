-- The marks of what outputs reach, and the order of what is kept.
use Rattle.std.specs.Prelude.{◌≡◌, ℕ, ◌<◌, ◌≤◌, List, length}
use Rattle.laws.specs.Bools.{bit}
use Rattle.model.specs.Network.{rising, seen}
use Rattle.tables.specs.Layout.{span, cell, mark_base}
use Rattle.tables.specs.Holding.{network_of}
use Rattle.tables.specs.declared.counts.Counts.{Counts}
use Rattle.remap.specs.Tables.{Sound, order_from}

-- the marks are those of what outputs reach
pub record Marked (from l : List ℕ) (c : Counts) : Type 0 where
  pub ok : Sound from c
  pub room : span ≤ length l
  pub marks : (v : ℕ) → v < c.nodes → cell l mark_base v ≡ bit (seen (network_of from c) v)

-- k of the first v nodes are kept
pub record Keeping (from l : List ℕ) (c : Counts) (v k : ℕ) : Type 0 where
  pub marked : Marked from l c
  pub order : order_from l 0 k ≡ rising (seen (network_of from c)) v
  pub few : k ≤ v
