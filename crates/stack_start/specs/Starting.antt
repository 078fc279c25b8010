-- The start of the stack search, in the tables.
use Rattle.std.specs.Prelude.{◌≡◌, ℕ, ◌<◌, ◌≤◌, List, [], length}
use Rattle.laws.specs.Bools.{bit}
use Rattle.model.specs.Network.{users, is_d, descend}
use Rattle.shape.proofs.Search.{ready}
use Rattle.tables.specs.Layout.{span, cell, count_base, mark_base}
use Rattle.tables.specs.Holding.{network_of}
use Rattle.tables.specs.declared.counts.Counts.{Counts}
use Rattle.remap.specs.Tables.{Sound, stack_of}

-- the first v nodes are marked or put on the stack
pub record Started (from l : List ℕ) (c : Counts) (v sp : ℕ) : Type 0 where
  pub ok : Sound from c
  pub room : span ≤ length l
  pub counts : (d : ℕ) → d < 512 → cell l count_base d ≡ users (network_of from c) (is_d (network_of from c)) d
  pub marks : (u : ℕ) → u < v → cell l mark_base u ≡ bit (is_d (network_of from c) u)
  pub stk : stack_of l sp ≡ descend (network_of from c) (ready (network_of from c)) v []
  pub few : sp ≤ v
