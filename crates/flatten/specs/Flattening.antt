-- The flattened network, put gate after gate: what each function asks and leaves.
use Rattle.std.specs.Prelude.{ℕ, ◌≤◌, ◌≡◌, cond, true, Result, List, length, ltb}
use Rattle.refusals.specs.Numbers.{numbered, unless}
use Rattle.refusals.specs.declared.Refusal.{Refusal}
use Rattle.model.specs.Gate.{Net, is_topo_sorted, size}
use Rattle.model.specs.Sharing.{flattened_inputs, flats, merged}
use Rattle.tables.specs.Building.{Packed}
use Rattle.tables.specs.Holding.{Held, Holds, network_of}
use Rattle.tables.specs.Layout.{net_size, nodes_of}
use Rattle.tables.specs.declared.counts.Counts.{Counts}

-- 10, exactly where the unlimited pass meets it
abbrev pub merging_number : ℕ → ℕ
merging_number n = cond (ltb 2048 n) 10 0

pub record Laid (N : Net) (limit : ℕ) (m : List ℕ) (r : Result (Unit {0}) Refusal) : Type 0 where
  pub answer : numbered r ≡ unless (merging_number (flattened_inputs N limit)) tt
  pub packed : flattened_inputs N limit ≤ 2048 → Packed m (size N) (flattened_inputs N limit)
  pub nodes : flattened_inputs N limit ≤ 2048 → nodes_of m (size N) ≡ flats N limit (size N)

-- asked: a sorted network, and an area to put the flattened one into
pub record Mergeable (from to : List ℕ) (c : Counts) : Type 0 where
  pub held : Held from c
  pub sorted : is_topo_sorted (network_of from c) ≡ true
  pub long : net_size ≤ length to

-- given: 10 exactly where the flattened network's inputs pass the limit, else that network
pub record Merged (N : Net) (limit : ℕ) (m : List ℕ) (c : Counts) (r : Result (Unit {0}) Refusal) : Type 0 where
  pub answer : numbered r ≡ unless (merging_number (flattened_inputs N limit)) tt
  pub holds : flattened_inputs N limit ≤ 2048 → Holds m c (merged N limit)
