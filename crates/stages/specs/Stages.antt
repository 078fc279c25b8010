-- What a stage of sharing asks and leaves: the number that refuses it, or its network in an area.
use Rattle.std.specs.Prelude.{◌≡◌, ℕ, ◌≤◌, true, cond, List, Result, length, eqb, ltb}
use Rattle.model.specs.Gate.{Net, is_topo_sorted}
use Rattle.model.specs.Network.{sorts}
use Rattle.model.specs.Sharing.{flattened_inputs, flatten_nary, factor_refusal}
use Rattle.tables.specs.Holding.{network_of, Held, Holds}
use Rattle.tables.specs.declared.counts.Counts.{Counts}
use Rattle.growth.specs.Growing.{counts_of}
use Rattle.refusals.specs.Numbers.{numbered, unless}
use Rattle.refusals.specs.declared.Refusal.{Refusal}

-- 10: "gate inputs after flattening, before cleanup, pass 2,048"
unfoldable pub flat_refusal : Net → ℕ → ℕ
flat_refusal N limit = cond (ltb 2048 (flattened_inputs N limit)) 10 0

-- the first number met, of two stages
abbrev pub first_met : ℕ → ℕ → ℕ
first_met n m = cond (eqb n 0) m n

unfoldable pub share_refusal : Net → ℕ → ℕ
share_refusal N limit = first_met (flat_refusal N limit) (factor_refusal (flatten_nary N limit))

-- asked: a sorted network in one area, and both areas whole
pub record Workable (from to : List ℕ) (c : Counts) : Type 0 where
  pub held : Held from c
  pub sorted : is_topo_sorted (network_of from c) ≡ true
  pub long_from : 16384 ≤ length from
  pub long_to : 16384 ≤ length to

-- asked: a network without a loop
pub record Orderable (from to : List ℕ) (c : Counts) : Type 0 where
  pub held : Held from c
  pub sorts_is : sorts (network_of from c) ≡ true
  pub long_from : 16384 ≤ length from
  pub long_to : 16384 ≤ length to

-- given: the sorted network N in an area
pub record Left (N : Net) (l : List ℕ) (r : Counts) : Type 0 where
  pub holds : Holds l r N
  pub sorted : is_topo_sorted N ≡ true

-- given: refused with k, or with k zero the sorted network N in an area
pub record Staged (k : ℕ) (N : Net) (l : List ℕ) (r : Result Counts Refusal) : Type 0 where
  pub answer : numbered r ≡ unless k (counts_of N)
  pub left : k ≡ 0 → Left N l (counts_of N)
