-- What topo_sort asks, and that it leaves the model's order, network and mapping, or answers a loop.
use Rattle.std.specs.Prelude.{◌≡◌, Bool, true, false, ℕ, ◌<◌, ◌≤◌, List, length, Result, Ok, Err, ⊤}
use Rattle.model.specs.Gate.{size}
use Rattle.model.specs.Network.{translation, topo_order, sorts, topo_sort}
use Rattle.tables.specs.Layout.{span, cell, tr_base}
use Rattle.tables.specs.Holding.{network_of, Holds}
use Rattle.tables.specs.declared.counts.Counts.{Counts}
pub use Rattle.count_deps.specs.Counting.{Sortable}
use Rattle.remap.specs.Tables.{order_from}
use Rattle.refusals.specs.declared.Refusal.{Refusal}
use Rattle.refusals.specs.declared.Refusal.TheVariants.{Looped}

-- 8 where the order is not full
abbrev pub sorting_of : Bool → Result ⊤ Refusal
sorting_of true = Ok tt
sorting_of false = Err Looped

pub record Ordering (from l : List ℕ) (c : Counts) (r : Result ⊤ Refusal) : Type 0 where
  pub room : span ≤ length l
  pub answer : r ≡ sorting_of (sorts (network_of from c))
  pub order : r ≡ Ok tt → order_from l 0 c.nodes ≡ topo_order (network_of from c)

-- SORT: a loop exactly where the model's order is not full; else the model's network and mapping
pub record Sorted (from l : List ℕ) (c : Counts) (r : Result ⊤ Refusal) : Type 0 where
  pub room : span ≤ length l
  pub answer : r ≡ sorting_of (sorts (network_of from c))
  pub holds : r ≡ Ok tt → Holds l c (topo_sort (network_of from c))
  pub map : r ≡ Ok tt → (v : ℕ) → v < c.nodes → cell l tr_base v ≡ translation (size (network_of from c)) (topo_order (network_of from c)) v
