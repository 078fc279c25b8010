-- The sweeps over the old nodes, the last turn, and the whole.
use Rattle.std.specs.Prelude.{ℕ, zero, suc, ◌≤◌, ◌<◌, ◌≡◌, Bool, true, List, length}
use Rattle.model.specs.Signal.{from_var, remap_order}
use Rattle.model.specs.Gate.{is_topo_sorted}
use Rattle.model.specs.Network.{Work, dedup_with, dedup_map}
use Rattle.tables.specs.Layout.{tr_base, input_at, put_input, cell}
use Rattle.tables.specs.Holding.{network_of, Held, Holds}
use Rattle.tables.specs.declared.counts.Counts.{Counts}
use Rattle.shape.proofs.DedupSweep.{up_to}
use Rattle.lookup.specs.Lists.{filled}
use Rattle.translation.specs.Tables.{tr_of}
use Rattle.placing.specs.Lists.{norm_of}
use Rattle.lookup.specs.Chains.{Chained}
use Rattle.placing.specs.declared.Built.{Built}
use Rattle.placing.specs.States.{Stands, work_of}

-- the same new nodes, and the same translation of n old ones
pub record Like (n : ℕ) (d e : Work) : Type 0 where
  pub trans : (v : ℕ) → v < n → d.trans v ≡ e.trans v
  pub news : d.news ≡ e.news

-- before node k of a sweep
pub record Sweeping (src l : List ℕ) (c : Counts) (cells canonical : Bool) (k : ℕ) (b : Built) : Type 0 where
  pub held : Held src c
  pub stands : Stands l b
  pub chained : Chained l b.nodes
  pub like : Like c.nodes (work_of l b) (up_to (norm_of canonical) (network_of src c) cells k)

-- ---- the last turn

-- l with each node's own signal as its translation
abbrev pub numbered : List ℕ → ℕ → List ℕ
numbered l n = filled l tr_base (λ v. from_var v) n

-- l with its first n input words translated
unfoldable pub turned : List ℕ → ℕ → List ℕ
turned l zero = l
turned l (suc n) = put_input (turned l n) n (remap_order (tr_of l) (input_at l n))

-- ---- the whole

pub record Dedupable (src l : List ℕ) (c : Counts) : Type 0 where
  pub held : Held src c
  pub sorted : is_topo_sorted (network_of src c) ≡ true
  pub long : 16384 ≤ length l

pub record Deduped (src m : List ℕ) (c : Counts) (canonical : Bool) (r : Counts) : Type 0 where
  pub holds : Holds m r (dedup_with (norm_of canonical) (network_of src c))
  pub mapping : (v : ℕ) → v < c.nodes → cell m tr_base v ≡ dedup_map (norm_of canonical) (network_of src c) v
  pub sorted : is_topo_sorted (dedup_with (norm_of canonical) (network_of src c)) ≡ true
