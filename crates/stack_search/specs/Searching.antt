-- The stack search of topo_sort, in the tables: what each function asks and leaves.
use Rattle.std.specs.Prelude.{◌≡◌, cond, ℕ, ◌+◌, ◌-◌, ◌<◌, ◌≤◌, List, ◌++◌, length, eqb}
use Rattle.laws.specs.Bools.{bit}
use Rattle.model.specs.Network.{Search, search, sort_result, search_left, is_d, deps, sum_to, topo_order, rising}
use Rattle.shape.proofs.Search.{J}
use Rattle.tables.specs.Layout.{span, cell, count_base, mark_base}
use Rattle.tables.specs.Holding.{network_of}
use Rattle.tables.specs.declared.counts.Counts.{Counts}
use Rattle.remap.specs.Tables.{Sound, stack_of, order_from}
use Rattle.stack_search.specs.declared.Turn.{Turn}

-- the tables hold a state of the search: of n nodes, with the stack up to sp and the order from pos on
pub record Rep (l : List ℕ) (n sp pos : ℕ) (s : Search) : Type 0 where
  pub marks : (v : ℕ) → v < n → cell l mark_base v ≡ bit (s.vis v)
  pub counts : (v : ℕ) → v < n → cell l count_base v ≡ s.cnt v
  pub stk : s.stk ≡ stack_of l sp
  pub ord : s.ord ≡ order_from l pos (n - pos)
  pub top : pos ≤ n

-- a state on the way to the search's result
pub record Live (from l : List ℕ) (c : Counts) (sp pos : ℕ) : Type 0 where
  pub ok : Sound from c
  pub room : span ≤ length l
  pub state : Search
  pub rep : Rep l c.nodes sp pos state
  pub inv : J (network_of from c) state
  pub deep : search_left (network_of from c) state ≤ 2560
  pub fuel : ℕ
  pub rest : search (network_of from c) fuel state ≡ sort_result (network_of from c)

-- the work left, in the words
unfoldable pub left_of : List ℕ → List ℕ → Counts → ℕ → ℕ
left_of from l c sp = sp + sum_to (λ u. cond (eqb (cell l mark_base u) 0) (length (deps (network_of from c) u)) 0) c.nodes

pub record Turned (from l e : List ℕ) (c : Counts) (sp : ℕ) (t : Turn) : Type 0 where
  pub live : Live from e c t.sp t.pos
  pub less : left_of from e c t.sp < left_of from l c sp

-- ---- its end

-- the order's words from pos on; the flip-flops below i are still to come
pub record Flips (from l : List ℕ) (c : Counts) (i pos : ℕ) : Type 0 where
  pub ok : Sound from c
  pub room : span ≤ length l
  pub whole : topo_order (network_of from c) ≡ rising (is_d (network_of from c)) i ++ order_from l pos (c.nodes - pos)
  pub fits : length (rising (is_d (network_of from c)) i) ≤ pos
  pub top : pos ≤ c.nodes
  pub low : i ≤ c.nodes
