-- Cleanup: what each function asks and leaves, and that the whole leaves the model's network and mapping.
use Rattle.std.specs.Prelude.{◌≡◌, cond, ℕ, ◌+◌, ◌<◌, ◌≤◌, List, ◌++◌, length, eqb}
use Rattle.laws.specs.Bools.{bit}
use Rattle.laws.specs.Lists.{tab}
use Rattle.model.specs.Gate.{size}
use Rattle.model.specs.Network.{vars, deps, sum_to, translation, Walk, walk, walk_left, cleanup_order, cleanup}
use Rattle.shape.specs.Forms.{Below}
use Rattle.shape.proofs.Cleanup.{K, last_walk}
use Rattle.tables.specs.Layout.{net_size, span, input_at, output_at, cell, tr_base, mark_base}
use Rattle.tables.specs.Holding.{network_of, Held, Holds}
use Rattle.tables.specs.declared.counts.Counts.{Counts}
use Rattle.remap.specs.Tables.{Sound, stack_of}

-- ---- signals put on the stack

pub record CanPush (l : List ℕ) (s sp : ℕ) : Type 0 where
  pub room : span ≤ length l
  pub named : Below 512 s
  pub deep : sp < 4608

-- the nodes ds are on top of what was on the stack, at most so many; of the other tables only the marks matter
pub record Pushed (l e ds : List ℕ) (sp r most : ℕ) : Type 0 where
  pub room : span ≤ length e
  pub stk : stack_of e r ≡ ds ++ stack_of l sp
  pub marks : (u : ℕ) → u < 512 → cell e mark_base u ≡ cell l mark_base u
  pub top : r ≤ sp + most

-- asked of n signals, the jth of which is one that `post j` tells, where it may be asked for
pub record PushAll (pre : ℕ → Type 0) (post : ℕ → ℕ → Type 0) (l : List ℕ) (n sp : ℕ) : Type 0 where
  pub room : span ≤ length l
  pub deep : sp + n ≤ 4608
  pub may : (j : ℕ) → j < n → pre j
  pub named : (j s : ℕ) → j < n → post j s → Below 512 s

-- the signals told are g 0, .. g (n - 1)
abbrev pub Tells : (ℕ → ℕ → Type 0) → (ℕ → ℕ) → ℕ → Type 0
Tells post g n = (j s : ℕ) → j < n → post j s → s ≡ g j

pub record PushIns (from l : List ℕ) (f n sp : ℕ) : Type 0 where
  pub long : net_size ≤ length from
  pub room : span ≤ length l
  pub fits : f + n ≤ 2048
  pub named : (j : ℕ) → j < n → Below 512 (input_at from (f + j))
  pub deep : sp + n ≤ 4608

pub record PushOuts (from l : List ℕ) (o : ℕ) : Type 0 where
  pub long : net_size ≤ length from
  pub room : span ≤ length l
  pub few : o ≤ 64
  pub named : (j : ℕ) → j < o → Below 512 (output_at from j)

-- of the signals g 0, .. g (n - 1), those below j are still to be pushed
pub record Pushing (g : ℕ → ℕ) (l : List ℕ) (n sp : ℕ) (e : List ℕ) (r j : ℕ) : Type 0 where
  pub room : span ≤ length e
  pub whole : vars (tab g n) ++ stack_of l sp ≡ vars (tab g j) ++ stack_of e r
  pub marks : (u : ℕ) → u < 512 → cell e mark_base u ≡ cell l mark_base u
  pub top : r + j ≤ sp + n
  pub low : j ≤ n

-- ---- the walk

-- a network in `from`, and an area to work in
pub record Cleanable (from l : List ℕ) (c : Counts) : Type 0 where
  pub held : Held from c
  pub room : span ≤ length l

-- the tables hold a state on the way to the walk's end
pub record Walking (from l : List ℕ) (c : Counts) (sp : ℕ) : Type 0 where
  pub ok : Sound from c
  pub room : span ≤ length l
  pub state : Walk
  pub marks : (v : ℕ) → v < c.nodes → cell l mark_base v ≡ bit (state.vis v)
  pub stk : state.stk ≡ stack_of l sp
  pub inv : K (network_of from c) state
  pub deep : walk_left (network_of from c) state ≤ 2560
  pub fuel : ℕ
  pub rest : walk (network_of from c) fuel state ≡ last_walk (network_of from c)

-- the work left, in the words
unfoldable pub left_of : List ℕ → List ℕ → Counts → ℕ → ℕ
left_of from l c sp = sp + sum_to (λ u. cond (eqb (cell l mark_base u) 0) (length (deps (network_of from c) u)) 0) c.nodes

pub record Walked (from l e : List ℕ) (c : Counts) (sp r : ℕ) : Type 0 where
  pub live : Walking from e c r
  pub less : left_of from e c r < left_of from l c sp

-- CLEANUP: the model's network, of the counts r, and the mapping
pub record Cleaned (from l : List ℕ) (c r : Counts) : Type 0 where
  pub room : span ≤ length l
  pub holds : Holds l r (cleanup (network_of from c))
  pub map : (v : ℕ) → v < c.nodes → cell l tr_base v ≡ translation (size (network_of from c)) (cleanup_order (network_of from c)) v
