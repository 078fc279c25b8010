-- Counting how often nodes are named, word by word.
use Rattle.std.specs.Prelude.{◌≡◌, cond, ℕ, zero, suc, ◌+◌, ◌-◌, ◌*◌, ◌/◌, ◌<◌, ◌≤◌, List, length}
use Rattle.kinds.specs.Kinds.{kind_of, is_flip_flop}
use Rattle.model.specs.Signal.{is_var}
use Rattle.model.specs.Network.{users, is_d}
use Rattle.shape.specs.Forms.{Below}
use Rattle.tables.specs.Layout.{net_size, span, kind_at, first_at, count_at, input_at, cell, store, count_base}
use Rattle.tables.specs.Holding.{network_of, Held}
use Rattle.tables.specs.declared.counts.Counts.{Counts}
use Rattle.remap.specs.Tables.{Sound}

-- a network in `from`, and an area to work in
pub record Sortable (from l : List ℕ) (c : Counts) : Type 0 where
  pub held : Held from c
  pub room : span ≤ length l

unfoldable pub count_one : List ℕ → ℕ → List ℕ
count_one l s = cond (is_var s) (store l count_base (s / 2 - 1) (cell l count_base (s / 2 - 1) + 1)) l

unfoldable pub count_ins : List ℕ → ℕ → List ℕ → ℕ → List ℕ
count_ins from f l zero = l
count_ins from f l (suc j) = count_one (count_ins from f l j) (input_at from (f + j))

unfoldable pub count_gate : List ℕ → List ℕ → ℕ → List ℕ
count_gate from l v = cond (is_flip_flop (kind_of (kind_at from v))) l (count_ins from (first_at from v) l (count_at from v))

unfoldable pub count_gates : List ℕ → List ℕ → ℕ → List ℕ
count_gates from l zero = l
count_gates from l (suc v) = count_gate from (count_gates from l v) v

-- no count is above b
pub record Bounded (l : List ℕ) (b : ℕ) : Type 0 where
  pub most : (d : ℕ) → d < 512 → cell l count_base d ≤ b

pub record CanCount (l : List ℕ) (s : ℕ) : Type 0 where
  pub room : span ≤ length l
  pub named : Below 512 s
  pub bounded : Bounded l 4294967294

pub record Counting (from l : List ℕ) (f n : ℕ) : Type 0 where
  pub long : net_size ≤ length from
  pub room : span ≤ length l
  pub fits : f + n ≤ 2048
  pub named : (j : ℕ) → j < n → Below 512 (input_at from (f + j))
  pub bounded : Bounded l 1048576

pub record GateTurn (from l : List ℕ) (c : Counts) (v : ℕ) : Type 0 where
  pub ok : Sound from c
  pub room : span ≤ length l
  pub node : v < c.nodes
  pub bounded : Bounded l (2048 * v)

-- the counts are the model's
pub record Counted (from l : List ℕ) (c : Counts) : Type 0 where
  pub room : span ≤ length l
  pub counts : (d : ℕ) → d < 512 → cell l count_base d ≡ users (network_of from c) (is_d (network_of from c)) d
