-- Lists kept in the tables behind a network, and what a pass knows of the network that it reads, word by word.
use Rattle.std.specs.Prelude.{ℕ, zero, suc, ◌+◌, ◌<◌, ◌≤◌, List, [], ◌∷◌, length}
use Rattle.laws.specs.Lists.{tab}
use Rattle.model.specs.Network.{sum_to}
use Rattle.shape.specs.Forms.{Below}
use Rattle.tables.specs.Layout.{net_size, first_at, count_at, input_at, output_at, cell, stack_base, order_base}
use Rattle.tables.specs.Holding.{Held}
use Rattle.tables.specs.declared.counts.Counts.{Counts}

-- words k - 1, .. 0 of the stack: the top first
unfoldable pub stack_of : List ℕ → ℕ → List ℕ
stack_of l zero = []
stack_of l (suc k) = cell l stack_base k ∷ stack_of l k

-- k words of the order from `at` on
unfoldable pub order_from : List ℕ → ℕ → ℕ → List ℕ
order_from l at zero = []
order_from l at (suc k) = cell l order_base at ∷ order_from l (suc at) k

-- k input words from f on
abbrev pub ins_from : List ℕ → ℕ → ℕ → List ℕ
ins_from from f k = tab (λ j. input_at from (f + j)) k

pub record Sound (from : List ℕ) (c : Counts) : Type 0 where
  pub held : Held from c
  pub long : net_size ≤ length from
  pub few : c.nodes ≤ 512
  pub outs_few : c.outs ≤ 64
  pub ends : (v : ℕ) → v < c.nodes → first_at from v + count_at from v ≤ 2048
  pub named : (v j : ℕ) → v < c.nodes → j < count_at from v → Below c.nodes (input_at from (first_at from v + j))
  pub outs_named : (j : ℕ) → j < c.outs → Below c.nodes (output_at from j)
  pub total : sum_to (count_at from) c.nodes ≤ 2048
