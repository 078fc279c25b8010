-- Words pushed at the end of the input table: what each function asks and leaves.
use Rattle.std.specs.Prelude.{suc, ℕ, ◌+◌, ◌-◌, ◌/◌, ◌<◌, ◌≤◌, ◌≡◌, Bool, cond, not, ◌&&◌, Option, Some, None, List, [], ◌∷◌, length, leb}
use Rattle.model.specs.Gate.{Gate}
use Rattle.model.specs.Sharing.{inside}
use Rattle.model.specs.Signal.{is_inverted, is_var}
use Rattle.model.proofs.Names.{In}
use Rattle.shape.specs.Forms.{Below}
use Rattle.tables.specs.Building.{Packed}
use Rattle.tables.specs.Layout.{count_at, first_at, ins_at, net_size, put_input}
use Rattle.kinds.specs.declared.Family.{Family}

-- l with the words ws as its input words from `at` on
unfoldable pub put_words : List ℕ → ℕ → List ℕ → List ℕ
put_words l at [] = l
put_words l at (x ∷ ws) = put_words (put_input l at x) (suc at) ws

-- the place behind n words from `at` on, if they have room
unfoldable pub behind : ℕ → ℕ → Option ℕ
behind at n = cond (leb (at + n) 2048) (Some (at + n)) None

-- from l, m has the words ws from `at` on, if they have room
pub record Pushes (l m : List ℕ) (at : ℕ) (ws : List ℕ) (r : Option ℕ) : Type 0 where
  pub answer : r ≡ behind at (length ws)
  pub words : at + length ws ≤ 2048 → m ≡ put_words l at ws

-- node w of the first v is read, and written behind them
pub record Reading (l : List ℕ) (v w at : ℕ) : Type 0 where
  pub packed : Packed l v at
  pub below : w < v

-- ---- what an input becomes

-- the test of `opened`, by the number that code meets
unfoldable pub opens : Family → (ℕ → Gate) → ℕ → ℕ → ℕ → Bool
opens f G limit used s = is_var s && ((not (is_inverted s) && inside f (G (s / 2 - 1))) && leb (used + length (G (s / 2 - 1)).ins) limit)

-- s is tested over the first v nodes
pub record Opening (l : List ℕ) (v s used : ℕ) : Type 0 where
  pub long : net_size ≤ length l
  pub few : v ≤ 512
  pub ends : (w : ℕ) → w < v → count_at l w ≤ 2048
  pub below : Below v s
  pub small : used ≤ 4096

-- and what it becomes is written behind them
pub record Becoming (l : List ℕ) (v s used at : ℕ) : Type 0 where
  pub packed : Packed l v at
  pub opening : Opening l v s used

-- node v of `from` is merged over the nodes of l, all that there are below v
pub record Merges (from l : List ℕ) (v start : ℕ) : Type 0 where
  pub source : net_size ≤ length from
  pub node : v < 512
  pub ends : first_at from v + count_at from v ≤ 2048
  pub packed : Packed l v start
  pub below : In (λ w. w < v) (ins_at from v)
