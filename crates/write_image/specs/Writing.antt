-- What each part of writing asks and leaves.
use Rattle.std.specs.Prelude.{◌≡◌, ℕ, ◌+◌, ◌*◌, ◌≤◌, ◌<◌, List, length}
use Rattle.laws.specs.Lists.{tab}
use Rattle.tables.specs.Layout.{net_size, kind_at, first_at, count_at, input_at, output_at, cell, tr_base}
use Rattle.tables.specs.Holding.{Held}
use Rattle.tables.specs.declared.counts.Counts.{Counts}
use Rattle.image_trailer.specs.Trailers.{put_words}

unfoldable pub ins_from : List ℕ → ℕ → ℕ → List ℕ
ins_from l first n = tab (λ j. input_at l (first + j)) n

unfoldable pub outs_from : List ℕ → ℕ → List ℕ
outs_from l m = tab (output_at l) m

-- the mapping of so many old nodes, in the table behind the network
unfoldable pub mapping_in : List ℕ → ℕ → List ℕ
mapping_in l old = tab (cell l tr_base) old

-- a node that stands in the tables
pub record Node (l : List ℕ) (v : ℕ) : Type 0 where
  pub long : net_size ≤ length l
  pub few : v < 512
  pub ends : first_at l v + count_at l v ≤ 2048
  pub known : kind_at l v < 15

pub record Inputs (l : List ℕ) (first n : ℕ) (out : List ℕ) (at : ℕ) : Type 0 where
  pub long : net_size ≤ length l
  pub inside : first + n ≤ 2048
  pub room : at + 4 * n ≤ length out

-- words ws of that node have room from `at` on
pub record Writes (l : List ℕ) (v : ℕ) (ws out : List ℕ) (at : ℕ) : Type 0 where
  pub node : Node l v
  pub room : at + 4 * length ws ≤ length out

-- words were stored from `at` on, and end at r
pub record Put (b : List ℕ) (at : ℕ) (ws b' : List ℕ) (r : ℕ) : Type 0 where
  pub bytes : b' ≡ put_words b at ws
  pub end : r ≡ at + 4 * length ws

-- words ws of a network have room
pub record Room (l : List ℕ) (c : Counts) (ws out : List ℕ) : Type 0 where
  pub held : Held l c
  pub room : 4 * length ws ≤ length out

pub record Outputs (l : List ℕ) (m : ℕ) (out : List ℕ) (at : ℕ) : Type 0 where
  pub long : net_size ≤ length l
  pub few : m ≤ 64
  pub room : at + 4 * m ≤ length out

pub record Mapped (l : List ℕ) (old : ℕ) (map : List ℕ) : Type 0 where
  pub inside : tr_base + old ≤ length l
  pub room : old ≤ length map
