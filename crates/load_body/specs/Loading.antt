-- What each part of loading asks and leaves.
use Rattle.std.specs.Prelude.{◌≡◌, ℕ, ◌+◌, ◌/◌, ◌≤◌, ◌<◌, cond, List, length, get_or}
use Rattle.model.specs.Gate.{Valid, is_lut, fanin}
use Rattle.model.specs.Image.{words, code_at, count_at, extra, size_at, gates_from, end_from, net_in}
use Rattle.tables.specs.Layout.{net_size, nodes_of, put_table}
use Rattle.tables.specs.Building.{put_node, Packed}
use Rattle.tables.specs.declared.counts.Counts.{Counts}
use Rattle.load_body.specs.declared.Place.{Place}

-- the words from `at` on
unfoldable pub word_from : List ℕ → ℕ → ℕ → ℕ
word_from ws at j = get_or ws (at + j) 0

-- the table words of the record at `at`: a Lut's, else 0
unfoldable pub low_in : List ℕ → ℕ → ℕ
low_in ws at = cond (is_lut (code_at ws at)) (get_or ws (at + 1 + count_at ws at) 0) 0

unfoldable pub high_in : List ℕ → ℕ → ℕ
high_in ws at = cond (is_lut (code_at ws at)) (get_or ws (at + 2 + count_at ws at) 0) 0

-- l with the record at `at` as its node v
unfoldable pub put_record : List ℕ → ℕ → List ℕ → ℕ → ℕ → List ℕ
put_record ws at l v first = put_node l v (code_at ws at) first (word_from ws (at + 1)) (count_at ws at) (low_in ws at) (high_in ws at)

pub record Copies (b : List ℕ) (at : ℕ) (l : List ℕ) (first n : ℕ) : Type 0 where
  pub long : net_size ≤ length l
  pub inside : at + n ≤ length b / 4
  pub room : first + n ≤ 2048

-- the record at `at` has the header h and is within the body
pub record Headed (b : List ℕ) (at h : ℕ) (l : List ℕ) (v : ℕ) : Type 0 where
  pub long : net_size ≤ length l
  pub few : v < 512
  pub header : h ≡ get_or (words b) at 0
  pub inside : at + size_at (words b) at ≤ length b / 4

pub record Tabled (b : List ℕ) (at : ℕ) (l : List ℕ) (v : ℕ) (l' : List ℕ) (r : ℕ) : Type 0 where
  pub area : l' ≡ put_table l v (low_in (words b) at) (high_in (words b) at)
  pub size : r ≡ extra (code_at (words b) at)
  pub few : r ≤ 2

-- the record at a place is within the body, and has room
pub record Fits (b : List ℕ) (p : Place) (l : List ℕ) (v : ℕ) : Type 0 where
  pub long : net_size ≤ length l
  pub few : v < 512
  pub inside : p.at + size_at (words b) p.at ≤ length b / 4
  pub room : p.first + count_at (words b) p.at ≤ 2048

pub record Placed (b : List ℕ) (p : Place) (l : List ℕ) (v : ℕ) (l' : List ℕ) (r : Place) : Type 0 where
  pub area : l' ≡ put_record (words b) p.at l v p.first
  pub next : r.at ≡ p.at + size_at (words b) p.at
  pub free : r.first ≡ p.first + count_at (words b) p.at

-- so many records are within the body, and have room
pub record Records (b l : List ℕ) (n : ℕ) : Type 0 where
  pub long : net_size ≤ length l
  pub few : n ≤ 512
  pub inside : end_from n (words b) 0 ≤ length b / 4
  pub room : fanin (gates_from n (words b) 0) ≤ 2048

-- v of them are loaded, and p is the place of the next
pub record Loading (b l : List ℕ) (v : ℕ) (p : Place) : Type 0 where
  pub packed : Packed l v p.first
  pub nodes : nodes_of l v ≡ gates_from v (words b) 0
  pub next : p.at ≡ end_from v (words b) 0
  pub free : p.first ≡ fanin (gates_from v (words b) 0)

-- all of them are, and end at r
pub record Nodes (b l : List ℕ) (n r : ℕ) : Type 0 where
  pub packed : Packed l n (fanin (gates_from n (words b) 0))
  pub nodes : nodes_of l n ≡ gates_from n (words b) 0
  pub end : r ≡ end_from n (words b) 0

pub record Outputs (b : List ℕ) (at : ℕ) (l : List ℕ) (m : ℕ) : Type 0 where
  pub long : net_size ≤ length l
  pub few : m ≤ 64
  pub inside : at + m ≤ length b / 4

-- what acceptance says of a body and its counts
pub record Loadable (b l : List ℕ) (c : Counts) : Type 0 where
  pub long : net_size ≤ length l
  pub ends : end_from c.nodes (words b) 0 + (c.outs + 4) ≡ length (words b)
  pub valid : Valid (net_in c.inputs c.nodes c.outs (words b))
