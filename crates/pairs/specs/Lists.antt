-- Where the words of a factoring pass stand in an area, and the lists and pairs that the words hold.
-- Only this file, proofs/Places.antt and src/lists.rt know the places.
use Rattle.std.specs.Prelude.{suc, zero, ℕ, ◌+◌, ◌<◌, ◌≤◌, List, [], ◌∷◌, length}
use Rattle.laws.specs.Lists.{tab}
use Rattle.model.specs.Sharing.{Pair}
use Rattle.tables.specs.Layout.{cell, store}

-- words of an area
abbrev pub area_size : ℕ
area_size = 16384

-- a word for each signal that a network can name; what is in front of the lists is room for a table of pairs
abbrev pub use_base : ℕ
use_base = 0

-- the signals of the gates' lists
abbrev pub sig_base : ℕ
sig_base = 12288

-- for each gate of the pass, where its list starts and how many signals are left in it; for each new node, its pair
abbrev pub start_base : ℕ
start_base = 14336

abbrev pub left_base : ℕ
left_base = 14848

unfoldable pub sig_at : List ℕ → ℕ → ℕ
sig_at l k = cell l sig_base k

unfoldable pub start_at : List ℕ → ℕ → ℕ
start_at l i = cell l start_base i

unfoldable pub left_at : List ℕ → ℕ → ℕ
left_at l i = cell l left_base i

unfoldable pub used_at : List ℕ → ℕ → ℕ
used_at l u = cell l use_base u

unfoldable pub put_sig : List ℕ → ℕ → ℕ → List ℕ
put_sig l k s = store l sig_base k s

unfoldable pub put_start : List ℕ → ℕ → ℕ → List ℕ
put_start l i f = store l start_base i f

unfoldable pub put_left : List ℕ → ℕ → ℕ → List ℕ
put_left l i n = store l left_base i n

unfoldable pub put_used : List ℕ → ℕ → ℕ → List ℕ
put_used l u x = store l use_base u x

-- l with the first n words of the table zero
unfoldable pub zeroed : List ℕ → ℕ → List ℕ
zeroed l zero = l
zeroed l (suc n) = put_used (zeroed l n) n 0

-- a new node's pair stands in the words that a gate has for its list
unfoldable pub pair_at : List ℕ → ℕ → Pair
pair_at l v = record { fst = start_at l v; snd = left_at l v }

unfoldable pub put_pair : List ℕ → ℕ → ℕ → ℕ → List ℕ
put_pair l v a b = put_left (put_start l v a) v b

-- n signals from place f on
unfoldable pub front : List ℕ → ℕ → ℕ → List ℕ
front l f n = tab (λ k. sig_at l (f + k)) n

-- the signals of gate i, and of the first g gates
unfoldable pub list_at : List ℕ → ℕ → List ℕ
list_at l i = front l (start_at l i) (left_at l i)

unfoldable pub lists_of : List ℕ → ℕ → List (List ℕ)
lists_of l g = tab (list_at l) g

-- g lists are held: there is room, and each ends before the next begins
pub record Laid (l : List ℕ) (g : ℕ) : Type 0 where
  pub long : area_size ≤ length l
  pub few : g ≤ 512
  pub ends : (i : ℕ) → i < g → start_at l i + left_at l i ≤ 2048
  pub apart : (i j : ℕ) → i < j → j < g → start_at l i + left_at l i ≤ start_at l j

-- l with the signals m from place f on
unfoldable pub put_list : List ℕ → ℕ → List ℕ → List ℕ
put_list l f [] = l
put_list l f (x ∷ m) = put_list (put_sig l f x) (suc f) m

-- l with m as gate i's list
unfoldable pub set_list : List ℕ → ℕ → List ℕ → List ℕ
set_list l i m = put_left (put_list l (start_at l i) m) i (length m)
