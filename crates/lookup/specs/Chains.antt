-- Lookup by a hash: the bucket of a gate, and each bucket's nodes as a chain, the last one first.
use Rattle.std.specs.Prelude.{ℕ, zero, suc, ◌+◌, ◌*◌, ◌/◌, ◌%◌, ◌<◌, ◌≡◌, cond, List, length, get_or, eqb}
use Rattle.model.specs.Gate.{Gate}
use Rattle.tables.specs.Layout.{gate_at, cell, store}
use Rattle.same_gate.specs.Listed.{Searched}
use Rattle.translation.specs.Tables.{cleared_table}

-- Only speed hangs on the numbers: an odd factor, near 2 ^ 30 / 1.618, spreads a word over the high bits; 4294967291 is prime.
-- one word more stirred into a number below 2 ^ 32
unfoldable pub stir : ℕ → ℕ → ℕ
stir a x = (a + x) * 663608941 % 4294967296

-- k, with f 0, .. f (n - 1) stirred in
unfoldable pub stirred : ℕ → (ℕ → ℕ) → ℕ → ℕ
stirred k f zero = k
stirred k f (suc n) = stir (stirred k f n) (f n)

-- one of 256 buckets, by kind, inputs in order and table
unfoldable pub bucket_of : Gate → ℕ
bucket_of g = stir (stirred g.kind (λ j. get_or g.ins j 0) (length g.ins)) (g.table % 4294967291) / 16777216

abbrev pub buckets_of : List ℕ → ℕ → ℕ
buckets_of l v = bucket_of (gate_at l v)

-- the last of n nodes with their buckets in B that is in bucket h, counted from 1; 0 where none is
unfoldable pub last_in : (ℕ → ℕ) → ℕ → ℕ → ℕ
last_in B h zero = 0
last_in B h (suc v) = cond (eqb (B v) h) (suc v) (last_in B h v)

-- where the words stand: a head for each bucket, and a link for each node
abbrev pub head_base : ℕ
head_base = 5184

abbrev pub link_base : ℕ
link_base = 5440

-- a chain for each bucket: the head is its last node, and a node's link the last one before it
pub record Chained (l : List ℕ) (n : ℕ) : Type 0 where
  pub heads : (h : ℕ) → h < 256 → cell l head_base h ≡ last_in (buckets_of l) h n
  pub links : (v : ℕ) → v < n → cell l link_base v ≡ last_in (buckets_of l) (buckets_of l v) v

-- l with node v put before chain h
unfoldable pub joined : List ℕ → ℕ → ℕ → List ℕ
joined l v h = store (store l link_base v (cell l head_base h)) head_base h (v + 1)

-- l with n chains empty
abbrev pub emptied : List ℕ → ℕ → List ℕ
emptied l n = cleared_table l head_base n

-- asked of a search for g among n nodes
pub record Seeks (l : List ℕ) (n h : ℕ) (g : Gate) : Type 0 where
  pub searched : Searched l n
  pub chained : Chained l n
  pub bucket : h ≡ bucket_of g
