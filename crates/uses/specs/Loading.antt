-- From a network in one area to the lists of a pass in another.
use Rattle.std.specs.Prelude.{ℕ, ◌+◌, ◌<◌, ◌≤◌, ◌≡◌, Bool, false, List, [], ◌∷◌, length, take}
use Rattle.model.specs.Gate.{fanin}
use Rattle.model.specs.Sharing.{once, retain, shared_signals, taken, total}
use Rattle.pairs.specs.Lists.{Laid, area_size, left_at, lists_of, put_left, put_list, put_start, sig_at, start_at}
use Rattle.tables.specs.Layout.{count_at, first_at, input_at, ins_at, net_size, nodes_of}
use Rattle.uses.specs.Uses.{Named, is_once, wanted}
use Rattle.kinds.specs.declared.Family.{Family}

-- node v of the network in l: its inputs stand in the input table, and each has a word in the table of uses
pub record Node (l : List ℕ) (v : ℕ) : Type 0 where
  pub long : net_size ≤ length l
  pub few : v < 512
  pub ends : first_at l v + count_at l v ≤ 2048
  pub names : (j : ℕ) → j < count_at l v → Named (input_at l (first_at l v + j))

-- n nodes, whose inputs all have room in one table
pub record Source (l : List ℕ) (n : ℕ) : Type 0 where
  pub long : net_size ≤ length l
  pub few : n ≤ 512
  pub nodes : (v : ℕ) → v < n → Node l v
  pub room : fanin (nodes_of l n) ≤ 2048

-- the lists of the pass's gates, of the first n nodes
unfoldable pub lists_in : Family → List ℕ → ℕ → List (List ℕ)
lists_in f l n = taken f (nodes_of l n)

-- where list i of gs starts: behind the gates before it
unfoldable pub slot : List (List ℕ) → ℕ → ℕ
slot gs i = total (take i gs)

-- the table of l says which signals of gs are used once
pub record Says (gs : List (List ℕ)) (l : List ℕ) : Type 0 where
  pub says : (x : ℕ) → Named x → is_once l x ≡ once gs x

-- ---- counting

pub record Between (from to : List ℕ) (n : ℕ) : Type 0 where
  pub source : Source from n
  pub long : area_size ≤ length to

pub record Counting (from to : List ℕ) (v : ℕ) : Type 0 where
  pub node : Node from v
  pub long : area_size ≤ length to

-- m has the lists and the pairs of l
pub record SameLists (l m : List ℕ) : Type 0 where
  pub long : length m ≡ length l
  pub sigs : (k : ℕ) → k < 2048 → sig_at m k ≡ sig_at l k
  pub starts : (i : ℕ) → start_at m i ≡ start_at l i
  pub lefts : (i : ℕ) → left_at m i ≡ left_at l i

pub record Marked (gs : List (List ℕ)) (l m : List ℕ) : Type 0 where
  pub same : SameLists l m
  pub counted : Says gs m

-- ---- picking

-- there is room at place k for s, if it is wanted
pub record One (l : List ℕ) (k s : ℕ) (o : Bool) : Type 0 where
  pub named : Named s
  pub long : area_size ≤ length l
  pub room : k + length (retain (wanted l o) (s ∷ [])) ≤ 2048

pub record Stored (l m : List ℕ) (k s : ℕ) (o : Bool) (r : ℕ) : Type 0 where
  pub count : r ≡ length (retain (wanted l o) (s ∷ []))
  pub words : m ≡ put_list l k (retain (wanted l o) (s ∷ []))

-- and from place at on for those of node v
pub record Picks (from l : List ℕ) (v at : ℕ) (o : Bool) : Type 0 where
  pub node : Node from v
  pub long : area_size ≤ length l
  pub room : at + length (retain (wanted l o) (ins_at from v)) ≤ 2048

pub record Picked (from l m : List ℕ) (v at : ℕ) (o : Bool) (r : ℕ) : Type 0 where
  pub count : r ≡ length (retain (wanted l o) (ins_at from v))
  pub words : m ≡ put_list l at (retain (wanted l o) (ins_at from v))

-- ---- loading

pub record Loads (from l : List ℕ) (v i at : ℕ) : Type 0 where
  pub node : Node from v
  pub long : area_size ≤ length l
  pub few : i < 512
  pub room : at + count_at from v ≤ 2048

-- l with the signals of node v that are used more than once as list i, at place at
unfoldable pub loaded_in : List ℕ → List ℕ → ℕ → ℕ → ℕ → List ℕ
loaded_in from l v i at =
    let p = retain (wanted l false) (ins_at from v) in
    put_left (put_start (put_list l at p) i at) i (length p)

pub record Loadable (gs : List (List ℕ)) (from to : List ℕ) (n : ℕ) : Type 0 where
  pub between : Between from to n
  pub counted : Says gs to

pub record Separated (gs : List (List ℕ)) (m : List ℕ) (g : ℕ) : Type 0 where
  pub gates : g ≡ length gs
  pub laid : Laid m g
  pub lists : lists_of m g ≡ shared_signals gs
  pub starts : (w : ℕ) → w < g → start_at m w ≡ slot gs w
