-- network.rs: remap, dedup, cleanup and topo_sort as functions of networks without limits, each with its mapping.
use Rattle.std.specs.Prelude.{◌≡◌, Bool, true, false, not, ◌&&◌, ◌||◌, length, get_or, set, replicate, eqb}
use Prim.Native.Nat.{ℕ, zero, suc, ◌+◌, ◌-◌, ◌<◌}
use Rattle.std.proofs.Math.Bool.{cond}
use mathlib.Core.List.{List, [], ◌∷◌, ◌++◌, map}
use Rattle.std.proofs.Math.Option
use Rattle.std.proofs.Math.Option.{Option, none, some}
use Rattle.laws.specs.Bools.{bit}
use Rattle.laws.specs.Lists.{tab}
use Rattle.model.specs.Signal.{Ref, rzero, rnode, rinput, ref, flip, from_var, remap_order}
use Rattle.model.specs.Gate.{Gate, Net, is_dff, remap_gate, gate_at, size}
use Rattle.model.specs.Normal.{Norm, copied, made, make_canonical}

-- the nodes that signals name, in their order: vars
abbrev pub var_cons : Ref → List ℕ → List ℕ
var_cons rzero l = l
var_cons (rnode w) l = w ∷ l
var_cons (rinput k) l = l

unfoldable pub vars : List ℕ → List ℕ
vars [] = []
vars (s ∷ l) = var_cons (ref s) (vars l)

abbrev pub has : ℕ → List ℕ → Bool
has x [] = false
has x (y ∷ l) = eqb y x || has x l

abbrev pub occ : ℕ → List ℕ → ℕ
occ d [] = 0
occ d (x ∷ l) = bit (eqb x d) + occ d l

abbrev pub sum_to : (ℕ → ℕ) → ℕ → ℕ
sum_to f zero = 0
sum_to f (suc k) = sum_to f k + f k

-- a function with one value changed
abbrev pub upd : {A : Type 0} → (ℕ → A) → ℕ → A → ℕ → A
upd f k a v = cond (eqb v k) a (f v)

abbrev pub push_if : Bool → ℕ → List ℕ → List ℕ
push_if true d s = d ∷ s
push_if false d s = s

-- the numbers below k that pass, rising
abbrev pub rising : (ℕ → Bool) → ℕ → List ℕ
rising p zero = []
rising p (suc k) = rising p k ++ push_if (p k) k []

-- ---- remap: the nodes of an order, numbered from 0; there may be holes, whose translation is zero

abbrev pub fill : List ℕ → ℕ → List ℕ → List ℕ
fill t b [] = t
fill t b (o ∷ os) = fill (set t o (from_var b)) (suc b) os

unfoldable pub translation : ℕ → List ℕ → ℕ → ℕ
translation n order v = get_or (fill (replicate n 0) 0 order) v 0

-- every gate of the order and every output put through the translation
unfoldable pub remap : List ℕ → Net → Net
unfolding translation
remap order N =
    let τ = translation (size N) order in
    record { inputs = N.inputs; nodes = map (λ o. remap_gate τ (gate_at N o)) order; outs = map (remap_order τ) N.outs }

-- a mapping as it is written: a word for each of n old nodes
abbrev pub mapping_of : ℕ → (ℕ → ℕ) → List ℕ
mapping_of n τ = tab τ n

-- ---- dedup

-- equal gates: kind, inputs in order and table agree
unfoldable pub same_list : List ℕ → List ℕ → Bool
same_list [] [] = true
same_list [] (y ∷ ys) = false
same_list (x ∷ xs) [] = false
same_list (x ∷ xs) (y ∷ ys) = eqb x y && same_list xs ys

unfoldable pub same_gate : Gate → Gate → Bool
same_gate g h = eqb g.kind h.kind && (same_list g.ins h.ins && eqb g.table h.table)

-- the first gate of the list that is equal to g
abbrev pub find_step : Bool → Option ℕ → Option ℕ
find_step true r = some 0
find_step false r = Option.map suc r

unfoldable pub find_gate : Gate → List Gate → Option ℕ
find_gate g [] = none
find_gate g (h ∷ hs) = find_step (same_gate g h) (find_gate g hs)

-- where g stands in the list, added at its end if it is not there, and the list then
pub record Place : Type 0 where
  pub pos : ℕ
  pub all : List Gate

abbrev pub place_at : Option ℕ → Gate → List Gate → Place
place_at (some j) g l = record { pos = j; all = l }
place_at none g l = record { pos = length l; all = l ++ (g ∷ []) }

unfoldable pub place : Gate → List Gate → Place
place g l = place_at (find_gate g l) g l

-- the translation so far, and the new nodes so far
pub record Work : Type 0 where
  pub trans : ℕ → ℕ
  pub news : List Gate

-- dedup_node, for old node k: a copied signal goes to the mapping, else the gate is looked up, an inversion going onto its signal
unfoldable pub dedup_node : Norm → ℕ → Work → Work
dedup_node (copied s) k d = record { trans = upd d.trans k s; news = d.news }
dedup_node (made g z) k d = let p = place g d.news in record { trans = upd d.trans k (flip (from_var p.pos) z); news = p.all }

module _ (norm : Gate → Norm) (N : Net) where
  -- flip-flops first, compared by their old signals
  unfoldable pub dedup_dffs : ℕ → Work
  dedup_dffs zero = record { trans = λ v. from_var v; news = [] }
  dedup_dffs (suc k) = let d = dedup_dffs k in cond (is_dff (gate_at N k)) (dedup_node (norm (gate_at N k)) k d) d

  -- then combinational gates, with translated inputs
  unfoldable pub dedup_combs : ℕ → Work
  unfolding dedup_dffs
  dedup_combs zero = dedup_dffs (size N)
  dedup_combs (suc k) = let d = dedup_combs k in cond (is_dff (gate_at N k)) d (dedup_node (norm (remap_gate d.trans (gate_at N k))) k d)

  -- then flip-flop inputs are translated; flip-flops are not compared again
  abbrev pub remap_dff : (ℕ → ℕ) → Gate → Gate
  remap_dff τ g = cond (is_dff g) (remap_gate τ g) g

  unfoldable pub dedup_with : Net
  unfolding dedup_combs
  dedup_with =
      let d = dedup_combs (size N) in
      record { inputs = N.inputs; nodes = map (remap_dff d.trans) d.news; outs = map (remap_order d.trans) N.outs }

  unfoldable pub dedup_map : ℕ → ℕ
  unfolding dedup_combs
  dedup_map = (dedup_combs (size N)).trans

-- deduplicate: gates are looked up as they are
abbrev pub as_is : Gate → Norm
as_is g = made g false

abbrev pub deduplicate : Net → Net
deduplicate N = dedup_with as_is N

-- make_canonical: each gate is normalized before it is looked up
abbrev pub canonical : Net → Net
canonical N = dedup_with make_canonical N

-- ---- cleanup

abbrev pub is_d : Net → ℕ → Bool
is_d N v = is_dff (gate_at N v)

-- the nodes that node v's gate names
abbrev pub deps : Net → ℕ → List ℕ
deps N v = vars (gate_at N v).ins

-- what outputs reach, through flip-flops too
pub data Reach (N : Net) : ℕ → Type 0 where
  out : {m : ℕ} → has m (vars N.outs) ≡ true → Reach N m
  through : {n m : ℕ} → Reach N n → has m (deps N n) ≡ true → Reach N m

-- the nodes visited, and those to visit
pub record Walk : Type 0 where
  pub vis : ℕ → Bool
  pub stk : List ℕ

module _ (N : Net) where
  abbrev pub go_at : Bool → ℕ → List ℕ → Walk → Walk
  go_at true v r w = record { vis = w.vis; stk = r }
  go_at false v r w = record { vis = upd w.vis v true; stk = deps N v ++ r }

  abbrev pub step_at : List ℕ → Walk → Walk
  step_at [] w = w
  step_at (v ∷ r) w = go_at (w.vis v) v r w

  -- so many turns of the loop
  unfoldable pub walk : ℕ → Walk → Walk
  walk zero w = w
  walk (suc f) w = walk f (step_at w.stk w)

  abbrev pub first_walk : Walk
  first_walk = record { vis = λ n. false; stk = vars N.outs }

  -- turns enough to empty the list of those to visit
  abbrev pub unseen : (ℕ → Bool) → ℕ → ℕ
  unseen vis u = cond (vis u) 0 (length (deps N u))

  abbrev pub walk_left : Walk → ℕ
  walk_left w = length w.stk + sum_to (unseen w.vis) (size N)

  abbrev pub seen : ℕ → Bool
  seen = (walk (walk_left first_walk) first_walk).vis

  -- what is kept, in old order
  abbrev pub cleanup_order : List ℕ
  cleanup_order = rising seen (size N)

  unfoldable pub cleanup : Net
  cleanup = remap cleanup_order N

-- ---- topo_sort: the Rust's stack order

-- visited, how often each node is still to be named, the stack, and the order so far, last first
pub record Search : Type 0 where
  pub vis : ℕ → Bool
  pub cnt : ℕ → ℕ
  pub stk : List ℕ
  pub ord : List ℕ

pub record Down : Type 0 where
  pub cnt : ℕ → ℕ
  pub stk : List ℕ

-- the nodes that a gate names, counted down; each that comes to zero is pushed
unfoldable pub down : List ℕ → (ℕ → ℕ) → List ℕ → Down
down [] c s = record { cnt = c; stk = s }
down (d ∷ ds) c s = down ds (upd c d (c d - 1)) (push_if (eqb (c d - 1) 0) d s)

module _ (N : Net) where
  abbrev pub pop_at : Bool → ℕ → List ℕ → Search → Search
  pop_at true v r s = record { vis = s.vis; cnt = s.cnt; stk = r; ord = s.ord }
  pop_at false v r s =
      let e = down (deps N v) s.cnt r in
      record { vis = upd s.vis v true; cnt = e.cnt; stk = e.stk; ord = v ∷ s.ord }

  abbrev pub next_at : List ℕ → Search → Search
  next_at [] s = s
  next_at (v ∷ r) s = pop_at (s.vis v) v r s

  -- so many turns of the loop
  unfoldable pub search : ℕ → Search → Search
  search zero s = s
  search (suc f) s = search f (next_at s.stk s)

  -- how often the gates that are not visited name d
  abbrev pub waits : (ℕ → Bool) → ℕ → ℕ → ℕ
  waits vis d u = cond (vis u) 0 (occ d (deps N u))

  abbrev pub users : (ℕ → Bool) → ℕ → ℕ
  users vis d = sum_to (waits vis d) (size N)

  -- start nodes are pushed rising, so that the highest is taken first
  abbrev pub descend : (ℕ → Bool) → ℕ → List ℕ → List ℕ
  descend p zero l = l
  descend p (suc k) l = push_if (p k) k (descend p k l)

  -- flip-flops count as visited; the combinational gates that no combinational gate names are the start nodes
  abbrev pub begin : Search
  begin = record { vis = is_d N; cnt = users (is_d N); stk = descend (λ v. not (is_d N v) && eqb (users (is_d N) v) 0) (size N) []; ord = [] }

  -- turns enough to empty the stack
  abbrev pub search_left : Search → ℕ
  search_left s = length s.stk + sum_to (unseen N s.vis) (size N)

  abbrev pub sort_result : Search
  sort_result = search (search_left begin) begin

  -- flip-flops first in old order, then the gates, the last visited first
  abbrev pub topo_order : List ℕ
  topo_order = rising (is_d N) (size N) ++ sort_result.ord

  -- not 8: every node is in the order
  abbrev pub sorts : Bool
  sorts = eqb (length topo_order) (size N)

  unfoldable pub topo_sort : Net
  topo_sort = remap topo_order N

-- a combinational loop: a set of combinational gates, not empty, each of which a gate of the set names
pub record Loop (N : Net) : Type 0 where
  pub set : ℕ → Bool
  pub first : ℕ
  pub holds : set first ≡ true
  pub comb : (v : ℕ) → set v ≡ true → (v < size N) × (is_d N v ≡ false)
  pub named : (v : ℕ) → set v ≡ true → (u : ℕ) × (set u ≡ true) × (has v (deps N u) ≡ true)

-- the same as a path that returns (shape proves that the two agree): combinational gate v names node u
pub record Feeds (N : Net) (u v : ℕ) : Type 0 where
  pub node : v < size N
  pub comb : is_d N v ≡ false
  pub names : has u (deps N v) ≡ true

-- from node u through combinational gates to gate v
pub data Path (N : Net) : ℕ → ℕ → Type 0 where
  wire : {u v : ℕ} → Feeds N u v → Path N u v
  onward : {u v w : ℕ} → Path N u v → Feeds N v w → Path N u w

pub record Cycle (N : Net) : Type 0 where
  pub node : ℕ
  pub path : Path N node node
