-- Signals that name something present: inverted, in a larger network, translated. And a network's tests, gate by gate.
use mathlib.Core.Path.{◌≡◌, refl, sym, ap, ◌∙◌}
use Prim.Native.Nat.{ℕ, zero, suc, ◌≤◌, ◌<◌}
use native.Mathlib.Nat.{not-suc-le-zero, le_of_suc-le-suc}
use native.Mathlib.Omega.{arith}
use mathlib.Core.Bool.{Bool, true, false}
use mathlib.Core.List.{List, [], ◌∷◌, map}
use lib.ListN.{length, get_or}
use borrow.Author.Tests.{ltb-true, lt-ltb}
use Rattle.laws.specs.Lists.{All}
use Rattle.laws.proofs.Bools.{and_left, and_right, and_both}
use Rattle.laws.proofs.Lists.{all_map, all_both, map_all, length_map}
use Rattle.model.specs.Signal.{Ref, rzero, rnode, rinput, ref, flip, is_inverted, from_var, remap_order, remap_ref}
use Rattle.model.specs.Gate.{Gate, Net, is_dff, remap_gate, no_gate, gate_at, size, shaped, all_shaped, named_ref, named, all_named, gates_named, wired, is_topo_sorted}
use Rattle.model.proofs.Words.{zero_ref, node_ref}
use Rattle.model.proofs.Named.{named_word, named_ref_lem, named_of, named_flip}
use Rattle.model.proofs.Names.{Names, named_names, sorted, sorted_test, wired_gate, wired_outs as outs_named}

-- of a network with i inputs and n nodes: s names a constant, an input or a node
abbrev pub Here : ℕ → ℕ → ℕ → Type 0
Here i n s = named i n s ≡ true

module _ (i n s : ℕ) where
  pub here_word : Here i n s → s < 4294967296
  here_word = named_word i n s

  pub here_node : (v : ℕ) → Here i n s → ref s ≡ rnode v → v < n
  here_node v h = named_names i n s h v

pub here_zero : (i n : ℕ) → Here i n 0
here_zero i n = named_of i n 0 (omega arith) (ap (named_ref i n) zero_ref)

pub here_var : (i n v : ℕ) → v < n → n ≤ 512 → Here i n (from_var v)
here_var i n v h l = named_of i n (from_var v) (omega arith) (ap (named_ref i n) (node_ref v (omega arith)) ∙ lt-ltb v n h)

pub here_flip : (i n s : ℕ) (b : Bool) → Here i n s → Here i n (flip s b)
here_flip i n s b h = named_flip i n s b ∙ h

pub here_more : (i m n s : ℕ) → m ≤ n → Here i m s → Here i n s
here_more i m n s l h = named_of i n s (named_word i m s h) (go (ref s) (named_ref_lem i m s h))
  where
    go : (r : Ref) → named_ref i m r ≡ true → named_ref i n r ≡ true
    go rzero e = refl
    go (rnode v) e = let k = ltb-true v m e in lt-ltb v n (omega arith)
    go (rinput k) e = e

-- what names a node below k, where s names one of n
pub here_less : (i n k s : ℕ) → Here i n s → Names (λ m. m < k) s → Here i k s
here_less i n k s h b = named_of i k s (named_word i n s h) (go (ref s) refl (named_ref_lem i n s h))
  where
    go : (r : Ref) → ref s ≡ r → named_ref i n r ≡ true → named_ref i k r ≡ true
    go rzero q e = refl
    go (rnode v) q e = lt-ltb v k (b v q)
    go (rinput j) q e = e

-- put through a translation of what it names
pub here_through : (τ : ℕ → ℕ) (i m n s : ℕ) → Names (λ v. Here i n (τ v)) s → Here i m s → Here i n (remap_order τ s)
unfolding remap_order
here_through τ i m n s t h = go (ref s) refl
  where
    go : (r : Ref) → ref s ≡ r → Here i n (remap_ref τ r s)
    go rzero e = named_of i n s (named_word i m s h) (ap (named_ref i n) e)
    go (rnode v) e = here_flip i n (τ v) (is_inverted s) (t v e)
    go (rinput k) e = named_of i n s (named_word i m s h) (ap (named_ref i n) e ∙ sym (ap (named_ref i m) e) ∙ named_ref_lem i m s h)

-- ---- lists of signals

pub here_all : (i n : ℕ) (l : List ℕ) → all_named i n l ≡ true → All (Here i n) l
unfolding all_named
here_all i n [] h = tt
here_all i n (s ∷ l) h = (and_left (named i n s) _ h, here_all i n l (and_right (named i n s) _ h))

pub all_here : (i n : ℕ) (l : List ℕ) → All (Here i n) l → all_named i n l ≡ true
unfolding all_named
all_here i n [] h = refl
all_here i n (s ∷ l) h = and_both (named i n s) _ h.0 (all_here i n l h.1)

pub all_remap : (τ : ℕ → ℕ) (i m n : ℕ) (l : List ℕ) → ((v : ℕ) → v < m → Here i n (τ v)) → All (Here i m) l → All (Here i n) (map (remap_order τ) l)
all_remap τ i m n l t = map_all (Here i n) (remap_order τ) l (λ s h. here_through τ i m n s (λ v e. t v (here_node i m s v h e)) h)

-- ---- a network's tests, gate by gate

pub shaped_at : (gs : List Gate) → all_shaped gs ≡ true → (v : ℕ) → v < length gs → shaped (get_or gs v no_gate) ≡ true
unfolding all_shaped
shaped_at [] h v l = absurd (not-suc-le-zero l)
shaped_at (g ∷ gs) h zero l = and_left (shaped g) _ h
shaped_at (g ∷ gs) h (suc v) l = shaped_at gs (and_right (shaped g) _ h) v (le_of_suc-le-suc l)

pub shaped_all : (gs : List Gate) → ((v : ℕ) → v < length gs → shaped (get_or gs v no_gate) ≡ true) → all_shaped gs ≡ true
unfolding all_shaped
shaped_all [] h = refl
shaped_all (g ∷ gs) h = and_both (shaped g) _ (h 0 (omega arith)) (shaped_all gs (λ v l. h (suc v) (omega arith)))

pub shaped_remap : (τ : ℕ → ℕ) (g : Gate) → shaped (remap_gate τ g) ≡ shaped g
unfolding shaped
shaped_remap τ g = rw (length_map (remap_order τ) g.ins)

named_all : (i n : ℕ) (gs : List Gate) → ((v : ℕ) → v < length gs → All (Here i n) (get_or gs v no_gate).ins) → gates_named i n gs ≡ true
unfolding gates_named
named_all i n [] h = refl
named_all i n (g ∷ gs) h = and_both (all_named i n g.ins) _ (all_here i n g.ins (h 0 (omega arith))) (named_all i n gs (λ v l. h (suc v) (omega arith)))

pub wired_ins : (N : Net) → wired N ≡ true → (v : ℕ) → v < size N → All (Here N.inputs (size N)) (gate_at N v).ins
wired_ins N w v l = here_all N.inputs (size N) (gate_at N v).ins (wired_gate N w v l)

pub wired_outs : (N : Net) → wired N ≡ true → All (Here N.inputs (size N)) N.outs
wired_outs N w = here_all N.inputs (size N) N.outs (outs_named N w)

pub wired_all : (N : Net) → ((v : ℕ) → v < size N → All (Here N.inputs (size N)) (gate_at N v).ins) → All (Here N.inputs (size N)) N.outs → wired N ≡ true
unfolding wired
wired_all N h o = and_both (gates_named N.inputs (size N) N.nodes) _ (named_all N.inputs (size N) N.nodes h) (all_here N.inputs (size N) N.outs o)

-- a combinational gate of a sorted network names what stands before it
pub sorted_ins : (N : Net) → wired N ≡ true → is_topo_sorted N ≡ true → (v : ℕ) → v < size N → is_dff (gate_at N v) ≡ false → All (Here N.inputs v) (gate_at N v).ins
sorted_ins N w t v l d =
    let ins = (gate_at N v).ins in
    all_map ins (λ s p. here_less N.inputs (size N) v s p.0 p.1)
    (all_both (Here N.inputs (size N)) (Names (λ m. m < v)) ins (wired_ins N w v l) (sorted N t v l d))

pub sorted_all : (N : Net) → ((v : ℕ) → v < size N → is_dff (gate_at N v) ≡ false → All (Here N.inputs v) (gate_at N v).ins) → is_topo_sorted N ≡ true
sorted_all N h = sorted_test N (λ v l d. all_map (gate_at N v).ins (λ s p m e. here_node N.inputs v s m p e) (h v l d))
