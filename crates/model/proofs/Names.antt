-- What the signals of a list name: nodes of a set, by `Names` and `In`; what follows for values, for translations, and from the
-- tests of the model (`all_named`, `all_below`, `is_topo_sorted`).
use mathlib.Core.Path.{◌≡◌, refl, sym, ap, ap₂, ◌∙◌}
use Prim.Native.Nat.{ℕ, zero, suc, ◌+◌, ◌<◌}
use native.Mathlib.Nat.{not-suc-le-zero, le_of_suc-le-suc}
use native.Mathlib.Omega.{arith}
use mathlib.Core.Bool.{Bool, true, false, ◌||◌}
use mathlib.Core.List.{List, [], ◌∷◌, map}
use lib.ListN.{length, get_or}
use lib.Dec.{ltb}
use borrow.Author.Tests.{ltb-true, lt-ltb}
use Rattle.laws.specs.Bools.{xor}
use Rattle.laws.specs.Lists.{All}
use Rattle.laws.proofs.Bools.{and_left, and_right}
use Rattle.laws.proofs.Lists.{map_all}
use Rattle.model.specs.Signal.{Ref, rzero, rnode, rinput, is_inverted, ref, remap_order, remap_ref}
use Rattle.model.specs.Gate.{Gate, Net, is_dff, no_gate, gate_at, size, named_ref, named, all_named, gates_named, wired, below_ref, all_below, sorted_from, is_topo_sorted}
use Rattle.model.specs.Evaluate.{ref_value, signal_value}
use Rattle.model.proofs.Words.{flip_ref}

-- every node that signal s names is in K
abbrev pub Names : (ℕ → Type 0) → ℕ → Type 0
Names K s = (m : ℕ) → ref s ≡ rnode m → K m

abbrev pub In : (ℕ → Type 0) → List ℕ → Type 0
In K l = All (Names K) l

-- no constant or input names a node, and a node only itself
pub zero_names : {r : Ref} {m : ℕ} {X : Type 0} → r ≡ rzero → r ≡ rnode m → X
zero_names p q = let z : ◌≡◌ {A = ℕ} 0 1 = cc in absurd (omega arith)

pub input_names : {r : Ref} {m k : ℕ} {X : Type 0} → r ≡ rinput k → r ≡ rnode m → X
input_names p q = let z : ◌≡◌ {A = ℕ} 0 1 = cc in absurd (omega arith)

pub node_names : (Q : ℕ → Type 0) (s j : ℕ) → ref s ≡ rnode j → Q j → Names Q s
node_names Q s j e q m f = let h : j ≡ m = cc in rw h at q

-- ---- translated

pub names_remap : (τ : ℕ → ℕ) (P Q : ℕ → Type 0) (s : ℕ) → ((m : ℕ) → P m → Names Q (τ m)) → Names P s → Names Q (remap_order τ s)
unfolding remap_order
names_remap τ P Q s h p = go (ref s) refl
  where
    go : (r : Ref) → ref s ≡ r → Names Q (remap_ref τ r s)
    go rzero e m f = zero_names e f
    go (rnode w) e m f = h w (p w e) m (sym (flip_ref (τ w) (is_inverted s)) ∙ f)
    go (rinput k) e m f = input_names e f

pub in_remap : (τ : ℕ → ℕ) (P Q : ℕ → Type 0) (l : List ℕ) → ((m : ℕ) → P m → Names Q (τ m)) → In P l → In Q (map (remap_order τ) l)
in_remap τ P Q l h = map_all (Names Q) (remap_order τ) l (λ s. names_remap τ P Q s h)

-- ---- a value depends on what the signal names

pub value_cong : (i v w : ℕ → Bool) (s : ℕ) → ((m : ℕ) → ref s ≡ rnode m → v m ≡ w m) → signal_value i v s ≡ signal_value i w s
unfolding signal_value
value_cong i v w s h = go (ref s) refl
  where
    go : (r : Ref) → ref s ≡ r → xor (is_inverted s) (ref_value i v r) ≡ xor (is_inverted s) (ref_value i w r)
    go rzero e = refl
    go (rnode m) e = ap (xor (is_inverted s)) (h m e)
    go (rinput k) e = refl

pub values_cong : (i v w : ℕ → Bool) (K : ℕ → Type 0) (l : List ℕ) → In K l → ((m : ℕ) → K m → v m ≡ w m)
    → map (signal_value i v) l ≡ map (signal_value i w) l
values_cong i v w K [] inK h = refl
values_cong i v w K (s ∷ l) inK h = ap₂ ◌∷◌ (value_cong i v w s (λ m e. h m (inK.0 m e))) (values_cong i v w K l inK.1 h)

-- ---- from the tests

pub below_names : (n s : ℕ) → below_ref n (ref s) ≡ true → Names (λ m. m < n) s
below_names n s e m f = ltb-true m n (rw f at e)

pub below_in : (n : ℕ) (l : List ℕ) → all_below n l ≡ true → In (λ m. m < n) l
unfolding all_below
below_in n [] e = tt
below_in n (s ∷ l) e = (below_names n s (and_left _ _ e), below_in n l (and_right (below_ref n (ref s)) _ e))

pub named_names : (i n s : ℕ) → named i n s ≡ true → Names (λ m. m < n) s
unfolding named
named_names i n s e m f = ltb-true m n (rw f at (and_right (ltb s 4294967296) (named_ref i n (ref s)) e))

pub named_in : (i n : ℕ) (l : List ℕ) → all_named i n l ≡ true → In (λ m. m < n) l
unfolding all_named
named_in i n [] e = tt
named_in i n (s ∷ l) e = (named_names i n s (and_left _ _ e), named_in i n l (and_right (named i n s) _ e))

-- each combinational gate names nodes below its own number
abbrev pub Sorted : Net → Type 0
Sorted N = (n : ℕ) → n < size N → is_dff (gate_at N n) ≡ false → In (λ m. m < n) (gate_at N n).ins

sorted_from_lem : (v : ℕ) (gs : List Gate) → sorted_from v gs ≡ true → (n : ℕ) → n < length gs → is_dff (get_or gs n no_gate) ≡ false
    → In (λ m. m < v + n) (get_or gs n no_gate).ins
unfolding sorted_from
sorted_from_lem v [] e n h d = absurd (not-suc-le-zero h)
sorted_from_lem v (g ∷ gs) e zero h d =
    let b : (is_dff g || all_below v g.ins) ≡ true = and_left _ _ e in
    let c : all_below v g.ins ≡ true = rw d at b in
    let q : v + 0 ≡ v = omega arith in
    rw q (below_in v g.ins c)
sorted_from_lem v (g ∷ gs) e (suc n) h d =
    let q : v + suc n ≡ suc v + n = omega arith in
    rw q (sorted_from_lem (suc v) gs (and_right (is_dff g || all_below v g.ins) _ e) n (le_of_suc-le-suc h) d)

pub sorted : (N : Net) → is_topo_sorted N ≡ true → Sorted N
unfolding is_topo_sorted
sorted N e n h d = let q : 0 + n ≡ n = omega arith in rw q at (sorted_from_lem 0 N.nodes e n h d)

-- and back: the test holds of a sorted network
in_below : (n : ℕ) (l : List ℕ) → In (λ m. m < n) l → all_below n l ≡ true
unfolding all_below
in_below n [] h = refl
in_below n (s ∷ l) h = rw (names_below (ref s) refl) (in_below n l h.1)
  where
    names_below : (r : Ref) → ref s ≡ r → below_ref n r ≡ true
    names_below rzero e = refl
    names_below (rnode m) e = lt-ltb m n (h.0 m e)
    names_below (rinput k) e = refl

from_sorted : (v : ℕ) (gs : List Gate)
    → ((n : ℕ) → n < length gs → is_dff (get_or gs n no_gate) ≡ false → In (λ m. m < v + n) (get_or gs n no_gate).ins) → sorted_from v gs ≡ true
unfolding sorted_from
from_sorted v [] h = refl
from_sorted v (g ∷ gs) h = rw (head (is_dff g) refl) (from_sorted (suc v) gs (λ n l d. rw (shift n) at (h (suc n) (omega arith) d)))
  where
    shift : (n : ℕ) → v + suc n ≡ suc v + n
    shift n = omega arith

    head : (b : Bool) → is_dff g ≡ b → (b || all_below v g.ins) ≡ true
    head true e = refl
    head false e = let q : v + 0 ≡ v = omega arith in in_below v g.ins (rw q at (h 0 (omega arith) e))

pub sorted_test : (N : Net) → Sorted N → is_topo_sorted N ≡ true
unfolding is_topo_sorted
sorted_test N h = from_sorted 0 N.nodes (λ n l d. let q : 0 + n ≡ n = omega arith in rw q (h n l d))

-- the inputs of each gate, and the outputs, name nodes of the network
named_gate : (i k : ℕ) (gs : List Gate) → gates_named i k gs ≡ true → (n : ℕ) → n < length gs → all_named i k (get_or gs n no_gate).ins ≡ true
unfolding gates_named
named_gate i k [] e n h = absurd (not-suc-le-zero h)
named_gate i k (g ∷ gs) e zero h = and_left _ _ e
named_gate i k (g ∷ gs) e (suc n) h = named_gate i k gs (and_right (all_named i k g.ins) _ e) n (le_of_suc-le-suc h)

module _ (N : Net) (w : wired N ≡ true) where
  pub wired_gate : (n : ℕ) → n < size N → all_named N.inputs (size N) (gate_at N n).ins ≡ true
  unfolding wired
  wired_gate = named_gate N.inputs (size N) N.nodes (and_left _ _ w)

  pub wired_outs : all_named N.inputs (size N) N.outs ≡ true
  unfolding wired
  wired_outs = and_right (gates_named N.inputs (size N) N.nodes) _ w

  pub wired_ins : (n : ℕ) → n < size N → In (λ m. m < size N) (gate_at N n).ins
  wired_ins n h = named_in N.inputs (size N) (gate_at N n).ins (wired_gate n h)

  pub wired_out : In (λ m. m < size N) N.outs
  wired_out = named_in N.inputs (size N) N.outs wired_outs
