-- share_logic.rs: flatten, factor and share as functions of networks without limits, and beside them the counts that the numbers
-- 9 to 12 look at. `pred` and `builder` are a family, And or Xor.
use Prim.Native.Nat.{ℕ, zero, suc, ◌+◌, ◌-◌, ◌*◌, ◌/◌, min, max}
use Rattle.std.specs.Prelude.{Bool, true, false, not, cond, ◌&&◌, ◌||◌, length, set, eqb, leb, ltb}
use mathlib.Core.List.{List, [], ◌∷◌, ◌++◌, map}
use Rattle.std.proofs.Math.ListN.{get_or}
use Rattle.laws.specs.Bools.{bit}
use Rattle.kinds.specs.Kinds.{kind_of, in_family, wide_of}
use Rattle.kinds.specs.declared.Kind.{Kind}
use Rattle.kinds.specs.declared.Kind.TheVariants.{And2, Xor2, And3, Xor3, Maj, Mux, AndN, OrN, NandN, NorN, XorN, XnorN, Buf, Dff, Lut}
use Rattle.kinds.specs.declared.Family.{Family}
use Rattle.kinds.specs.declared.Family.TheVariants.{And, Xor}
use Rattle.model.specs.Signal.{Ref, rzero, rnode, rinput, ref, is_inverted, from_var}
use Rattle.model.specs.Gate.{Gate, Net, no_gate, gate_at, size, fanin, is_dff}
use Rattle.model.specs.Normal.{gate_of}
use Rattle.model.specs.Network.{has, canonical, cleanup, topo_sort}

-- is_and or is_xor
abbrev pub inside : Family → Gate → Bool
inside f g = in_family (kind_of g.kind) f

-- ---- flatten_nary

-- what an input becomes: a plain node of the family its inputs, if they have room under the limit. G are the gates so far, used the
-- inputs so far and the inputs left
abbrev pub opened : Family → (ℕ → Gate) → ℕ → ℕ → ℕ → Ref → List ℕ
opened f G limit used s rzero = s ∷ []
opened f G limit used s (rnode w) = cond (not (is_inverted s) && (inside f (G w) && leb (used + length (G w).ins) limit)) (G w).ins (s ∷ [])
opened f G limit used s (rinput k) = s ∷ []

unfoldable pub merge_dependencies : Family → (ℕ → Gate) → ℕ → List ℕ → List ℕ → List ℕ
merge_dependencies f G limit [] ret = ret
merge_dependencies f G limit (s ∷ v) ret = merge_dependencies f G limit v (ret ++ opened f G limit (length ret + length v) s (ref s))

-- each And or Xor becomes n-ary
abbrev pub flat_by : Family → (ℕ → Gate) → ℕ → Gate → Gate
flat_by f G limit g = gate_of (wide_of f) (merge_dependencies f G limit g.ins [])

unfoldable pub flat_gate : (ℕ → Gate) → ℕ → Gate → Gate
flat_gate G limit g = cond (inside And g) (flat_by And G limit g) (cond (inside Xor g) (flat_by Xor G limit g) g)

module _ (N : Net) (limit : ℕ) where
  -- the first k gates, in order, each over those before it
  unfoldable pub flats : ℕ → List Gate
  unfolding flat_gate
  flats zero = []
  flats (suc k) = let l = flats k in l ++ (flat_gate (λ w. get_or l w no_gate) limit (gate_at N k) ∷ [])

  unfoldable pub merged : Net
  unfolding flats
  merged = record { inputs = N.inputs; nodes = flats (size N); outs = N.outs }

  -- then cleanup, then canonical
  unfoldable pub flatten_nary : Net
  flatten_nary = canonical (cleanup merged)

  -- 10: "gate inputs after flattening, before cleanup"
  unfoldable pub flattened_inputs : ℕ
  flattened_inputs = fanin merged.nodes

-- ---- Factoring

pub record Pair : Type 0 where
  pub fst : ℕ
  pub snd : ℕ

-- make_pair: smaller word first
abbrev pub make_pair : ℕ → ℕ → Pair
make_pair a b = record { fst = min a b; snd = max a b }

unfoldable pub holds : ℕ → ℕ → List ℕ → Bool
holds p q l = has p l && has q l

-- the count of a pair: the gates holding both
unfoldable pub together : ℕ → ℕ → List (List ℕ) → ℕ
together p q [] = 0
together p q (l ∷ gs) = bit (holds p q l) + together p q gs

-- find_best_pair: the greatest count; ties: smaller first word, then smaller second. A count of 0 is no pair
pub record Top : Type 0 where
  pub count : ℕ
  pub a : ℕ
  pub b : ℕ

unfoldable pub beats : ℕ → ℕ → ℕ → Top → Bool
beats n a b t =
    cond (ltb t.count n) true
    (cond (ltb n t.count) false
    (cond (ltb a t.a) true
    (cond (ltb t.a a) false
    (ltb b t.b))))

unfoldable pub consider : List (List ℕ) → Top → Pair → Top
consider gs t x =
    let n = together x.fst x.snd gs in
    cond (beats n x.fst x.snd t) (record { count = n; a = x.fst; b = x.snd }) t

-- over the pairs of a with the signals behind it, of one gate, of all gates
unfoldable pub top_with : List (List ℕ) → Top → ℕ → List ℕ → Top
top_with gs t a [] = t
top_with gs t a (b ∷ l) = top_with gs (consider gs t (make_pair a b)) a l

unfoldable pub top_in : List (List ℕ) → Top → List ℕ → Top
top_in gs t [] = t
top_in gs t (a ∷ l) = top_in gs (top_with gs t a l) l

unfoldable pub top_over : List (List ℕ) → Top → List (List ℕ) → Top
top_over gs t [] = t
top_over gs t (l ∷ ls) = top_over gs (top_in gs t l) ls

unfoldable pub find_best_pair : List (List ℕ) → Top
find_best_pair gs = top_over gs (record { count = 0; a = 0; b = 0 }) gs

-- gate_signals, next_var, built_pairs
pub record State : Type 0 where
  pub lists : List (List ℕ)
  pub next : ℕ
  pub built : List Pair

-- replace_pair: both signals taken from every gate holding them, the new node put last
unfoldable pub take_out : ℕ → ℕ → List ℕ → List ℕ
take_out p q [] = []
take_out p q (x ∷ l) = cond (eqb x p || eqb x q) (take_out p q l) (x ∷ take_out p q l)

unfoldable pub replace_in : ℕ → ℕ → ℕ → List ℕ → List ℕ
replace_in p q z l = cond (holds p q l) (take_out p q l ++ (z ∷ [])) l

unfoldable pub replace_pair : State → ℕ → ℕ → State
replace_pair s a b = record {
  lists = map (replace_in a b (from_var s.next)) s.lists;
  next = suc s.next;
  built = s.built ++ (record { fst = a; snd = b } ∷ []);
}

-- consume_binary_gates: twice over the gates in order, the pair of any gate with two left
abbrev pub on_two : State → List ℕ → State
on_two s [] = s
on_two s (a ∷ []) = s
on_two s (a ∷ b ∷ []) = replace_pair s (min a b) (max a b)
on_two s (a ∷ b ∷ c ∷ l) = s

unfoldable pub binaries : State → ℕ → State
binaries s zero = s
binaries s (suc i) = let r = binaries s i in on_two r (get_or r.lists i [])

unfoldable pub consume_binary_gates : State → ℕ → State
consume_binary_gates s g = binaries (binaries s g) g

-- the loop of consume_pairs, so many turns: while a pair remains, the best is replaced
unfoldable pub greedy : ℕ → State → State
greedy zero s = s
greedy (suc f) s =
    let t = find_best_pair s.lists in
    let r = greedy f (replace_pair s t.a t.b) in
    cond (eqb t.count 0) s r

unfoldable pub total : List (List ℕ) → ℕ
total [] = 0
total (l ∷ gs) = length l + total gs

-- as many turns as there are signals are enough
unfoldable pub all_pairs : State → State
all_pairs s = greedy (total s.lists) s

-- finalize: neighbours joined in rounds until one is left, an odd last one carried over, gate after gate
unfoldable pub round_pairs : List ℕ → List Pair
round_pairs [] = []
round_pairs (x ∷ []) = []
round_pairs (x ∷ y ∷ l) = record { fst = x; snd = y } ∷ round_pairs l

-- what a round leaves, b being the next node
unfoldable pub round_left : ℕ → List ℕ → List ℕ
round_left b [] = []
round_left b (x ∷ []) = x ∷ []
round_left b (x ∷ y ∷ l) = from_var b ∷ round_left (suc b) l

unfoldable pub join_round : State → ℕ → State
join_round s i =
    let l = get_or s.lists i [] in
    record { lists = set s.lists i (round_left s.next l); next = s.next + length (round_pairs l); built = s.built ++ round_pairs l }

unfoldable pub rounds : ℕ → State → ℕ → State
rounds zero s i = s
rounds (suc f) s i =
    let r = rounds f (join_round s i) i in
    cond (ltb 1 (length (get_or s.lists i []))) r s

unfoldable pub join_gate : State → ℕ → State
join_gate s i = rounds (length (get_or s.lists i [])) s i

unfoldable pub join_gates : State → ℕ → State
join_gates s zero = s
join_gates s (suc i) = join_gate (join_gates s i) i

-- count_signal_usage
unfoldable pub times : ℕ → List ℕ → ℕ
times x [] = 0
times x (y ∷ l) = bit (eqb y x) + times x l

unfoldable pub uses : ℕ → List (List ℕ) → ℕ
uses x [] = 0
uses x (l ∷ gs) = times x l + uses x gs

-- separate_exclusive_signals: those used once in the whole pass are set aside
unfoldable pub once : List (List ℕ) → ℕ → Bool
once gs x = eqb (uses x gs) 1

unfoldable pub retain : (ℕ → Bool) → List ℕ → List ℕ
retain t [] = []
retain t (x ∷ l) = cond (t x) (x ∷ retain t l) (retain t l)

unfoldable pub shared_signals : List (List ℕ) → List (List ℕ)
shared_signals gs = map (retain (λ x. not (once gs x))) gs

unfoldable pub exclusive_signals : List (List ℕ) → List (List ℕ)
exclusive_signals gs = map (retain (once gs)) gs

-- each gate gets its set-aside signals back at its end
unfoldable pub give_back : List (List ℕ) → List (List ℕ) → List (List ℕ)
give_back [] os = []
give_back (l ∷ gs) [] = l ∷ gs
give_back (l ∷ gs) (o ∷ os) = (l ++ o) ∷ give_back gs os

-- Factoring::run: the pairs built, and each gate's one signal left
unfoldable pub factoring : List (List ℕ) → ℕ → State
factoring gs next =
    let s = all_pairs (consume_binary_gates (record { lists = shared_signals gs; next = next; built = [] }) (length gs)) in
    join_gates (record { lists = give_back s.lists (exclusive_signals gs); next = s.next; built = s.built }) (length gs)

-- 11: "the sum of m(m-1)/2 over the gates of a pass, m being the signals left after once-used ones are set aside"
unfoldable pub places_of : List (List ℕ) → ℕ
places_of [] = 0
places_of (l ∷ gs) = length l * (length l - 1) / 2 + places_of gs

-- ---- factor_gates

-- the gates of a pass: of the family, with two or more inputs
abbrev pub takes : Family → Gate → Bool
takes f g = inside f g && ltb 1 (length g.ins)

unfoldable pub taken : Family → List Gate → List (List ℕ)
taken f [] = []
taken f (g ∷ gs) = cond (takes f g) (g.ins ∷ taken f gs) (taken f gs)

abbrev pub two_of : Family → Kind
two_of And = And2
two_of Xor = Xor2

abbrev pub pair_gate : Family → Pair → Gate
pair_gate f p = gate_of (two_of f) (p.fst ∷ p.snd ∷ [])

-- each gate taken becomes a Buf of the one signal that is left of it
unfoldable pub replaced : Family → List Gate → List (List ℕ) → List Gate
replaced f [] ls = []
replaced f (g ∷ gs) [] = g ∷ gs
replaced f (g ∷ gs) (l ∷ ls) = cond (takes f g) (gate_of Buf l ∷ replaced f gs ls) (g ∷ replaced f gs (l ∷ ls))

module _ (f : Family) (N : Net) where
  abbrev pub pass_lists : List (List ℕ)
  pass_lists = taken f N.nodes

  -- 11
  unfoldable pub pair_places : ℕ
  pair_places = places_of (shared_signals pass_lists)

  -- 12: "with every pair and join of the pass appended and replaced gates as Buf"
  unfoldable pub grown : Net
  grown =
      let s = factoring pass_lists (size N) in
      record { inputs = N.inputs; nodes = replaced f N.nodes s.lists ++ map (pair_gate f) s.built; outs = N.outs }

  -- sort, then canonical
  unfoldable pub factor_gates : Net
  factor_gates = canonical (topo_sort grown)

  -- 11, 12, or 0
  unfoldable pub pass_refusal : ℕ
  pass_refusal = cond (ltb 4096 pair_places) 11 (cond (ltb 512 (size grown) || ltb 2048 (fanin grown.nodes)) 12 0)

-- factor_nary: the And pass, then the Xor pass
unfoldable pub factor_nary : Net → Net
factor_nary N = factor_gates Xor (factor_gates And N)

-- the first met: And 11, And 12, Xor 11, Xor 12
unfoldable pub factor_refusal : Net → ℕ
factor_refusal N = let n = pass_refusal And N in cond (eqb n 0) (pass_refusal Xor (factor_gates And N)) n

-- 9: "an And2, And3 or n-ary And of two or more inputs lists a signal twice"
unfoldable pub repeats : List ℕ → Bool
repeats [] = false
repeats (x ∷ l) = has x l || repeats l

unfoldable pub any_repeats : List Gate → Bool
any_repeats [] = false
any_repeats (g ∷ gs) = takes And g && repeats g.ins || any_repeats gs

-- share_logic: flatten, then factor
unfoldable pub share_logic : Net → ℕ → Net
share_logic N limit = factor_nary (flatten_nary N limit)

-- ---- what demand 3 says of the result

-- "inputs less one for And and Xor, one for the rest", of the combinational gates
unfoldable pub weight : Gate → ℕ
weight g = cond (inside And g || inside Xor g) (length g.ins - 1) (bit (not (is_dff g)))

unfoldable pub weights : List Gate → ℕ
weights [] = 0
weights (g ∷ gs) = weight g + weights gs

-- the kinds that are left: And and Xor with two inputs, and those that are neither n-ary nor copies
abbrev pub is_simple : Kind → Bool
is_simple And2 = true
is_simple Xor2 = true
is_simple And3 = false
is_simple Xor3 = false
is_simple Maj = true
is_simple Mux = true
is_simple AndN = false
is_simple OrN = false
is_simple NandN = false
is_simple NorN = false
is_simple XorN = false
is_simple XnorN = false
is_simple Buf = false
is_simple Dff = true
is_simple Lut = true
