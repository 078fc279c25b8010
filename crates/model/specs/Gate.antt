-- Gates and networks (document 01, "Signals and gates"; network.rs): what is valid, and what is sorted.
use Rattle.std.specs.Prelude.{◌≡◌, ℕ, suc, ◌+◌, ◌^◌, ◌≤◌, Bool, true, not, cond, ◌&&◌, ◌||◌, List, [], ◌∷◌, map, length, get_or, eqb, leb, ltb}
use Rattle.laws.specs.Bools.{bit}
use Rattle.kinds.specs.Kinds.{kind_of, is_flip_flop}
use Rattle.kinds.specs.declared.Kind.{Kind}
use Rattle.kinds.specs.declared.Kind.TheVariants.{And2, Xor2, And3, Xor3, Maj, Mux, AndN, OrN, NandN, NorN, XorN, XnorN, Buf, Dff, Lut}
use Rattle.model.specs.Signal.{Ref, rzero, rnode, rinput, ref, remap_order}

-- a gate: document 01's code, the inputs' words, the table (0 but for a Lut). Two gates are equal when all three agree
pub record Gate : Type 0 where
  pub kind : ℕ
  pub ins : List ℕ
  pub table : ℕ

pub record Net : Type 0 where
  pub inputs : ℕ
  pub nodes : List Gate
  pub outs : List ℕ

-- is_comb, turned round
abbrev pub is_dff : Gate → Bool
is_dff g = is_flip_flop (kind_of g.kind)

-- the gate's remap: every signal put through f
abbrev pub map_gate : (ℕ → ℕ) → Gate → Gate
map_gate f g = record { kind = g.kind; ins = map f g.ins; table = g.table }

-- the gate's remap_order
abbrev pub remap_gate : (ℕ → ℕ) → Gate → Gate
remap_gate τ g = map_gate (remap_order τ) g

-- what stands for a node that is not there
abbrev pub no_gate : Gate
no_gate = record { kind = 12; ins = []; table = 0 }

abbrev pub gate_at : Net → ℕ → Gate
gate_at N v = get_or N.nodes v no_gate

abbrev pub size : Net → ℕ
size N = length N.nodes

-- ---- the shape of a gate

-- how many inputs a kind has (document 01's table)
abbrev pub fits_kind : Kind → ℕ → Bool
fits_kind And2 n = eqb n 2
fits_kind Xor2 n = eqb n 2
fits_kind And3 n = eqb n 3
fits_kind Xor3 n = eqb n 3
fits_kind Maj n = eqb n 3
fits_kind Mux n = eqb n 3
fits_kind AndN n = true
fits_kind OrN n = true
fits_kind NandN n = true
fits_kind NorN n = true
fits_kind XorN n = true
fits_kind XnorN n = true
fits_kind Buf n = eqb n 1
fits_kind Dff n = eqb n 3
fits_kind Lut n = leb n 6

-- a code of document 01's table, with as many inputs as it has
unfoldable pub fits_code : ℕ → ℕ → Bool
fits_code code n = ltb code 15 && fits_kind (kind_of code) n

-- a Lut's code
abbrev pub is_lut : ℕ → Bool
is_lut code = eqb code 14

-- a Lut of n inputs has its table's bits 2^n and above zero; no other gate has a table
unfoldable pub fits_table : ℕ → ℕ → ℕ → Bool
fits_table code n t = cond (is_lut code) (ltb t (2 ^ (2 ^ n))) (eqb t 0)

unfoldable pub shaped : Gate → Bool
shaped g = fits_code g.kind (length g.ins) && fits_table g.kind (length g.ins) g.table

unfoldable pub all_shaped : List Gate → Bool
all_shaped [] = true
all_shaped (g ∷ gs) = shaped g && all_shaped gs

-- ---- the signals of a network

-- the gate inputs in all
unfoldable pub fanin : List Gate → ℕ
fanin [] = 0
fanin (g ∷ gs) = length g.ins + fanin gs

-- the combinational gates
unfoldable pub combs : List Gate → ℕ
combs [] = 0
combs (g ∷ gs) = bit (not (is_dff g)) + combs gs

-- is_valid: a signal is a 32-bit word that names a constant, one of the inputs or one of the nodes
abbrev pub named_ref : ℕ → ℕ → Ref → Bool
named_ref inputs nodes rzero = true
named_ref inputs nodes (rnode v) = ltb v nodes
named_ref inputs nodes (rinput k) = ltb k inputs

unfoldable pub named : ℕ → ℕ → ℕ → Bool
named inputs nodes s = ltb s 4294967296 && named_ref inputs nodes (ref s)

unfoldable pub all_named : ℕ → ℕ → List ℕ → Bool
all_named i n [] = true
all_named i n (s ∷ ss) = named i n s && all_named i n ss

unfoldable pub gates_named : ℕ → ℕ → List Gate → Bool
gates_named i n [] = true
gates_named i n (g ∷ gs) = all_named i n g.ins && gates_named i n gs

-- every signal of a network, outputs too
unfoldable pub wired : Net → Bool
wired n = gates_named n.inputs (size n) n.nodes && all_named n.inputs (size n) n.outs

-- is_topo_sorted: each combinational gate names only nodes below its own number; a flip-flop may name any
abbrev pub below_ref : ℕ → Ref → Bool
below_ref n rzero = true
below_ref n (rnode v) = ltb v n
below_ref n (rinput k) = true

unfoldable pub all_below : ℕ → List ℕ → Bool
all_below n [] = true
all_below n (s ∷ ss) = below_ref n (ref s) && all_below n ss

unfoldable pub sorted_from : ℕ → List Gate → Bool
sorted_from v [] = true
sorted_from v (g ∷ gs) = (is_dff g || all_below v g.ins) && sorted_from (suc v) gs

unfoldable pub is_topo_sorted : Net → Bool
is_topo_sorted n = sorted_from 0 n.nodes

-- what every accepted image holds: the limits, each gate's shape, and each signal's
pub record Valid (n : Net) : Type 0 where
  pub inputs_few : n.inputs ≤ 1024
  pub nodes_few : size n ≤ 512
  pub outs_few : length n.outs ≤ 64
  pub gates_shaped : all_shaped n.nodes ≡ true
  pub ins_few : fanin n.nodes ≤ 2048
  pub signals : wired n ≡ true
