-- Document 01's cases marked P, "Checked by hand": one list under one claim, each with its rule. i0 to i3 are inputs 0 to 3.
use mathlib.Core.Path.{◌≡◌, refl}
use Prim.Native.Nat.{ℕ}
use mathlib.Core.Bool.{Bool, true, false, ◌||◌}
use mathlib.Core.List.{List, [], ◌∷◌}
use lib.Dec.{eqb}
use Rattle.kinds.specs.Kinds.{kind_of}
use Rattle.kinds.specs.declared.Kind.{Kind}
use Rattle.kinds.specs.declared.Kind.TheVariants.{And2, Xor2, And3, Maj, Mux, AndN, NorN, XorN, Dff}
use Rattle.model.specs.Signal.{is_inverted, word_of, flip, neg, without_inversion, from_var, from_input, ref, ref_ix, remap_order}
use Rattle.model.specs.Gate.{Gate, Net}
use Rattle.model.specs.Normal.{Norm, copied, made, gate_of, made2, made3, least, most, low3, mid3, high3, and_sorted, make_and, and3_sorted, make_and3, xor_sorted, make_xor, mux_plain, mux_select, make_mux, maj_plain, maj_sorted, make_maj, make_dff, without, insert, sorted, uniq, opposed, and_some, and_wide, and_tidy, make_and_n, parity, cancel, xor_some, make_xor_n, normal_k, make_canonical}
use Rattle.model.specs.Network.{vars, translation, remap, same_list, same_gate, find_gate, place, dedup_node, dedup_dffs, dedup_combs, dedup_with, walk, cleanup}
use Rattle.model.specs.Sharing.{merge_dependencies, flat_gate, flats, merged, flatten_nary}

abbrev pub i0 : ℕ
i0 = from_input 0

abbrev pub i1 : ℕ
i1 = from_input 1

abbrev pub i2 : ℕ
i2 = from_input 2

abbrev pub i3 : ℕ
i3 = from_input 3

-- the signals of nodes 0 and 1
abbrev pub x0 : ℕ
x0 = from_var 0

abbrev pub x1 : ℕ
x1 = from_var 1

abbrev normal : Kind → List ℕ → Norm
normal k l = make_canonical (gate_of k l)

-- a network of four inputs and one output
abbrev net_of4 : List Gate → ℕ → Net
net_of4 gates output = record { inputs = 4; nodes = gates; outs = output ∷ [] }

-- x0 = And3(i0,i1,i2), x1 = And2(x0,i3)
abbrev two_ands : Net
two_ands = net_of4 (gate_of And3 (i0 ∷ i1 ∷ i2 ∷ []) ∷ gate_of And2 (x0 ∷ i3 ∷ []) ∷ []) x1

-- "The cases marked P, with their rule"
pub record Cases : Type 0 where
  -- a signal and its inverse: And is 0, Xor is 1, of two inputs and of any number
  pub and_opposed : normal And2 (i0 ∷ neg i0 ∷ []) ≡ copied 0
  pub and_opposed_n : normal AndN (i0 ∷ neg i0 ∷ []) ≡ copied 0
  pub xor_opposed : normal Xor2 (i0 ∷ neg i0 ∷ []) ≡ copied 1
  pub xor_opposed_n : normal XorN (i0 ∷ neg i0 ∷ []) ≡ copied 1
  -- "empty Or zero"; Nor inverts it
  pub nor_empty : normal NorN [] ≡ copied 1
  -- a Mux of a signal and its inverse is an Xor, its inputs in the order of their words
  pub mux_xor : normal Mux (i0 ∷ neg i1 ∷ i1 ∷ []) ≡ made (gate_of Xor2 (i1 ∷ i0 ∷ [])) false
  -- "Inverting Mux's select swaps a and b"
  pub mux_swap : normal Mux (neg i0 ∷ i1 ∷ i2 ∷ []) ≡ made (gate_of Mux (i0 ∷ i2 ∷ i1 ∷ [])) false
  -- Maj with a one is an Or: the inverse of an And of the inverses
  pub maj_one : normal Maj (1 ∷ i0 ∷ i1 ∷ []) ≡ made (gate_of And2 (neg i1 ∷ neg i0 ∷ [])) true
  -- a flip-flop that can never store a one is 0: d is 0, en is 0, or res is 1
  pub dff_data : (en res : ℕ) → normal Dff (0 ∷ en ∷ res ∷ []) ≡ copied 0
  pub dff_enable : (d res : ℕ) → normal Dff (d ∷ 0 ∷ res ∷ []) ≡ copied 0
  pub dff_reset : (d en : ℕ) → normal Dff (d ∷ en ∷ 1 ∷ []) ≡ copied 0
  -- merged "if inputs so far + its inputs + inputs left is at most the limit": here 0 + 3 + 1
  pub limit_4_merges : flatten_nary two_ands 4 ≡ net_of4 (gate_of AndN (i3 ∷ i2 ∷ i1 ∷ i0 ∷ []) ∷ []) x0
  pub limit_3_does_not : flatten_nary two_ands 3 ≡ net_of4 (gate_of And3 (i2 ∷ i1 ∷ i0 ∷ []) ∷ gate_of And2 (x0 ∷ i3 ∷ []) ∷ []) x1

or_true : (a : Bool) → (a || true) ≡ true
or_true true = refl
or_true false = refl

pub cases : Cases
unfolding make_canonical normal_k kind_of is_inverted word_of flip without_inversion ref ref_ix remap_order made2 made3 least most low3 mid3 high3 and_sorted make_and and3_sorted make_and3 xor_sorted make_xor mux_plain mux_select make_mux maj_plain maj_sorted make_maj make_dff without insert sorted uniq opposed and_some and_wide and_tidy make_and_n parity cancel xor_some make_xor_n vars translation remap same_list same_gate find_gate place dedup_node dedup_dffs dedup_combs dedup_with walk cleanup merge_dependencies flat_gate flats merged flatten_nary
cases = record {
  and_opposed = refl;
  and_opposed_n = refl;
  xor_opposed = refl;
  xor_opposed_n = refl;
  nor_empty = refl;
  mux_xor = refl;
  mux_swap = refl;
  maj_one = refl;
  dff_data = λ en res. refl;
  dff_enable = λ d res. rw (or_true (eqb d 0));
  dff_reset = λ d en. rw (or_true (eqb d 0 || eqb en 0));
  limit_4_merges = refl;
  limit_3_does_not = refl;
}

-- "Easy to get wrong": inputs are not ordered by number
pub and_order : normal And2 (i0 ∷ i1 ∷ []) ≡ made (gate_of And2 (i1 ∷ i0 ∷ [])) false
unfolding make_canonical normal_k kind_of is_inverted word_of flip made2 least most and_sorted make_and
and_order = refl
