-- What a gate's shape says: its code, its inputs and its table in numbers.
use mathlib.Core.Path.{◌≡◌, refl, sym, ap, ◌∙◌}
use mathlib.Core.Bool.{true, false}
use mathlib.Core.List.{List, ◌∷◌}
use Prim.Native.Nat.{ℕ, ◌^◌, ◌≤◌, ◌<◌}
use native.Mathlib.Omega.{arith}
use lib.ListN.{length}
use lib.Pow.{pow_mono}
use lib.Dec.{ltb}
use borrow.Author.Tests.{ltb-true, leb-true, eqb-true}
use Rattle.laws.proofs.Bools.{true_false, and_left, and_right}
use Rattle.kinds.specs.Kinds.{code_of, kind_of, is_flip_flop}
use Rattle.kinds.proofs.Codes.{kind_code, code_kind}
use Rattle.kinds.specs.declared.Kind.{Kind}
use Rattle.kinds.specs.declared.Kind.TheVariants.{And2, Xor2, And3, Xor3, Maj, Mux, AndN, OrN, NandN, NorN, XorN, XnorN, Buf, Dff, Lut}
use Rattle.model.specs.Gate.{Gate, is_dff, is_lut, fits_kind, fits_code, fits_table, shaped, all_shaped}

pub code_small : (code n : ℕ) → fits_code code n ≡ true → code < 15
unfolding fits_code
code_small code n e = ltb-true code 15 (and_left (ltb code 15) (fits_kind (kind_of code) n) e)

-- a Lut has at most 6 inputs
pub lut_small : (code n : ℕ) → fits_code code n ≡ true → code ≡ 14 → n ≤ 6
unfolding fits_code
lut_small code n e q =
    let f : fits_kind (kind_of code) n ≡ true = and_right (ltb code 15) (fits_kind (kind_of code) n) e in
    leb-true n 6 (sym (ap (λ (c : ℕ). fits_kind (kind_of c) n) q ∙ ap (λ k. fits_kind k n) (kind_code Lut)) ∙ f)

module _ (g : Gate) (s : shaped g ≡ true) where
  pub shaped_code : fits_code g.kind (length g.ins) ≡ true
  unfolding shaped
  shaped_code = and_left (fits_code g.kind (length g.ins)) (fits_table g.kind (length g.ins) g.table) s

  pub shaped_table : fits_table g.kind (length g.ins) g.table ≡ true
  unfolding shaped
  shaped_table = and_right (fits_code g.kind (length g.ins)) (fits_table g.kind (length g.ins) g.table) s

  pub kind_small : g.kind < 15
  kind_small = code_small g.kind (length g.ins) shaped_code

  -- no gate but a Lut has a table
  pub table_none : is_lut g.kind ≡ false → g.table ≡ 0
  unfolding fits_table
  table_none l = eqb-true g.table 0 (simp l at shaped_table)

  -- a Lut's fits two words
  pub table_two : is_lut g.kind ≡ true → g.table < 18446744073709551616
  unfolding fits_table
  table_two l =
      let n : length g.ins ≤ 6 = lut_small g.kind (length g.ins) shaped_code (eqb-true g.kind 14 l) in
      let t : g.table < 2 ^ (2 ^ length g.ins) = ltb-true g.table (2 ^ (2 ^ length g.ins)) (simp l at shaped_table) in
      let p : 2 ^ length g.ins ≤ 64 = pow_mono {i = length g.ins} {j = 6} n in
      let q : 2 ^ (2 ^ length g.ins) ≤ 18446744073709551616 = pow_mono {i = 2 ^ length g.ins} {j = 64} p in
      omega arith

-- ---- of all gates

module _ (g : Gate) (gs : List Gate) (s : all_shaped (g ∷ gs) ≡ true) where
  pub first_shaped : shaped g ≡ true
  unfolding all_shaped
  first_shaped = and_left (shaped g) (all_shaped gs) s

  pub rest_shaped : all_shaped gs ≡ true
  unfolding all_shaped
  rest_shaped = and_right (shaped g) (all_shaped gs) s

-- ---- flip-flops

only_dff : (t : Kind) → is_flip_flop t ≡ true → t ≡ Dff
only_dff Dff e = refl
only_dff And2 e = true_false (sym e)
only_dff Xor2 e = true_false (sym e)
only_dff And3 e = true_false (sym e)
only_dff Xor3 e = true_false (sym e)
only_dff Maj e = true_false (sym e)
only_dff Mux e = true_false (sym e)
only_dff AndN e = true_false (sym e)
only_dff OrN e = true_false (sym e)
only_dff NandN e = true_false (sym e)
only_dff NorN e = true_false (sym e)
only_dff XorN e = true_false (sym e)
only_dff XnorN e = true_false (sym e)
only_dff Buf e = true_false (sym e)
only_dff Lut e = true_false (sym e)

-- of a gate that is shaped: a Dff is what has its code
pub dff_kind : (g : Gate) → shaped g ≡ true → is_dff g ≡ true → g.kind ≡ 13
dff_kind g s e = sym (code_kind g.kind (kind_small g s)) ∙ ap code_of (only_dff (kind_of g.kind) e)

pub kind_dff : (g : Gate) → g.kind ≡ 13 → is_dff g ≡ true
unfolding kind_of
kind_dff g q = ap (λ (c : ℕ). is_flip_flop (kind_of c)) q
