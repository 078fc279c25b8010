-- Which way a gate's value is found, by its kind: Mux, Lut, or the number of ones; and what a node shows.
use mathlib.Core.Path.{◌≡◌, refl, sym, ap, ◌∙◌}
use mathlib.Core.Logic.{◌⊎◌, inl, inr}
use Prim.Native.Nat.{ℕ, ◌+◌, ◌*◌, ◌^◌, ◌≤◌, ◌<◌}
use native.Mathlib.Omega.{arith}
use mathlib.Core.Bool.{Bool, true, false, cond}
use mathlib.Core.List.{List}
use lib.ListN.{get_or}
use lib.Dec.{eqb, ltb}
use borrow.Author.Tests.{eqb-true, leb-true}
use Rattle.kinds.specs.Kinds.{kind_of}
use Rattle.kinds.specs.declared.Kind.{Kind}
use Rattle.kinds.specs.declared.Kind.TheVariants.{And2, Xor2, Mux, Buf, Lut}
use Rattle.laws.specs.Lists.{tab}
use Rattle.laws.proofs.Bools.{and_right}
use Rattle.model.specs.Gate.{fits_kind, fits_code}
use Rattle.model.specs.Evaluate.{value_of}
use Rattle.tables.specs.Layout.{kind_at, first_at, low_at, high_at}
use Rattle.signal_values.specs.Signals.{is_odd, input_value, ones_to, dff_at, Gated}
use Rattle.signal_values.specs.Inputs.{input_of, InputsOf}
use Rattle.signal_values.specs.declared.gate_inputs.Inputs.{Inputs}
use Rattle.mux_and_lut.specs.Tables.{lut_value, lut_of}
use Rattle.values.specs.Values.{ones_value, gate_value_at, shown_at}
use Rattle.values.proofs.Sums.{goes_by_ones, ones_value_lem}

-- ---- by kind

module _ (g : Inputs) (f t : List ℕ) (v c : ℕ) (kd : Kind) (gated : Gated f t v) (s : InputsOf f t v g) (r : c ≡ kind_at f v) (z : kd ≡ kind_of c) where
  abbrev count : ℕ
  count = g.count

  abbrev ones : ℕ
  ones = ones_to (input_of g) count

  kind_is : (k : Kind) → kd ≡ k → kind_of (kind_at f v) ≡ k
  kind_is k e = sym (ap kind_of r) ∙ sym z ∙ e

  fits : (k : Kind) → kd ≡ k → fits_kind k count ≡ true
  unfolding fits_code
  fits k e = rw (← kind_is k e, s.number) (and_right (ltb (kind_at f v) 15) _ gated.fits)

  values_are : input_of g ≡ input_value f t (first_at f v)
  values_are = rw (s.net, s.values, s.start)

  -- as many inputs as the kind has
  pub and_2_inputs : kd ≡ And2 → 2 ≤ count
  and_2_inputs e = let n = eqb-true count 2 (fits And2 e) in omega arith

  pub xor_2_inputs : kd ≡ Xor2 → 2 ≤ count
  xor_2_inputs e = let n = eqb-true count 2 (fits Xor2 e) in omega arith

  pub mux_inputs : kd ≡ Mux → 3 ≤ count
  mux_inputs e = let n = eqb-true count 3 (fits Mux e) in omega arith

  pub buf_inputs : kd ≡ Buf → 1 ≤ count
  buf_inputs e = let n = eqb-true count 1 (fits Buf e) in omega arith

  pub lut_inputs : kd ≡ Lut → count ≤ 6 × v < 512
  lut_inputs e = (leb-true count 6 (fits Lut e), gated.node)

  module _ (b : Bool) where
    -- by the number of ones
    pub by_ones : (k : Kind) → kd ≡ k → goes_by_ones k ≡ true → b ≡ ones_value k count ones → b ≡ gate_value_at f t v
    unfolding gate_value_at
    by_ones k e h w =
        rw (kind_is k e, ← values_are, ← s.number) (w ∙ sym (ones_value_lem (input_of g) k count (low_at f v + 2 ^ 32 * high_at f v) h (fits k e)))

    pub by_ones_of : (k l : Kind) → kd ≡ k ⊎ kd ≡ l → goes_by_ones k ≡ true → goes_by_ones l ≡ true → b ≡ ones_value k count ones → ones_value k count ones ≡ ones_value l count ones
        → b ≡ gate_value_at f t v
    by_ones_of k l e h i w x = elim e [ inl y ↦ by_ones k y h w | inr y ↦ by_ones l y i (w ∙ x) ]

    pub and_2_value : kd ≡ And2 → b ≡ eqb (ones_to (input_of g) 2) 2 → b ≡ gate_value_at f t v
    and_2_value e w = let n = eqb-true count 2 (fits And2 e) in by_ones And2 e refl (rw n w)

    pub xor_2_value : kd ≡ Xor2 → b ≡ is_odd (ones_to (input_of g) 2) → b ≡ gate_value_at f t v
    xor_2_value e w = let n = eqb-true count 2 (fits Xor2 e) in by_ones Xor2 e refl (rw n w)

    pub buf_value : kd ≡ Buf → b ≡ ltb 0 (ones_to (input_of g) 1) → b ≡ gate_value_at f t v
    buf_value e w = let n = eqb-true count 1 (fits Buf e) in by_ones Buf e refl (rw n w)

    pub mux_value : kd ≡ Mux → b ≡ cond (input_of g 0) (input_of g 1) (input_of g 2) → b ≡ gate_value_at f t v
    unfolding gate_value_at value_of tab
    mux_value e w = let n = eqb-true count 3 (fits Mux e) in rw (kind_is Mux e, ← values_are, ← s.number, n) w

    pub lut_value_lem : kd ≡ Lut → b ≡ lut_of g v → b ≡ gate_value_at f t v
    unfolding gate_value_at lut_value value_of
    lut_value_lem e w = rw (kind_is Lut e) (rw (s.net, s.values, s.start, s.number) at w)

-- ---- what a node shows

pub shown_state : (f t st : List ℕ) (v : ℕ) (b : Bool) → b ≡ dff_at f v → b ≡ true → eqb (get_or st v 0) 1 ≡ shown_at f t st v
unfolding shown_at
shown_state f t st v b p e = rw (← p, e)

pub shown_value : (f t st : List ℕ) (v : ℕ) (b r : Bool) → b ≡ dff_at f v → b ≡ false → r ≡ gate_value_at f t v → r ≡ shown_at f t st v
unfolding shown_at
shown_value f t st v b r p e h = rw (← p, e) h

pub ruleset ways = (shown_state, shown_value)
