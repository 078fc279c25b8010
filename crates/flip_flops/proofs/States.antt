-- What the flip-flops' pass asks and leaves, with premises as the code meets them.
use mathlib.Core.Path.{◌≡◌, sym, ap, ◌∙◌}
use Prim.Native.Nat.{ℕ, ◌+◌, ◌≤◌, ◌<◌}
use native.Mathlib.Omega.{arith}
use mathlib.Core.Bool.{Bool, true, false, not, cond, ◌&&◌}
use mathlib.Core.List.{List}
use lib.ListN.{get_or, set}
use mir.Val.{bool_byte}
use lib.Dec.{eqb, ltb}
use borrow.Author.Tests.{eqb-true, not-true, not-false}
use Rattle.kinds.specs.Kinds.{kind_of, is_flip_flop}
use Rattle.kinds.specs.declared.Kind.{Kind}
use Rattle.kinds.specs.declared.Kind.TheVariants.{And2, Xor2, And3, Xor3, Maj, Mux, AndN, OrN, NandN, NorN, XorN, XnorN, Buf, Dff, Lut}
use Rattle.laws.specs.Bools.{bit}
use Rattle.laws.proofs.Bools.{and_right, taut2}
use Rattle.model.specs.Gate.{fits_kind, fits_code}
use Rattle.model.specs.Evaluate.{next_state}
use Rattle.tables.specs.Layout.{kind_at, count_at}
use Rattle.signal_values.specs.Signals.{input_value, dff_at, Gated}
use Rattle.signal_values.specs.Inputs.{InputsOf}
use Rattle.signal_values.specs.declared.gate_inputs.Inputs.{Inputs}
use Rattle.signal_values.proofs.Bits.{byte_bit}
use Rattle.flip_flops.specs.Storing.{new_state, stored, new_byte, Passing}
use Rattle.flip_flops.proofs.Filling.{Filled, filled_put, filled_reads, filled_skip, filled_none, filled_all}

-- ---- a flip-flop's inputs: en, then d and res

module _ (f t : List ℕ) (first : ℕ) (en q : Bool) (p : en ≡ input_value f t first 1) where
  pub state_holds : not en ≡ true → q ≡ new_state f t first q
  unfolding new_state next_state
  state_holds e = rw (← p, not-true en e)

  pub state_stores : not en ≡ false → (d res : Bool) → d ≡ input_value f t first 0 → res ≡ input_value f t first 2 → (d && not res) ≡ new_state f t first q
  unfolding new_state next_state
  state_stores e d res a c =
      rw (← a, ← p, ← c, not-false en e)
      (taut2 (λ d res. d && not res) (λ d res. cond res false d) tt d res)

-- node v is no flip-flop: its byte stays; it is one: its new byte
pub state_stays : (f t st l : List ℕ) (v n : ℕ) (b : Bool) → Filled (new_byte f t st) st l v n → v < n → b ≡ dff_at f v → b ≡ false
    → Filled (new_byte f t st) st l (v + 1) n
unfolding new_byte
state_stays f t st l v n b h r p e =
    let d : dff_at f v ≡ false = sym p ∙ e in
    filled_skip (new_byte f t st) st l v n h r (rw d)

pub state_goes : (f t st l : List ℕ) (v n x : ℕ) (g : Inputs) (b q : Bool) → Filled (new_byte f t st) st l v n → v < n → b ≡ dff_at f v → b ≡ true
    → InputsOf f t v g → q ≡ stored g (eqb (get_or l v 0) 1) → x ≡ bool_byte q → Filled (new_byte f t st) st (set l v x) (v + 1) n
unfolding new_byte
state_goes f t st l v n x g b q h r p e a y z =
    let d : dff_at f v ≡ true = sym p ∙ e in
    let w : get_or l v 0 ≡ get_or st v 0 = filled_reads (new_byte f t st) st l v n h r in
    filled_put (new_byte f t st) st l v n x h r (z ∙ byte_bit q ∙ ap bit y ∙ rw (d, a.net, a.values, a.start, w))

clash : {X : Type 0} → false ≡ true → X
clash e = let z : ◌≡◌ {A = ℕ} 0 1 = cc in absurd (omega arith)

-- a flip-flop has three inputs
pub three_inputs : (k : Kind) (n : ℕ) → is_flip_flop k ≡ true → fits_kind k n ≡ true → n ≡ 3
three_inputs Dff n d f = eqb-true n 3 f
three_inputs And2 n d f = clash d
three_inputs Xor2 n d f = clash d
three_inputs And3 n d f = clash d
three_inputs Xor3 n d f = clash d
three_inputs Maj n d f = clash d
three_inputs Mux n d f = clash d
three_inputs AndN n d f = clash d
three_inputs OrN n d f = clash d
three_inputs NandN n d f = clash d
three_inputs NorN n d f = clash d
three_inputs XorN n d f = clash d
three_inputs XnorN n d f = clash d
three_inputs Buf n d f = clash d
three_inputs Lut n d f = clash d

pub dff_inputs : (f t st : List ℕ) (v n : ℕ) (g : Inputs) (b : Bool) → Passing f t st n → v < n → b ≡ dff_at f v → b ≡ true → InputsOf f t v g → 3 ≤ g.count
unfolding dff_at fits_code
dff_inputs f t st v n g b h l p e a =
    let c : count_at f v ≡ 3 = three_inputs (kind_of (kind_at f v)) (count_at f v) (sym p ∙ e) (and_right (ltb (kind_at f v) 15) _ (h.gates v l).fits) in
    let d = a.number in
    omega arith

pub dff_gated : (f t st : List ℕ) (v n : ℕ) → Passing f t st n → v < n → Gated f t v
dff_gated f t st v n h l = h.gates v l

pub ruleset turns = (filled_none, filled_all, dff_inputs, dff_gated, state_stays, state_goes)
