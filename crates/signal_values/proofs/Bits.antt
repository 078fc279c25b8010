-- The words' low bits: where a signal's value stands, and how it is read.
use mathlib.Core.Path.{◌≡◌, refl, ap, ◌∙◌}
use Prim.Native.Nat.{ℕ, ◌+◌, ◌*◌, ◌/◌, ◌%◌, ◌<◌, min}
use native.Mathlib.Nat.{zero-min}
use native.Mathlib.Omega.{arith}
use native.Mathlib.Decide.{ℕ_discrete}
use mathlib.Core.Bool.{Bool, true, false, ◌&&◌}
use mathlib.Core.List.{List}
use lib.Dec.{eqb}
use mir.Val.{bool_byte}
use lib.Bits.{bit_and, bit_xor, and_mask, and_step, xor_step, differ}
use borrow.Author.Tests.{eq-eqb, ne_eqb}
use Rattle.laws.specs.Bools.{xor, bit}
use Rattle.model.specs.Signal.{is_inverted}
use Rattle.tables.specs.Layout.{cell}
use Rattle.signal_values.specs.Signals.{values_base, slot, is_odd, value_at}

pub mask_slot : (s : ℕ) → bit_and (s / 2) 2047 ≡ slot s
unfolding slot
mask_slot s = and_mask (s / 2) 11

pub slot_below : (s : ℕ) → slot s < 2048
unfolding slot
slot_below s = omega arith

pub mask_odd : (n : ℕ) → eqb (bit_and n 1) 1 ≡ is_odd n
mask_odd n = ap (λ k. eqb k 1) (and_mask n 1)

-- the exclusive or's low bit
pub parity : (x s : ℕ) → is_odd (bit_xor x s) ≡ xor (is_inverted s) (is_odd x)
unfolding is_inverted
parity x s =
    let e : bit_xor x s ≡ bit_xor (x / 2) (s / 2) * 2 + differ (x % 2) (s % 2) = xor_step x s in
    elim (ℕ_discrete (s % 2) 1) [
      | yes p ↦ elim (ℕ_discrete (x % 2) 1) [
        | yes q ↦ let d : differ (x % 2) (s % 2) ≡ 0 = rw (p, q) in rw (p, q) (ne_eqb (bit_xor x s % 2) 1 (omega arith))
        | no q ↦
            let z : x % 2 ≡ 0 = omega arith in
            let d : differ (x % 2) (s % 2) ≡ 1 = rw (p, z) in
            rw (p, z) (eq-eqb (bit_xor x s % 2) 1 (omega arith))
      ]
      | no p ↦
          let w : s % 2 ≡ 0 = omega arith in
          elim (ℕ_discrete (x % 2) 1) [
            | yes q ↦ let d : differ (x % 2) (s % 2) ≡ 1 = rw (w, q) in rw (w, q) (eq-eqb (bit_xor x s % 2) 1 (omega arith))
            | no q ↦
                let z : x % 2 ≡ 0 = omega arith in
                let d : differ (x % 2) (s % 2) ≡ 0 = rw (w, z) in
                rw (w, z) (ne_eqb (bit_xor x s % 2) 1 (omega arith))
          ]
    ]

-- the conjunction's low bit
pub parity_and : (x y : ℕ) → is_odd (bit_and x y) ≡ is_odd x && is_odd y
parity_and x y =
    let e : bit_and x y ≡ bit_and (x / 2) (y / 2) * 2 + min (x % 2) (y % 2) = and_step x y in
    elim (ℕ_discrete (x % 2) 1) [
      | yes p ↦ elim (ℕ_discrete (y % 2) 1) [
        | yes q ↦ let d : min (x % 2) (y % 2) ≡ 1 = rw (p, q) in rw (p, q) (eq-eqb (bit_and x y % 2) 1 (omega arith))
        | no q ↦
            let z : y % 2 ≡ 0 = omega arith in
            let d : min (x % 2) (y % 2) ≡ 0 = rw (p, z) in
            rw (p, z) (ne_eqb (bit_and x y % 2) 1 (omega arith))
      ]
      | no p ↦
          let w : x % 2 ≡ 0 = omega arith in
          let d : min (x % 2) (y % 2) ≡ 0 = rw w (zero-min (y % 2)) in
          rw w (ne_eqb (bit_and x y % 2) 1 (omega arith))
    ]

-- a truth value as a number
pub byte_bit : (b : Bool) → bool_byte b ≡ bit b
byte_bit true = refl
byte_bit false = refl

-- a word that is a truth value's
pub odd_bit : (b : Bool) → is_odd (bit b) ≡ b
odd_bit true = refl
odd_bit false = refl

pub bit_odd : (r : ℕ) (b c : Bool) → r ≡ bool_byte b → b ≡ c → is_odd r ≡ c
bit_odd r b c p q = ap is_odd (p ∙ byte_bit b) ∙ odd_bit b ∙ q

-- what `value_word` and `value` read
pub reads_word : (t : List ℕ) (s i x : ℕ) → i ≡ slot s → x ≡ cell t values_base i → is_odd (bit_xor x s) ≡ value_at t s
unfolding value_at
reads_word t s i x p q = parity x s ∙ rw (q, p)

pub reads_value : (t : List ℕ) (s w : ℕ) → is_odd w ≡ value_at t s → eqb (bit_and w 1) 1 ≡ value_at t s
reads_value t s w e = mask_odd w ∙ e
