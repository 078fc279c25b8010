-- The turns of the loops over a gate's inputs, with premises as the code meets them: one ruleset answers every need.
use mathlib.Core.Path.{◌≡◌, refl, sym, ap, ◌∙◌}
use Prim.Native.Nat.{ℕ, suc, ◌+◌, ◌-◌, ◌*◌, ◌/◌, ◌≤◌, ◌<◌}
use native.Mathlib.Omega.{arith}
use native.Mathlib.Nat.{le_antisymm}
use native.Mathlib.Numerals.{add-one}
use mathlib.Core.Bool.{Bool, true, false}
use mathlib.Core.List.{List}
use lib.ListN.{length, drop, length-drop, drop_of_length-le}
use lib.Bits.{bit_and}
use mir.Syntax.{w64}
use mir.Val.{Fits, bool_byte}
use Rattle.laws.specs.Bools.{bit}
use Rattle.laws.specs.Lists.{tab}
use Rattle.laws.proofs.Tabs.{length_tab, drop_tab}
use Rattle.model.specs.Evaluate.{weight}
use Rattle.tables.specs.Layout.{input_at}
use Rattle.signal_values.specs.Signals.{values_end, slot, value_at, input_value, ones_to}
use Rattle.signal_values.proofs.Bits.{mask_slot, slot_below, byte_bit, reads_word, reads_value}
use Rattle.signal_values.proofs.Bounds.{ones_most, weight_small}

-- ---- a signal's value

pub slot_inside : (s i : ℕ) (t : List ℕ) → i ≡ slot s → values_end ≤ length t → 4672 + i < length t
slot_inside s i t e h = let l = slot_below s in omega arith

pub slot_is : (s r : ℕ) → r ≡ bit_and (s / 2) 2047 → r ≡ slot s
slot_is s r e = e ∙ mask_slot s

-- a bit is at most one
pub bit_low : (b : Bool) → bit b ≤ 1
bit_low true = omega arith
bit_low false = omega arith

module _ (f t : List ℕ) (first : ℕ) where
  -- the j-th input's value, as the code reads it
  pub input_is : (j x : ℕ) (b : Bool) → x ≡ input_at f (first + j) → b ≡ value_at t x → b ≡ input_value f t first j
  unfolding input_value
  input_is j x b p q = q ∙ ap (value_at t) p

  -- ---- ones

  pub record Ones (n j count : ℕ) : Type 0 where
    pub few : j ≤ count
    pub sum : n ≡ ones_to (input_value f t first) j

  pub ones_none : (count : ℕ) → Ones 0 0 count
  unfolding ones_to
  ones_none count = record { few = omega arith; sum = refl }

  pub ones_fits : (n j count o : ℕ) (b : Bool) → Ones n j count → first + count ≤ 2048 → j < count → o ≡ bool_byte b → Fits w64 (n + o)
  ones_fits n j count o b h r l p =
      let m = ones_most (input_value f t first) j in
      let u = bit_low b in
      let e = p ∙ byte_bit b in
      record { fits = rw h.sum (omega arith) }

  pub ones_more : (n j count o : ℕ) (b : Bool) → Ones n j count → j < count → b ≡ input_value f t first j → o ≡ bool_byte b → Ones (n + o) (j + 1) count
  unfolding ones_to
  ones_more n j count o b h l p q =
      record { few = omega arith; sum = rw (add-one, q, byte_bit b, p) (ap (λ k. k + bit (input_value f t first j)) h.sum) }

  pub ones_all : (n j count : ℕ) → Ones n j count → count ≤ j → n ≡ ones_to (input_value f t first) count
  ones_all n j count h l = let e : j ≡ count = le_antisymm h.few l in h.sum ∙ rw e

  -- ---- weight

  pub record Weight (w j count : ℕ) : Type 0 where
    pub few : j ≤ count
    pub short : count ≤ 6
    pub sum : w ≡ weight (drop j (tab (input_value f t first) count))

  pub weight_none : (count : ℕ) → count ≤ 6 → Weight 0 count count
  weight_none count h =
      let e : length (tab (input_value f t first) count) ≡ count = length_tab _ count in
      let l : length (tab (input_value f t first) count) ≤ count = omega arith in
      record { few = omega arith; short = h; sum = rw (drop_of_length-le (tab (input_value f t first) count) l) }

  pub weight_low : (w j count : ℕ) → Weight w j count → w < 64
  weight_low w j count h =
      let e : length (drop j (tab (input_value f t first) count)) ≤ 6 = rw (length-drop, length_tab) (let s = h.short in omega arith) in
      rw h.sum (weight_small 6 (drop j (tab (input_value f t first) count)) e)

  pub weight_twice : (w j count : ℕ) → Weight w j count → Fits w64 (2 * w)
  weight_twice w j count h = let l = weight_low w j count h in record { fits = omega arith }

  pub weight_fits : (w j count o : ℕ) (b : Bool) → Weight w j count → o ≡ bool_byte b → Fits w64 (2 * w + o)
  weight_fits w j count o b h p =
      let l = weight_low w j count h in
      let u = bit_low b in
      let e = p ∙ byte_bit b in
      record { fits = omega arith }

  pub weight_more : (w j count o : ℕ) (b : Bool) → Weight w j count → 0 < j → b ≡ input_value f t first (j - 1) → o ≡ bool_byte b → Weight (2 * w + o) (j - 1) count
  weight_more w j count o b h l p q =
      let g = input_value f t first in
      let k : suc (j - 1) ≡ j = omega arith in
      let d : weight (drop (suc (j - 1)) (tab g count)) ≡ w = ap (λ m. weight (drop m (tab g count))) k ∙ sym h.sum in
      let c : weight (drop (j - 1) (tab g count)) ≡ bit (g (j - 1)) + 2 * weight (drop (suc (j - 1)) (tab g count)) =
      ap weight (drop_tab g count (j - 1) false (let m = h.few in omega arith)) in
      let u : o ≡ bit (g (j - 1)) = q ∙ byte_bit b ∙ ap bit p in
      record { few = let m = h.few in omega arith; short = h.short; sum = omega arith }

  pub weight_all : (w j count : ℕ) → Weight w j count → j ≤ 0 → w ≡ weight (tab (input_value f t first) count)
  weight_all w j count h l = let e : j ≡ 0 = omega arith in h.sum ∙ rw e

pub ruleset turns = (slot_inside, slot_is, reads_word, reads_value, ones_none, ones_fits, ones_more, ones_all, weight_none, weight_twice, weight_fits, weight_more, weight_all)
