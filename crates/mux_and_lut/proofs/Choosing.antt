-- What a Mux picks, and the bit that a Lut's inputs number.
use mathlib.Core.Path.{◌≡◌, ◌∙◌}
use Prim.Native.Nat.{ℕ, ◌+◌, ◌*◌, ◌/◌, ◌^◌, ◌≤◌, ◌<◌}
use mathlib.Core.Bool.{Bool, not, cond, ◌&&◌, ◌||◌}
use mathlib.Core.List.{List}
use lib.Dec.{eqb}
use lib.Bits.{bit_and}
use Rattle.laws.specs.Lists.{tab}
use Rattle.laws.proofs.Bools.{taut3}
use Rattle.laws.proofs.Tabs.{length_tab}
use Rattle.model.specs.Evaluate.{weight}
use Rattle.tables.specs.Layout.{low_at, high_at}
use Rattle.signal_values.specs.Signals.{input_value}
use Rattle.signal_values.proofs.Bits.{mask_odd}
use Rattle.signal_values.proofs.Bounds.{weight_small}
use Rattle.mux_and_lut.specs.Tables.{lut_value}

pub mux_is : (s a b : Bool) → (s && a || not s && b) ≡ cond s a b
mux_is s a b = taut3 (λ s a b. s && a || not s && b) (λ s a b. cond s a b) tt s a b

-- ---- the Lut's bit

pub weight_inside : (f t : List ℕ) (first count w : ℕ) → count ≤ 6 → w ≡ weight (tab (input_value f t first) count) → w < 64
weight_inside f t first count w h e = rw e (weight_small 6 (tab (input_value f t first) count) (rw length_tab h))

pub lut_is : (f t : List ℕ) (v first count w lo hi : ℕ) → w ≡ weight (tab (input_value f t first) count) → lo ≡ low_at f v → hi ≡ high_at f v
    → eqb (bit_and ((lo + 4294967296 * hi) / 2 ^ w) 1) 1 ≡ lut_value f t v first count
unfolding lut_value
lut_is f t v first count w lo hi e a b = mask_odd ((lo + 4294967296 * hi) / 2 ^ w) ∙ rw (e, a, b)

pub ruleset chooses = (weight_inside, lut_is)
