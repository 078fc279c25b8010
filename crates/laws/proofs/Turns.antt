-- A loop that counts up to n: what every turn of it asks and leaves.
use Prim.Native.Nat.{ℕ, ◌+◌, ◌-◌, ◌≤◌, ◌<◌}
use native.Mathlib.Omega.{arith}
use mir.Val.{Fits}
use mir.Syntax.{w64}

module _ {j n : ℕ} (h : j < n) where
  pub turn_up : j + 1 ≤ n
  turn_up = omega arith

  pub turn_less : n - (j + 1) < n - j
  turn_less = omega arith

  -- the count is a word, as n is, or as every small number is
  pub turn_fits : Fits w64 n → Fits w64 (j + 1)
  turn_fits f = record { fits = omega (arith, f.fits) }

  pub turn_low : n ≤ 2048 → Fits w64 (j + 1)
  turn_low r = record { fits = omega arith }
