-- How many inputs are one, and what they weigh, are small.
use Prim.Native.Nat.{ℕ, zero, suc, ◌+◌, ◌*◌, ◌^◌, ◌≤◌, ◌<◌}
use native.Mathlib.Nat.{not-suc-le-zero, le_of_suc-le-suc, pow-succ'}
use mathlib.Core.Path.{◌≡◌}
use lib.Pow.{pow_pos}
use native.Mathlib.Omega.{arith}
use mathlib.Core.Bool.{Bool, true, false}
use mathlib.Core.List.{List, [], ◌∷◌}
use lib.ListN.{length}
use Rattle.laws.specs.Bools.{bit}
use Rattle.model.specs.Evaluate.{weight}
use Rattle.signal_values.specs.Signals.{ones_to}

module _ (g : ℕ → Bool) where
  pub ones_most : (n : ℕ) → ones_to g n ≤ n
  unfolding ones_to
  ones_most zero = omega arith
  ones_most (suc n) = go (g n) (ones_most n)
    where
      go : (b : Bool) → ones_to g n ≤ n → ones_to g n + bit b ≤ suc n
      go true h = omega arith
      go false h = omega arith

pub weight_small : (k : ℕ) (l : List Bool) → length l ≤ k → weight l < 2 ^ k
weight_small k [] h = pow_pos k
weight_small zero (b ∷ l) h = absurd (not-suc-le-zero h)
weight_small (suc k) (b ∷ l) h =
    let r : weight l < 2 ^ k = weight_small k l (le_of_suc-le-suc h) in
    let q : 2 ^ suc k ≡ 2 * 2 ^ k = pow-succ' 2 k in
    rw q (go b r)
  where
    go : (b : Bool) → weight l < 2 ^ k → bit b + 2 * weight l < 2 * 2 ^ k
    go true r = omega arith
    go false r = omega arith
