-- Numbers in decimal: digit by digit, and how many.
use mathlib.Core.Path.{◌≡◌, ap}
use Prim.Native.Nat.{ℕ, zero, suc, ◌/◌, ◌%◌, ◌^◌, ◌≤◌, ◌<◌}
use native.Mathlib.Omega.{arith}
use mathlib.Core.List.{List, [], ◌∷◌, ◌++◌}
use lib.ListN.{length, length-append}
use lib.Dec.{ltb}
use borrow.Author.Tests.{ltb-true, ltb-false, lt-ltb, le-ltb}
use Rattle.laws.proofs.Choices.{by_bool}
use Rattle.model.specs.Listing.{digit, digits, decimal}

-- more digits than units are no more
digits_enough : (j k n : ℕ) → n < j → n < k → digits j n ≡ digits k n
unfolding digits
digits_enough zero k n h l = absurd (omega arith)
digits_enough (suc j) zero n h l = absurd (omega arith)
digits_enough (suc j) (suc k) n h l =
    by_bool (ltb n 10)
    (λ e. rw e)
    (λ e. let t : 10 ≤ n = ltb-false n 10 e in
    rw e (ap (λ (x : List ℕ). x ++ (digit (n % 10) ∷ [])) (digits_enough j k (n / 10) (omega arith) (omega arith))))

pub decimal_low : (n : ℕ) → n < 10 → decimal n ≡ digit n ∷ []
unfolding decimal digits
decimal_low n h = rw (lt-ltb n 10 h)

pub decimal_high : (n : ℕ) → 10 ≤ n → decimal n ≡ decimal (n / 10) ++ (digit (n % 10) ∷ [])
unfolding decimal digits
decimal_high n h =
    rw (le-ltb n 10 h) (ap (λ (x : List ℕ). x ++ (digit (n % 10) ∷ [])) (digits_enough n (suc (n / 10)) (n / 10) (omega arith) (omega arith)))

-- a number below the power of ten of k has at most k digits, and one at least
pub decimal_short : (k n : ℕ) → n < 10 ^ suc k → length (decimal n) ≤ suc k
decimal_short zero n h = let l : n < 10 = h in rw (decimal_low n l) (omega arith)
decimal_short (suc k) n h =
    by_bool (ltb n 10)
    (λ e. rw (decimal_low n (ltb-true n 10 e)) (omega arith))
    (λ e. rw (decimal_high n (ltb-false n 10 e), length-append) (omega (arith, decimal_short k (n / 10) (omega arith))))
