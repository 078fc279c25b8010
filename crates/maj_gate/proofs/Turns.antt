-- The recursion of make_maj: what falls, and that a call on the inverted signals gives the same.
use mathlib.Core.Path.{◌≡◌, ap, ◌∙◌}
use Prim.Native.Nat.{ℕ, ◌/◌, ◌<◌}
use native.Mathlib.Omega.{arith}
use mathlib.Core.Bool.{Bool, true, false, not, ◌||◌}
use lib.Dec.{eqb}
use borrow.Author.Tests.{ne_eqb, eqb-false}
use Rattle.laws.specs.Bools.{bit}
use Rattle.laws.proofs.Bools.{or_left, or_right}
use Rattle.model.specs.Signal.{is_inverted, neg}
use Rattle.model.proofs.Words.{flip_ind, neg_neg, neg_plain}
use Rattle.model.proofs.Order.{low_mid, mid_high, low_stays, mid_stays, high_stays, rising, neg_rising}
use Rattle.model.specs.Normal.{Norm, low3, mid3, high3, maj_plain, maj_sorted, make_maj}

-- inversions left: of the least signal
unfoldable pub maj_left : ℕ → ℕ → ℕ → ℕ
maj_left a b c = bit (is_inverted (low3 a b c))

-- the call on the three inverted, past the tests that they meet
module _ (a b c x y w n m k : ℕ) (z : Bool) (ex : x ≡ low3 a b c) (ey : y ≡ mid3 a b c) (ew : w ≡ high3 a b c)
    (en : n ≡ neg x) (em : m ≡ neg y) (ek : k ≡ neg w)
    (t1 : (eqb x (neg y) || eqb y w) ≡ false) (t2 : (eqb y (neg w) || eqb x y) ≡ false) (i : is_inverted x ≡ true) where
  xy : x / 2 < y / 2
  xy = rising x y (rw (ex, ey) (low_mid a b c)) (eqb-false x (neg y) (or_left _ _ t1)) (eqb-false x y (or_right (eqb y (neg w)) _ t2))

  yw : y / 2 < w / 2
  yw = rising y w (rw (ey, ew) (mid_high a b c)) (eqb-false y (neg w) (or_left _ _ t2)) (eqb-false y w (or_right (eqb x (neg y)) _ t1))

  apart : (u v : ℕ) → u / 2 < v / 2 → eqb (neg u) (neg v) ≡ false
  apart u v l =
      let p : neg u / 2 ≡ u / 2 = flip_ind u true in
      let q : neg v / 2 ≡ v / 2 = flip_ind v true in
      ne_eqb (neg u) (neg v) (λ e. let f : neg u / 2 ≡ neg v / 2 = ap (λ i. i / 2) e in omega arith)

  apart2 : (u v : ℕ) → u / 2 < v / 2 → eqb (neg u) (neg (neg v)) ≡ false
  apart2 u v l =
      let p : neg u / 2 ≡ u / 2 = flip_ind u true in
      rw (neg_neg v) (ne_eqb (neg u) v (λ e. let f : neg u / 2 ≡ v / 2 = ap (λ i. i / 2) e in omega arith))

  low_neg : low3 n m k ≡ n
  low_neg = rw (en, em, ek) (low_stays (neg x) (neg y) (neg w) (neg_rising x y xy) (neg_rising y w yw))

  mid_neg : mid3 n m k ≡ m
  mid_neg = rw (en, em, ek) (mid_stays (neg x) (neg y) (neg w) (neg_rising x y xy) (neg_rising y w yw))

  high_neg : high3 n m k ≡ k
  high_neg = rw (en, em, ek) (high_stays (neg x) (neg y) (neg w) (neg_rising x y xy) (neg_rising y w yw))

  turned : is_inverted n ≡ false
  turned = rw en (neg_plain x i)

  again : make_maj n m k (not z) ≡ maj_plain n m k (not z)
  unfolding make_maj maj_sorted
  again = rw (low_neg, mid_neg, high_neg, turned, en, em, ek, apart2 x y xy, apart y w yw, apart2 y w yw, apart x y xy)

  pub maj_turn : (r : Norm) → r ≡ make_maj n m k (not z) → r ≡ make_maj a b c z
  unfolding make_maj maj_sorted
  maj_turn r q = q ∙ again ∙ rw (← ex, ← ey, ← ew, t1, t2, i, en, em, ek)

  pub maj_falls : (q : ℕ) → maj_left a b c ≡ q → maj_left n m k < q
  unfolding maj_left
  maj_falls q d = rw (← d, low_neg, turned, ← ex, i) (omega arith)
