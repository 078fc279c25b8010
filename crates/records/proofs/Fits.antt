-- Laws of one record, in the form in which the code meets it: h is the header that it has read.
use mathlib.Core.Path.{◌≡◌, ap, sym, ◌∙◌}
use mathlib.Core.Logic.{◌≢◌}
use mathlib.Core.List.{List}
use mathlib.Core.Bool.{Bool, true, false, not, ◌&&◌, and-false}
use Prim.Native.Nat.{ℕ, ◌+◌, ◌-◌, ◌*◌, ◌/◌, ◌%◌, ◌^◌, ◌≤◌, ◌<◌}
use native.Mathlib.Omega.{arith}
use native.Mathlib.Nat.{zero-mul, add-zero}
use lib.ListN.{get_or}
use lib.Dec.{ltb}
use lib.Pow.{pow_mono}
use borrow.Author.Tests.{lt-ltb, le-ltb, lt-leb, le-leb, eq-eqb, ne_eqb, not-true, not-false}
use Rattle.std.specs.Prelude.{Some, None}
use Rattle.laws.proofs.Bools.{and_right}
use Rattle.kinds.specs.Kinds.{kind_of}
use Rattle.kinds.specs.declared.Kind.{Kind}
use Rattle.model.specs.Gate.{fits_code, fits_kind, fits_table}
use Rattle.model.specs.Image.{header_ok, code_at, count_at, size_at, table_at, sound_at}
use Rattle.shape.proofs.Shaped.{lut_small}
use Rattle.shape.proofs.Walks.{size_pos}
use Rattle.records.specs.Layouts.{size_of, fit_at}

-- ---- a header

pub code_fits : (code n : ℕ) (k : Kind) → k ≡ kind_of code → (t : Bool) → t ≡ fits_kind k n → (ltb code 15 && t) ≡ fits_code code n
unfolding fits_code
code_fits code n k e t q = ap (λ b. ltb code 15 && b) (q ∙ ap (λ (x : Kind). fits_kind x n) e)

pub header_fits : (h : ℕ) (t : Bool) → t ≡ fits_code (h % 256) (h / 256) → (ltb h 16777216 && t) ≡ header_ok h
unfolding header_ok
header_fits h t e = ap (λ b. ltb h 16777216 && b) e

-- ---- a Lut's table in two words, by the number of inputs

module _ (n lo hi : ℕ) where
  pub table_six : n ≡ 6 → lo < 4294967296 → hi < 4294967296 → true ≡ fits_table 14 n (lo + hi * 4294967296)
  unfolding fits_table
  table_six e a b = simp e (sym (lt-ltb (lo + hi * 4294967296) 18446744073709551616 (omega arith)))

  -- below 6 the high word is zero
  pub table_high : n < 6 → 0 < hi → false ≡ fits_table 14 n (lo + hi * 4294967296)
  unfolding fits_table
  table_high h z =
      let p : 2 ^ n ≤ 32 = pow_mono {i = n} {j = 5} (omega arith) in
      let q : 2 ^ (2 ^ n) ≤ 4294967296 = pow_mono {i = 2 ^ n} {j = 32} p in
      sym (le-ltb (lo + hi * 4294967296) (2 ^ (2 ^ n)) (omega arith))

  pub table_low : (k : ℕ) → n ≡ k → hi ≡ 0 → ltb lo (2 ^ (2 ^ k)) ≡ fits_table 14 n (lo + hi * 4294967296)
  unfolding fits_table
  table_low k e z = simp (e, z, zero-mul, add-zero)

  pub table_five : n ≡ 5 → hi ≡ 0 → lo < 4294967296 → true ≡ fits_table 14 n (lo + hi * 4294967296)
  table_five e z h = sym (lt-ltb lo 4294967296 h) ∙ table_low 5 e z

-- ---- the size and the soundness of the record at a position

module _ (ws : List ℕ) (at h : ℕ) (e : h ≡ get_or ws at 0) where
  pub size_is : size_at ws at ≡ size_of h
  unfolding size_at size_of code_at count_at
  size_is = rw (← e)

  pub count_is : count_at ws at ≡ h / 256
  unfolding count_at
  count_is = rw (← e)

  size_plain : h % 256 ≢ 14 → size_at ws at ≡ h / 256 + 1
  unfolding size_at code_at count_at
  size_plain n = simp (← e, ne_eqb (h % 256) 14 n) (omega arith)

  size_lut : h % 256 ≡ 14 → size_at ws at ≡ h / 256 + 3
  unfolding size_at code_at count_at
  size_lut q = simp (← e, eq-eqb (h % 256) 14 q) (omega arith)

  sound_plain : h % 256 ≢ 14 → header_ok h ≡ true → sound_at ws at ≡ true
  unfolding sound_at code_at table_at fits_table
  sound_plain n k = simp (← e, ne_eqb (h % 256) 14 n, k)

  sound_lut : (lo hi : ℕ) → h % 256 ≡ 14 → lo ≡ get_or ws (at + 1 + h / 256) 0 → hi ≡ get_or ws (at + 2 + h / 256) 0
      → header_ok h ≡ true → sound_at ws at ≡ fits_table 14 (h / 256) (lo + hi * 4294967296)
  unfolding sound_at code_at count_at table_at
  sound_lut lo hi q a b k = simp (← e, q, k, ← a, ← b)

  unsound : header_ok h ≡ false → sound_at ws at ≡ false
  unfolding sound_at
  unsound k = simp (← e, k)

-- a Lut's header that passes has at most 6 inputs
lut_count_is : (h : ℕ) → header_ok h ≡ true → h % 256 ≡ 14 → h / 256 ≤ 6
unfolding header_ok
lut_count_is h e q = lut_small (h % 256) (h / 256) (and_right (ltb h 16777216) (fits_code (h % 256) (h / 256)) e) q

-- ---- `fit_at`

fit_no : (ws : List ℕ) (at lim : ℕ) → sound_at ws at ≡ false → None ≡ fit_at ws at lim
unfolding fit_at
fit_no ws at lim k = simp k

fit_long : (ws : List ℕ) (at lim : ℕ) → lim < at + size_at ws at → None ≡ fit_at ws at lim
unfolding fit_at
fit_long ws at lim k = simp (lt-leb (at + size_at ws at) lim k, and-false)

pub fit_past : (ws : List ℕ) (at lim : ℕ) → lim ≤ at → None ≡ fit_at ws at lim
fit_past ws at lim k = fit_long ws at lim (omega (arith, size_pos ws at))

fit_yes : (ws : List ℕ) (at lim : ℕ) → sound_at ws at ≡ true → at + size_at ws at ≤ lim → Some (size_at ws at) ≡ fit_at ws at lim
unfolding fit_at
fit_yes ws at lim k l = simp (k, le-leb (at + size_at ws at) lim l)

-- the answers of `fit_at`, one law for each return, its premises the tests and the calls' promises as the code meets them
module _ (ws : List ℕ) (at lim h : ℕ) (e : h ≡ get_or ws at 0) (t : Bool) (q : t ≡ header_ok h) where
  pub fit_header : not t ≡ true → None ≡ fit_at ws at lim
  fit_header k = fit_no ws at lim (unsound ws at h e (sym q ∙ not-true t k))

  module _ (k : not t ≡ false) (a : at < lim) where
    good : header_ok h ≡ true
    good = sym q ∙ not-false t k

    pub fit_plain_long : h % 256 ≢ 14 → lim - at ≤ h / 256 → None ≡ fit_at ws at lim
    fit_plain_long n l = fit_long ws at lim (omega (arith, size_plain ws at h e n))

    pub fit_plain : h % 256 ≢ 14 → h / 256 < lim - at → Some (h / 256 + 1) ≡ fit_at ws at lim
    fit_plain n l =
        ap Some (sym (size_plain ws at h e n)) ∙ fit_yes ws at lim (sound_plain ws at h e n good) (omega (arith, size_plain ws at h e n))

    module _ (w : h % 256 ≡ 14) where
      pub fit_lut_long : lim - at ≤ h / 256 + 2 → None ≡ fit_at ws at lim
      fit_lut_long l = fit_long ws at lim (omega (arith, size_lut ws at h e w))

      pub lut_count : h / 256 ≤ 6
      lut_count = lut_count_is h good w

      module _ (l : h / 256 + 2 < lim - at) (lo hi : ℕ) (x : lo ≡ get_or ws (at + 1 + h / 256) 0) (y : hi ≡ get_or ws (at + 2 + h / 256) 0)
          (u : Bool) (z : u ≡ fits_table 14 (h / 256) (lo + hi * 4294967296)) where
        pub fit_lut : u ≡ true → Some (h / 256 + 3) ≡ fit_at ws at lim
        fit_lut b =
            ap Some (sym (size_lut ws at h e w))
            ∙ fit_yes ws at lim (sound_lut ws at h e lo hi w x y good ∙ sym z ∙ b) (omega (arith, size_lut ws at h e w))

        pub fit_table : u ≡ false → None ≡ fit_at ws at lim
        fit_table b = fit_no ws at lim (sound_lut ws at h e lo hi w x y good ∙ sym z ∙ b)

pub ruleset fits = (fit_past, fit_header, fit_plain_long, fit_plain, fit_lut_long, lut_count, fit_lut, fit_table)
