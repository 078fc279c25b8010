-- A block whose words join to zero is zero already; blocks set to zero one after the other are an area cleared.
use mathlib.Core.Path.{◌≡◌, refl, sym, ap, ap₂, ◌∙◌}
use Prim.Native.Nat.{ℕ, zero, suc, ◌+◌, ◌-◌, ◌*◌, ◌≤◌, ◌<◌}
use native.Mathlib.Omega.{arith}
use mathlib.Core.List.{List, [], ◌∷◌, ◌++◌, append_assoc}
use lib.ListN.{length, get_or, set, drop, replicate, length-replicate, length-drop, length-append}
use lib.Seq.{take_at, drop_at, drop-drop, length-take-le}
use lib.Bits.{bit_and, bit_or, or_add_and, and_le_l, and_le_r}
use borrow.Rule.Slice.PartMut.{put_mid, mid_of}
use Rattle.std.specs.List.{fold}
use Rattle.std.proofs.lemmas.List.{replicate-append-replicate}
use Rattle.model.specs.Answers.{cleared}
use Rattle.clearing.specs.Blocks.{joined, zeroed}
use Rattle.clearing.proofs.Blocks.{zeroed_put}

-- ---- nothing to write

or_left : (a b : ℕ) → bit_or a b ≡ 0 → a ≡ 0
or_left a b e =
    let s : bit_or a b + bit_and a b ≡ a + b = or_add_and a b in
    let r = and_le_r a b in
    omega arith

or_right : (a b : ℕ) → bit_or a b ≡ 0 → b ≡ 0
or_right a b e =
    let s : bit_or a b + bit_and a b ≡ a + b = or_add_and a b in
    let r = and_le_l a b in
    omega arith

joined_start : (x : ℕ) (l : List ℕ) → fold bit_or x l ≡ 0 → x ≡ 0
joined_start x [] e = e
joined_start x (y ∷ l) e = or_left x y (joined_start (bit_or x y) l e)

-- words that join to zero
pub joined_zero : (x : ℕ) (l : List ℕ) → fold bit_or x l ≡ 0 → l ≡ replicate (length l) 0
joined_zero x [] e = refl
joined_zero x (y ∷ l) e =
    let z : y ≡ 0 = or_right x y (joined_start (bit_or x y) l e) in
    ap₂ (λ (n : ℕ) (m : List ℕ). n ∷ m) z (joined_zero (bit_or x y) l e)

set_zero : (l : List ℕ) (k : ℕ) → get_or l k 0 ≡ 0 → set l k 0 ≡ l
set_zero [] k e = refl
set_zero (x ∷ l) zero e = ap (λ y. y ∷ l) (sym e)
set_zero (x ∷ l) (suc k) e = ap (λ (m : List ℕ). x ∷ m) (set_zero l k e)

-- a block that joins to zero
pub zeroed_none : (l : List ℕ) (from n : ℕ) → joined l from n ≡ 0 → l ≡ zeroed l from n
unfolding joined zeroed
zeroed_none l from zero e = refl
zeroed_none l from (suc n) e =
    let h : l ≡ zeroed l from n = zeroed_none l from n (or_left (joined l from n) (get_or l (from + n) 0) e) in
    sym (ap (λ (m : List ℕ). set m (from + n) 0) (sym h) ∙ set_zero l (from + n) (or_right (joined l from n) (get_or l (from + n) 0) e))

-- ---- block after block

pub record Fronts (d l : List ℕ) (k : ℕ) : Type 0 where
  pub few : k ≤ 128
  pub long : length l ≡ length d
  pub is : l ≡ replicate (128 * k) 0 ++ drop (128 * k) d

-- n words behind the first i set to zero
front_more : (d : List ℕ) (i n : ℕ) → i + n ≤ length d → put_mid i n (replicate i 0 ++ drop i d) (replicate n 0) ≡ replicate (i + n) 0 ++ drop (i + n) d
front_more d i n h =
    let z : List ℕ = replicate i 0 in
    let r : length z ≡ i = length-replicate i 0 in
    ap₂ (λ (u v : List ℕ). u ++ (replicate n 0 ++ drop n v)) (take_at z (drop i d) i r) (drop_at z (drop i d) i r)
    ∙ ap (λ (v : List ℕ). z ++ (replicate n 0 ++ v)) (drop-drop n i d)
    ∙ sym (append_assoc z (replicate n 0) (drop (i + n) d))
    ∙ ap (λ (u : List ℕ). u ++ drop (i + n) d) (replicate-append-replicate {A = ℕ} i n 0)

-- the first i words zero, and n more
zeroed_front : (d : List ℕ) (i n : ℕ) → i + n ≤ length d → zeroed (replicate i 0 ++ drop i d) i n ≡ replicate (i + n) 0 ++ drop (i + n) d
zeroed_front d i n h =
    let r : length (replicate i 0 ++ drop i d) ≡ length d = simp (length-append, length-replicate, length-drop) (omega arith) in
    zeroed_put (replicate i 0 ++ drop i d) i n (omega arith) ∙ front_more d i n h

module _ (d : List ℕ) (h : 16384 ≤ length d) where
  pub fronts_none : Fronts d d 0
  fronts_none = record { few = omega arith; long = refl; is = refl }

  module _ (l : List ℕ) (k : ℕ) (p : Fronts d l k) where
    pub fronts_more : (m : List ℕ) → k < 128 → m ≡ zeroed l (128 * k) 128 → length m ≡ length l → Fronts d m (k + 1)
    fronts_more m b e s =
        let z : 128 * k + 128 ≡ 128 * (k + 1) = omega arith in
        record {
          few = omega arith;
          long = s ∙ p.long;
          is = e ∙ ap (λ (u : List ℕ). zeroed u (128 * k) 128) p.is ∙ zeroed_front d (128 * k) 128 (omega arith) ∙ ap (λ i. replicate i 0 ++ drop i d) z;
        }

    pub fronts_part : (n : ℕ) (b m : List ℕ) → k < 128 → n ≡ 128 * k + 128 - 128 * k → b ≡ replicate (length (mid_of (128 * k) n l)) 0
        → m ≡ put_mid (128 * k) n l b → length m ≡ length l → Fronts d m (k + 1)
    fronts_part n b m c e f g s =
        let y : n ≡ 128 = omega arith in
        let r : 128 * k + 128 ≤ length l = rw p.long (omega arith) in
        let w : length (mid_of (128 * k) n l) ≡ n = length-take-le n (drop (128 * k) l) (rw (length-drop, y) (omega arith)) in
        fronts_more m c (g ∙ rw (f, w, y) (sym (zeroed_put l (128 * k) 128 r))) s

    pub fronts_all : 128 ≤ k → l ≡ cleared d
    unfolding cleared
    fronts_all b =
        let e : 128 * k ≡ 16384 = (let f = p.few in omega arith) in
        p.is ∙ ap (λ i. replicate i 0 ++ drop i d) e

pub ruleset blocks = (fronts_none, fronts_all)
