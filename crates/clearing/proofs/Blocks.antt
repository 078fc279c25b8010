-- The words of a block by their places: those passed joined, and those passed set to zero.
use mathlib.Core.Path.{◌≡◌, refl, sym, ap, ◌∙◌}
use Prim.Native.Nat.{ℕ, zero, suc, ◌+◌, ◌-◌, ◌≤◌, ◌<◌}
use native.Mathlib.Omega.{arith}
use native.Mathlib.Nat.{le_antisymm}
use native.Mathlib.Numerals.{add-one}
use mathlib.Core.List.{List, [], ◌∷◌, ◌++◌, append-nil}
use lib.ListN.{length, take, drop, get_or, set, replicate, length-drop, drop_of_length-le}
use lib.Seq.{take-suc, take_all, length-take-le}
use lib.Bits.{bit_or}
use borrow.Author.Fill.{fill_more}
use borrow.Rule.Slice.PartMut.{put_mid}
use Rattle.std.specs.List.{fold}
use Rattle.std.proofs.lemmas.List.{take-append-drop, set-append_right}
use Rattle.std.proofs.lemmas.List.Sums.{fold-append}
use Rattle.clearing.specs.Blocks.{joined, zeroed}

-- ---- joined

pub record Joined (l : List ℕ) (from x j : ℕ) : Type 0 where
  pub few : j ≤ 128
  pub is : x ≡ joined l from j

module _ (l : List ℕ) (from : ℕ) where
  pub joined_none : Joined l from 0 0
  unfolding joined
  joined_none = record { few = omega arith; is = refl }

  pub joined_more : (x j : ℕ) → Joined l from x j → j < 128 → Joined l from (bit_or x (get_or l (from + j) 0)) (j + 1)
  unfolding joined
  joined_more x j h b = record { few = omega arith; is = rw add-one (ap (λ y. bit_or y (get_or l (from + j) 0)) h.is) }

  pub joined_all : (x j : ℕ) → Joined l from x j → 128 ≤ j → x ≡ joined l from 128
  joined_all x j h b = h.is ∙ ap (joined l from) (le_antisymm h.few b)

-- the first j words, joined by fold
joined_front : (l : List ℕ) (j : ℕ) → j ≤ length l → j ≤ 128 → Joined l 0 (fold bit_or 0 (take j l)) j
joined_front l zero h b = joined_none l 0
joined_front l (suc j) h b =
    let z : 0 + j ≡ j = omega arith in
    let w : ℕ = get_or l (0 + j) 0 in
    let t : take (suc j) l ≡ take j l ++ (w ∷ []) = rw z (take-suc l j 0 (omega arith)) in
    rw (t, fold-append bit_or 0 (take j l) (w ∷ []), ← add-one) (joined_more l 0 (fold bit_or 0 (take j l)) j (joined_front l j (omega arith) (omega arith)) (omega arith))

pub joined_words : (l : List ℕ) (x : ℕ) → x ≡ fold bit_or 0 l → length l ≡ 128 → x ≡ joined l 0 128
joined_words l x e h =
    e
    ∙ ap (fold bit_or 0) (sym (take_all (length l) l (omega arith)))
    ∙ joined_all l 0 (fold bit_or 0 (take (length l) l)) (length l) (joined_front l (length l) (omega arith) (omega arith)) (omega arith)

-- ---- set to zero

-- n words from i on
pub zeroed_put : (l : List ℕ) (i n : ℕ) → i + n ≤ length l → zeroed l i n ≡ put_mid i n l (replicate n 0)
unfolding zeroed
zeroed_put l i zero h = sym (take-append-drop i l)
zeroed_put l i (suc n) h =
    let z : i + n - i ≡ n = omega arith in
    let q : List ℕ = drop i l in
    let f : n < length q = rw length-drop (omega arith) in
    ap (λ (m : List ℕ). set m (i + n) 0) (zeroed_put l i n (omega arith))
    ∙ set-append_right (take i l) (replicate n 0 ++ drop n q) i (i + n) 0 (length-take-le i l (omega arith)) (omega arith)
    ∙ rw z (ap (λ (m : List ℕ). take i l ++ m) (rw add-one at (fill_more n 0 q f)))

-- all words of a block
pub zeroed_all : (l m : List ℕ) → m ≡ replicate (length l) 0 → length l ≡ 128 → m ≡ zeroed l 0 128
zeroed_all l m e h =
    let g : length l ≤ 128 = omega arith in
    let f : drop 128 l ≡ [] = drop_of_length-le l g in
    e ∙ ap (λ (n : ℕ). replicate n 0) h ∙ sym (zeroed_put l 0 128 (omega arith) ∙ rw f (append-nil (replicate 128 0)))
