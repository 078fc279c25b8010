-- Laws of a word stored in bytes.
use mathlib.Core.Path.{◌≡◌, ap, ◌∙◌, subst}
use mathlib.Core.Logic.{◌⊎◌, inl, inr, ⊎_elim, ◌≢◌}
use mathlib.Core.List.{List, [], ◌∷◌, ◌++◌, append_assoc}
use Prim.Native.Nat.{ℕ, ◌+◌, ◌-◌, ◌/◌, ◌%◌, ◌≤◌, ◌<◌}
use native.Mathlib.Omega.{arith}
use native.Mathlib.Numerals.{add-one, add-two, add-three}
use native.Mathlib.Nat.{add-zero}
use lib.ListN.{length, take, drop, get_or, length-set}
use lib.Seq.{drop-drop, get_or-set_other, length-take-le, sets-eq}
use borrow.Rule.Slice.PartMut.{put_mid}
use Rattle.model.specs.Image.{word_at, le_word}
use Rattle.model.proofs.Bytes.{le4_le_word, word_at_append}
use Rattle.words.specs.Stores.{put_word}

pub put_word_list : (b : List ℕ) (at w : ℕ) → at + 4 ≤ length b → put_word b at w ≡ take at b ++ (le_word w ++ drop (at + 4) b)
unfolding put_word
put_word_list b at w h = simp (add-one, add-two, add-three) (sets-eq (le_word w) b at h ∙ append_assoc (take at b) (le_word w) (drop (at + 4) b))

-- four bytes copied over those from `at` on
pub put_word_part : (b ys : List ℕ) (at w : ℕ) → at + 4 ≤ length b → w < 4294967296 → ys ≡ w % 256 ∷ w / 256 % 256 ∷ w / 65536 % 256 ∷ w / 16777216 % 256 ∷ []
    → put_mid at (at + 4 - at) b ys ≡ put_word b at w
put_word_part b ys at w h r e =
    let n : at + 4 - at ≡ 4 = omega arith in
    let t : w / 16777216 % 256 ≡ w / 16777216 = omega arith in
    rw (n, put_word_list b at w h, e, t) (ap (λ l. take at b ++ (le_word w ++ l)) (drop-drop 4 at b))

pub length_put_word : (b : List ℕ) (at w : ℕ) → length (put_word b at w) ≡ length b
unfolding put_word
length_put_word b at w = simp length-set

-- reading what was written
pub word_at_put_word : (b : List ℕ) (at w : ℕ) → at + 4 ≤ length b → word_at (put_word b at w) at ≡ w
unfolding word_at
word_at_put_word b at w h =
    let e : length (take at b) + 0 ≡ at = add-zero (length (take at b)) ∙ length-take-le at b (omega arith) in
    let q : word_at (take at b ++ (le_word w ++ drop (at + 4) b)) at ≡ w =
    subst (λ (n : ℕ). word_at (take at b ++ (le_word w ++ drop (at + 4) b)) n ≡ w) e
    (word_at_append (take at b) (le_word w ++ drop (at + 4) b) 0 ∙ le4_le_word w) in
    rw (put_word_list b at w h) q

-- reading elsewhere
pub get_or_put_word_other : (b : List ℕ) (at w i : ℕ) → (i < at) ⊎ (at + 4 ≤ i) → get_or (put_word b at w) i 0 ≡ get_or b i 0
unfolding put_word
get_or_put_word_other b at w i h =
    let n0 : i ≢ at = ⊎_elim (λ k. omega arith) (λ k. omega arith) h in
    let n1 : i ≢ at + 1 = ⊎_elim (λ k. omega arith) (λ k. omega arith) h in
    let n2 : i ≢ at + 2 = ⊎_elim (λ k. omega arith) (λ k. omega arith) h in
    let n3 : i ≢ at + 3 = ⊎_elim (λ k. omega arith) (λ k. omega arith) h in
    simp get_or-set_other

pub word_at_put_word_other : (b : List ℕ) (at w i : ℕ) → (i + 4 ≤ at) ⊎ (at + 4 ≤ i) → word_at (put_word b at w) i ≡ word_at b i
unfolding word_at
word_at_put_word_other b at w i h =
    let g : (j : ℕ) → j < 4 → (i + j < at) ⊎ (at + 4 ≤ i + j) = λ j k. ⊎_elim (λ l. inl (omega arith)) (λ r. inr (omega arith)) h in
    let e0 : get_or (put_word b at w) i 0 ≡ get_or b i 0 = get_or_put_word_other b at w i (⊎_elim (λ l. inl (omega arith)) (λ r. inr (omega arith)) h) in
    let e1 = get_or_put_word_other b at w (i + 1) (g 1 (omega arith)) in
    let e2 = get_or_put_word_other b at w (i + 2) (g 2 (omega arith)) in
    let e3 = get_or_put_word_other b at w (i + 3) (g 3 (omega arith)) in
    cc
