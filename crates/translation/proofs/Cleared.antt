-- A cleared table: the words in it, and those outside.
use mathlib.Core.Path.{◌≡◌, refl, sym, ap, ◌∙◌}
use mathlib.Core.Logic.{◌≢◌}
use Prim.Native.Nat.{ℕ, zero, suc, ◌+◌, ◌-◌, ◌<◌, ◌≤◌}
use native.Mathlib.Nat.{not-suc-le-zero, le_refl}
use native.Mathlib.Omega.{arith}
use native.Mathlib.Decide.{ℕ_discrete}
use native.Mathlib.Numerals.{add-one}
use mathlib.Core.List.{List}
use lib.ListN.{length, set, take, drop, replicate, length-replicate, length-drop}
use lib.Seq.{paste, length-take-le}
use borrow.Rule.Slice.PartMut.{put_mid}
use Rattle.std.proofs.lemmas.List.Edits.{paste_none, fill_from_more}
use Rattle.std.proofs.lemmas.Slice.{put_mid-paste}
use Rattle.tables.specs.Layout.{cell, store}
use Rattle.tables.proofs.Places.{length_store, cell_store, cell_store_other}
use Rattle.translation.specs.Tables.{cleared_table}

pub length_cleared : (l : List ℕ) (b k : ℕ) → length (cleared_table l b k) ≡ length l
unfolding cleared_table
length_cleared l b zero = refl
length_cleared l b (suc k) = length_store (cleared_table l b k) b k 0 ∙ length_cleared l b k

pub cell_cleared : (l : List ℕ) (b k i : ℕ) → b + k ≤ length l → i < k → cell (cleared_table l b k) b i ≡ 0
unfolding cleared_table
cell_cleared l b zero i h p = absurd (not-suc-le-zero p)
cell_cleared l b (suc k) i h p = elim (ℕ_discrete i k) [
  | yes e ↦ rw e (cell_store (cleared_table l b k) b k 0 (omega (arith, length_cleared l b k)))
  | no e ↦ cell_store_other (cleared_table l b k) b k 0 b i (omega arith) ∙ cell_cleared l b k i (omega arith) (omega arith)
]

pub cell_cleared_other : (l : List ℕ) (b k c j : ℕ) → ((i : ℕ) → i < k → c + j ≢ b + i) → cell (cleared_table l b k) c j ≡ cell l c j
unfolding cleared_table
cell_cleared_other l b zero c j h = refl
cell_cleared_other l b (suc k) c j h = cell_store_other (cleared_table l b k) b k 0 c j (h k (le_refl _)) ∙ cell_cleared_other l b k c j (λ i p. h i (omega arith))

-- zeros pasted over k words
cleared_paste : (l : List ℕ) (b k : ℕ) → b + k ≤ length l → cleared_table l b k ≡ paste l b (replicate k 0) k
unfolding cleared_table store
cleared_paste l b zero h = paste_none l b (replicate 0 0)
cleared_paste l b (suc k) h =
    let more : set (paste l b (replicate k 0) k) (b + k) 0 ≡ paste l b (replicate (k + 1) 0) (k + 1) = fill_from_more l b k 0 (omega arith) in
    ap (λ (x : List ℕ). set x (b + k) 0) (cleared_paste l b k (omega arith)) ∙ (rw add-one at more)

-- as the code meets it: ys, lent as the k words from b on, was filled with zeros
pub clear_filled : (l ys : List ℕ) (b n : ℕ) → b + n ≤ length l → ys ≡ replicate (length (take (b + n - b) (drop b l))) 0 → put_mid b (b + n - b) l ys ≡ cleared_table l b n
clear_filled l ys b n h e =
    let k : b + n - b ≡ n = omega arith in
    let long : length (take (b + n - b) (drop b l)) ≡ n = rw k (length-take-le n (drop b l) (rw length-drop (omega arith))) in
    put_mid-paste b (b + n - b) l ys (replicate n 0) n (e ∙ ap (λ (i : ℕ). replicate i 0) long) (sym k) (sym (length-replicate n 0)) ∙ sym (cleared_paste l b n h)
