-- The translation as nodes are numbered, and the first input words translated in place.
use Prim.Native.Nat.{ℕ, zero, suc, ◌≤◌, ◌<◌}
use mathlib.Core.Path.{◌≡◌, refl, ap, ◌∙◌}
use mathlib.Core.List.{List}
use native.Mathlib.Omega.{arith}
use native.Mathlib.Decide.{ℕ_discrete}
use lib.ListN.{length}
use Rattle.model.specs.Signal.{from_var, remap_order}
use Rattle.tables.specs.Layout.{net_size, tr_base, kind_at, first_at, count_at, input_at, low_at, high_at, put_input, cell}
use Rattle.tables.proofs.Places.{length_put_input, input_at_put_input, input_at_put_input_other, kind_at_put_input, first_at_put_input, count_at_put_input, low_at_put_input, high_at_put_input, cell_put_input}
use Rattle.translation.specs.Tables.{tr_of}
use Rattle.dedup.specs.States.{numbered, turned}
use Rattle.lookup.proofs.Filled.{length_filled, cell_filled}
use Rattle.translation.proofs.Translated.{tr_of_cell, tr_of_same}

-- ---- the first translation

pub tr_of_numbered : (l : List ℕ) → 16384 ≤ length l → (n v : ℕ) → n ≤ 512 → v < n → tr_of (numbered l n) v ≡ from_var v
tr_of_numbered l z n v h q = tr_of_cell (numbered l n) (rw length_filled (omega arith)) v (omega arith) ∙ cell_filled l tr_base _ n v (omega arith) q

-- ---- the first input words, translated in place

pub length_turned : (l : List ℕ) (n : ℕ) → length (turned l n) ≡ length l
unfolding turned
length_turned l zero = refl
length_turned l (suc n) = length_put_input _ _ _ ∙ length_turned l n

module _ (l : List ℕ) (z : 16384 ≤ length l) where
  pub cell_turned : (n c j : ℕ) → n ≤ 2048 → net_size ≤ c → cell (turned l n) c j ≡ cell l c j
  unfolding turned
  cell_turned zero c j r far = refl
  cell_turned (suc n) c j r far = cell_put_input (turned l n) c j far n _ (omega arith) ∙ cell_turned n c j (omega arith) far

  pub tr_of_turned : (n : ℕ) → n ≤ 2048 → tr_of (turned l n) ≡ tr_of l
  tr_of_turned n r = tr_of_same (turned l n) l (rw length_turned (omega arith)) (omega arith) (λ v h. cell_turned n tr_base v r (omega arith))

  pub input_at_turned_past : (n k : ℕ) → n ≤ k → input_at (turned l n) k ≡ input_at l k
  unfolding turned
  input_at_turned_past zero k h = refl
  input_at_turned_past (suc n) k h = input_at_put_input_other (turned l n) n _ k (omega arith) ∙ input_at_turned_past n k (omega arith)

  pub input_at_turned : (n k : ℕ) → n ≤ 2048 → k < n → input_at (turned l n) k ≡ remap_order (tr_of l) (input_at l k)
  unfolding turned
  input_at_turned zero k r h = absurd (omega arith)
  input_at_turned (suc n) k r h = elim (ℕ_discrete k n) [
    | yes e ↦ rw e (input_at_put_input (turned l n) n _ (omega arith) (rw length_turned (omega arith)))
    | no e ↦ input_at_put_input_other (turned l n) n _ k (omega arith) ∙ input_at_turned n k (omega arith) (omega arith)
  ]

  -- one more
  pub turned_next : (n s : ℕ) → n < 2048 → s ≡ remap_order (tr_of (turned l n)) (input_at (turned l n) n) → put_input (turned l n) n s ≡ turned l (suc n)
  unfolding turned
  turned_next n s r e =
      ap (put_input (turned l n) n)
      (e ∙ ap (λ (τ : ℕ → ℕ). remap_order τ (input_at (turned l n) n)) (tr_of_turned n (omega arith)) ∙ ap (remap_order (tr_of l)) (input_at_turned_past n n (omega arith)))

  module _ (w : ℕ) (h : w < 512) where
    pub kind_at_turned : (n : ℕ) → kind_at (turned l n) w ≡ kind_at l w
    unfolding turned
    kind_at_turned zero = refl
    kind_at_turned (suc n) = kind_at_put_input (turned l n) n _ w h ∙ kind_at_turned n

    pub first_at_turned : (n : ℕ) → first_at (turned l n) w ≡ first_at l w
    unfolding turned
    first_at_turned zero = refl
    first_at_turned (suc n) = first_at_put_input (turned l n) n _ w h ∙ first_at_turned n

    pub count_at_turned : (n : ℕ) → count_at (turned l n) w ≡ count_at l w
    unfolding turned
    count_at_turned zero = refl
    count_at_turned (suc n) = count_at_put_input (turned l n) n _ w h ∙ count_at_turned n

  module _ (w : ℕ) where
    pub low_at_turned : (n : ℕ) → n ≤ 2048 → low_at (turned l n) w ≡ low_at l w
    unfolding turned
    low_at_turned zero r = refl
    low_at_turned (suc n) r = low_at_put_input (turned l n) n _ w (omega arith) ∙ low_at_turned n (omega arith)

    pub high_at_turned : (n : ℕ) → n ≤ 2048 → high_at (turned l n) w ≡ high_at l w
    unfolding turned
    high_at_turned zero r = refl
    high_at_turned (suc n) r = high_at_put_input (turned l n) n _ w (omega arith) ∙ high_at_turned n (omega arith)
