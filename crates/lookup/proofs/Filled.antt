-- A table filled: the words in it, and those outside.
use Prim.Native.Nat.{ℕ, zero, suc, ◌+◌, ◌≤◌, ◌<◌}
use mathlib.Core.Path.{◌≡◌, refl, ap, ◌∙◌}
use mathlib.Core.Logic.{◌≢◌}
use mathlib.Core.List.{List}
use native.Mathlib.Omega.{arith}
use native.Mathlib.Decide.{ℕ_discrete}
use lib.ListN.{length}
use Rattle.tables.specs.Layout.{cell, store}
use Rattle.tables.proofs.Places.{length_store, cell_store, cell_store_other}
use Rattle.lookup.specs.Lists.{filled}

module _ (l : List ℕ) (b : ℕ) (f : ℕ → ℕ) where
  pub length_filled : (n : ℕ) → length (filled l b f n) ≡ length l
  unfolding filled
  length_filled zero = refl
  length_filled (suc n) = length_store _ _ _ _ ∙ length_filled n

  -- one more
  pub filled_next : (n s : ℕ) → s ≡ f n → store (filled l b f n) b n s ≡ filled l b f (suc n)
  unfolding filled
  filled_next n s e = ap (store (filled l b f n) b n) e

  pub cell_filled : (n j : ℕ) → b + n ≤ length l → j < n → cell (filled l b f n) b j ≡ f j
  unfolding filled
  cell_filled zero j r h = absurd (omega arith)
  cell_filled (suc n) j r h = elim (ℕ_discrete j n) [
    | yes e ↦ rw e (cell_store (filled l b f n) b n (f n) (rw length_filled (omega arith)))
    | no e ↦ cell_store_other (filled l b f n) b n (f n) b j (omega arith) ∙ cell_filled n j (omega arith) (omega arith)
  ]

  -- other words stay
  pub cell_filled_other : (n c j : ℕ) → ((i : ℕ) → i < n → c + j ≢ b + i) → cell (filled l b f n) c j ≡ cell l c j
  unfolding filled
  cell_filled_other zero c j h = refl
  cell_filled_other (suc n) c j h = cell_store_other (filled l b f n) b n (f n) c j (h n (omega arith)) ∙ cell_filled_other n c j (λ i q. h i (omega arith))
