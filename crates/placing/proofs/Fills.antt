-- The loops over a gate's inputs: into the list, and from the list into the input table.
use Prim.Native.Nat.{ℕ, ◌+◌, ◌≤◌, ◌<◌}
use mathlib.Core.Path.{◌≡◌, refl, ap, ◌∙◌}
use mathlib.Core.Bool.{Bool}
use mathlib.Core.List.{List}
use native.Mathlib.Omega.{arith}
use native.Mathlib.Nat.{le_antisymm}
use native.Mathlib.Numerals.{add-one}
use lib.ListN.{length}
use mir.Val.{Fits}
use mir.Syntax.{w64}
use Rattle.tables.specs.Layout.{net_size, span, input_at, put_input, cell, store}
use Rattle.tables.specs.Building.{put_inputs}
use Rattle.tables.proofs.Building.{put_inputs_next, cell_put_inputs}
use Rattle.same_gate.specs.Listed.{list_base}
use Rattle.lookup.specs.Lists.{filled}
use Rattle.translation.specs.Tables.{tr_of}
use Rattle.placing.specs.Lists.{looked_up, gathered, Gathers}
use Rattle.placing.proofs.Areas.{gathered_next}

-- ---- the inputs gathered

module _ (src l : List ℕ) (c : Bool) (f : ℕ) where
  pub gather_none : l ≡ gathered src l c f 0
  unfolding gathered filled
  gather_none = refl

  module _ (n : ℕ) (P : Gathers src l f n) (m : List ℕ) (j : ℕ) (I : (j ≤ n) × (length m ≡ length l) × (m ≡ gathered src l c f j)) where
    pub gather_long : span ≤ length m
    gather_long = omega (arith, I.1, P.long)

    module _ (h : j < n) where
      pub gather_place : Fits w64 (f + j)
      gather_place = record { fits = omega (arith, P.ends) }

      pub gather_input : (f + j < 2048) × (net_size ≤ length src)
      gather_input = (omega (arith, P.ends), P.source)

      pub gather_word : list_base + j < length m
      gather_word = omega (arith, P.ends, P.long, I.1)

      pub gather_next : (x s : ℕ) (o : List ℕ) → x ≡ input_at src (f + j) → s ≡ looked_up c (tr_of m) x → length o ≡ length m → o ≡ store m list_base j s
          → (j + 1 ≤ n) × (length o ≡ length l) × (o ≡ gathered src l c f (j + 1))
      gather_next x s o ex es k eo = (
        omega arith,
        k ∙ I.1,
        rw add-one
            (eo ∙ ap (λ (y : List ℕ). store y list_base j s) I.2
            ∙ gathered_next src l c f P.long j s (es ∙ ap (λ (y : List ℕ). looked_up c (tr_of y) x) I.2 ∙ ap (looked_up c (tr_of (gathered src l c f j))) ex)),
      )

    pub gather_end : n ≤ j → m ≡ gathered src l c f n
    gather_end h = I.2 ∙ ap (gathered src l c f) (le_antisymm I.0 h)

-- ---- the list's words put

module _ (l : List ℕ) (at : ℕ) where
  abbrev put : ℕ → List ℕ
  put = put_inputs l at (cell l list_base)

  pub append_none : l ≡ put 0
  unfolding put_inputs
  append_none = refl

  module _ (n : ℕ) (P : (16384 ≤ length l) × (at + n ≤ 2048)) (m : List ℕ) (j : ℕ) (I : (j ≤ n) × (length m ≡ length l) × (m ≡ put j)) where
    module _ (h : j < n) where
      pub append_word : list_base + j < length m
      append_word = omega (arith, P.0, P.1, I.1)

      pub append_place : Fits w64 (at + j)
      append_place = record { fits = omega (arith, P.1) }

      pub append_room : (at + j < 2048) × (net_size ≤ length m)
      append_room = (omega (arith, P.1), omega (arith, P.0, I.1))

      pub append_next : (s : ℕ) (o : List ℕ) → s ≡ cell m list_base j → length o ≡ length m → o ≡ put_input m (at + j) s
          → (j + 1 ≤ n) × (length o ≡ length l) × (o ≡ put (j + 1))
      append_next s o es k eo = (
        omega arith,
        k ∙ I.1,
        rw add-one
            (eo ∙ ap (λ (y : List ℕ). put_input y (at + j) s) I.2
            ∙ put_inputs_next l at (cell l list_base) j s
            (es ∙ ap (λ (y : List ℕ). cell y list_base j) I.2 ∙ cell_put_inputs l at (cell l list_base) j list_base j (omega (arith, P.1)) (omega arith))),
      )

    pub append_end : n ≤ j → m ≡ put n
    append_end h = I.2 ∙ ap put (le_antisymm I.0 h)
