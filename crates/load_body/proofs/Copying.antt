-- The loops that copy a body's words into an area, as its inputs and as its outputs: one law for each need.
use Prim.Native.Nat.{ℕ, ◌+◌, ◌/◌, ◌≤◌, ◌<◌}
use mathlib.Core.Path.{◌≡◌, refl, ap, ◌∙◌}
use mathlib.Core.List.{List}
use native.Mathlib.Omega.{arith}
use native.Mathlib.Nat.{le_antisymm}
use native.Mathlib.Numerals.{add-one}
use lib.ListN.{length, get_or}
use mir.Val.{Fits}
use mir.Syntax.{w64}
use Rattle.model.specs.Image.{words}
use Rattle.tables.specs.Layout.{net_size, put_input, put_output}
use Rattle.tables.specs.Building.{put_inputs, put_outputs}
use Rattle.load_body.specs.Loading.{word_from, Copies, Outputs}

-- ---- the inputs

module _ (b : List ℕ) (at : ℕ) (l : List ℕ) (first : ℕ) where
  abbrev put : ℕ → List ℕ
  put = put_inputs l first (word_from (words b) at)

  pub inputs_none : l ≡ put 0
  unfolding put_inputs
  inputs_none = refl

  module _ (n : ℕ) (P : Copies b at l first n) (m : List ℕ) (j : ℕ) (I : (j ≤ n) × (length m ≡ length l) × (m ≡ put j)) where
    module _ (h : j < n) where
      pub inputs_word : at + j < length b / 4
      inputs_word = omega (arith, P.inside)

      pub inputs_at : length b < 18446744073709551616 → Fits w64 (at + j)
      inputs_at z = record { fits = omega (arith, z, inputs_word) }

      pub inputs_place : Fits w64 (first + j)
      inputs_place = record { fits = omega (arith, P.room) }

      pub inputs_room : (first + j < 2048) × (net_size ≤ length m)
      inputs_room = (omega (arith, P.room), rw I.1 P.long)

      pub inputs_next : (s : ℕ) (o : List ℕ) → s ≡ get_or (words b) (at + j) 0 → length o ≡ length m → o ≡ put_input m (first + j) s
          → (j + 1 ≤ n) × (length o ≡ length l) × (o ≡ put (j + 1))
      unfolding put_inputs word_from
      inputs_next s o es k eo = (
        omega arith,
        k ∙ I.1,
        rw add-one (eo ∙ ap (λ (y : List ℕ). put_input y (first + j) s) I.2 ∙ ap (put_input (put j) (first + j)) es),
      )

    pub inputs_end : n ≤ j → m ≡ put n
    inputs_end h = I.2 ∙ ap put (le_antisymm I.0 h)

-- ---- the outputs

module _ (b : List ℕ) (at : ℕ) (l : List ℕ) where
  abbrev out : ℕ → List ℕ
  out = put_outputs l (word_from (words b) at)

  pub outputs_none : l ≡ out 0
  unfolding put_outputs
  outputs_none = refl

  module _ (n : ℕ) (P : Outputs b at l n) (m : List ℕ) (j : ℕ) (I : (j ≤ n) × (length m ≡ length l) × (m ≡ out j)) where
    module _ (h : j < n) where
      pub outputs_word : at + j < length b / 4
      outputs_word = omega (arith, P.inside)

      pub outputs_at : length b < 18446744073709551616 → Fits w64 (at + j)
      outputs_at z = record { fits = omega (arith, z, outputs_word) }

      pub outputs_room : (j < 64) × (net_size ≤ length m)
      outputs_room = (omega (arith, P.few), rw I.1 P.long)

      pub outputs_next : (s : ℕ) (o : List ℕ) → s ≡ get_or (words b) (at + j) 0 → length o ≡ length m → o ≡ put_output m j s
          → (j + 1 ≤ n) × (length o ≡ length l) × (o ≡ out (j + 1))
      unfolding put_outputs word_from
      outputs_next s o es k eo = (
        omega arith,
        k ∙ I.1,
        rw add-one (eo ∙ ap (λ (y : List ℕ). put_output y j s) I.2 ∙ ap (put_output (out j) j) es),
      )

    pub outputs_end : n ≤ j → m ≡ out n
    outputs_end h = I.2 ∙ ap out (le_antisymm I.0 h)
