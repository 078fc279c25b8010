-- The loops over whole tables: nodes numbered at first, flip-flops' inputs translated at last.
use Prim.Native.Nat.{ℕ, ◌+◌, ◌≤◌, ◌<◌}
use mathlib.Core.Path.{◌≡◌, refl, ap, ◌∙◌}
use mathlib.Core.List.{List}
use native.Mathlib.Omega.{arith}
use native.Mathlib.Nat.{le_antisymm}
use native.Mathlib.Numerals.{add-one}
use lib.ListN.{length}
use mir.Val.{Fits}
use mir.Syntax.{w32}
use Rattle.model.specs.Signal.{from_var, remap_order}
use Rattle.tables.specs.Layout.{net_size, span, tr_base, input_at, put_input, store}
use Rattle.lookup.specs.Lists.{filled}
use Rattle.translation.specs.Tables.{tr_of}
use Rattle.dedup.specs.States.{numbered, turned}
use Rattle.lookup.proofs.Filled.{filled_next}
use Rattle.dedup.proofs.Turned.{turned_next}

-- ---- nodes numbered

module _ (l : List ℕ) where
  pub number_none : l ≡ numbered l 0
  unfolding filled
  number_none = refl

  module _ (n : ℕ) (P : (16384 ≤ length l) × (n ≤ 512)) (m : List ℕ) (v : ℕ) (I : (v ≤ n) × (length m ≡ length l) × (m ≡ numbered l v)) where
    module _ (h : v < n) where
      pub number_cast : Fits w32 v
      number_cast = record { fits = omega (arith, P.1) }

      pub number_node : v < 1073741823
      number_node = omega (arith, P.1)

      pub number_word : tr_base + v < length m
      number_word = omega (arith, P.0, P.1, I.1)

      pub number_next : (s : ℕ) (o : List ℕ) → s ≡ from_var v → length o ≡ length m → o ≡ store m tr_base v s → (v + 1 ≤ n) × (length o ≡ length l) × (o ≡ numbered l (v + 1))
      number_next s o es k eo = (
        omega arith,
        k ∙ I.1,
        rw add-one (eo ∙ ap (λ (y : List ℕ). store y tr_base v s) I.2 ∙ filled_next l tr_base (λ v. from_var v) v s es),
      )

    pub number_end : n ≤ v → m ≡ numbered l n
    number_end h = I.2 ∙ ap (numbered l) (le_antisymm I.0 h)

-- ---- flip-flops' inputs

module _ (l : List ℕ) where
  pub cells_none : l ≡ turned l 0
  unfolding turned
  cells_none = refl

  module _ (n : ℕ) (P : (16384 ≤ length l) × (n ≤ 2048)) (m : List ℕ) (k : ℕ) (I : (k ≤ n) × (length m ≡ length l) × (m ≡ turned l k)) where
    pub cells_long : span ≤ length m
    cells_long = omega (arith, I.1, P.0)

    module _ (h : k < n) where
      pub cells_room : (k < 2048) × (net_size ≤ length m)
      cells_room = (omega (arith, P.1), omega (arith, cells_long))

      pub cells_next : (x s : ℕ) (o : List ℕ) → x ≡ input_at m k → s ≡ remap_order (tr_of m) x → length o ≡ length m → o ≡ put_input m k s
          → (k + 1 ≤ n) × (length o ≡ length l) × (o ≡ turned l (k + 1))
      cells_next x s o ex es q eo = (
        omega arith,
        q ∙ I.1,
        rw add-one
            (eo ∙ ap (λ (y : List ℕ). put_input y k s) I.2
            ∙ turned_next l P.0 k s (omega (arith, P.1)) (es ∙ ap (remap_order (tr_of m)) ex ∙ ap (λ (y : List ℕ). remap_order (tr_of y) (input_at y k)) I.2)),
      )

    pub cells_end : n ≤ k → m ≡ turned l n
    cells_end h = I.2 ∙ ap (turned l) (le_antisymm I.0 h)
