-- One signal, through the mapping behind the network and the words behind that.
use Prim.Native.Nat.{ℕ, ◌-◌}
use mathlib.Core.Path.{◌≡◌, ap, fun_ext, ◌∙◌}
use mathlib.Core.List.{List}
use native.Mathlib.Nat.{le_refl}
use lib.ListN.{length, get_or, take, drop, length-drop}
use lib.Seq.{take_all, get_or-drop}
use Rattle.model.specs.Signal.{remap_order}
use Rattle.tables.specs.Layout.{cell, tr_base}

module _ (l : List ℕ) (s : ℕ) where
  part_map : (λ v. get_or (take (length l - 4672) (drop 4672 l)) v 0) ≡ cell l tr_base
  unfolding cell
  part_map = fun_ext (λ v.
      ap (λ (x : List ℕ). get_or x v 0) (take_all (length l - 4672) (drop 4672 l) (rw length-drop (le_refl _))) ∙ get_or-drop 4672 l v 0)

  pub map_done : (r : ℕ) → r ≡ remap_order (λ v. get_or (take (length l - 4672) (drop 4672 l)) v 0) s → r ≡ remap_order (cell l tr_base) s
  map_done r e = e ∙ ap (λ (t : ℕ → ℕ). remap_order t s) part_map
