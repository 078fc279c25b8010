-- The list in an area: what gathering puts there.
use Prim.Native.Nat.{ℕ, suc, ◌+◌, ◌≤◌, ◌<◌}
use mathlib.Core.Path.{◌≡◌, sym, ap, ◌∙◌}
use mathlib.Core.Bool.{Bool}
use mathlib.Core.List.{List, map}
use native.Mathlib.Omega.{arith}
use lib.ListN.{length, get_or, take, drop, length-drop}
use lib.Seq.{get_or-take, get_or-drop, length-take-le, ext_get_or}
use Rattle.laws.specs.Lists.{tab}
use Rattle.laws.proofs.Tabs.{tab_ext, length_tab, get_or_tab, map_tab}
use Rattle.tables.specs.Layout.{tr_base, first_at, count_at, input_at, ins_at, cell, store}
use Rattle.same_gate.specs.Listed.{list_base}
use Rattle.translation.specs.Tables.{tr_of}
use Rattle.translation.proofs.Translated.{tr_of_same}
use Rattle.placing.specs.Lists.{looked_up, gathered}
use Rattle.lookup.proofs.Filled.{length_filled, filled_next, cell_filled, cell_filled_other}

-- ---- the list

pub length_gathered : (src l : List ℕ) (c : Bool) (f n : ℕ) → length (gathered src l c f n) ≡ length l
unfolding gathered
length_gathered src l c f n = length_filled l list_base _ n

module _ (src l : List ℕ) (c : Bool) (f : ℕ) (z : 16384 ≤ length l) where
  -- words before the list stay
  pub cell_gathered : (n b j : ℕ) → b + j < list_base → cell (gathered src l c f n) b j ≡ cell l b j
  unfolding gathered
  cell_gathered n b j h = cell_filled_other l list_base _ n b j (λ i q. omega arith)

  pub tr_of_gathered : (n : ℕ) → tr_of (gathered src l c f n) ≡ tr_of l
  tr_of_gathered n = tr_of_same (gathered src l c f n) l (rw length_gathered (omega arith)) (omega arith) (λ v h. cell_gathered n tr_base v (omega arith))

  -- one more
  pub gathered_next : (n s : ℕ) → s ≡ looked_up c (tr_of (gathered src l c f n)) (input_at src (f + n)) → store (gathered src l c f n) list_base n s ≡ gathered src l c f (suc n)
  unfolding gathered
  gathered_next n s e = filled_next l list_base _ n s (e ∙ ap (λ (τ : ℕ → ℕ). looked_up c τ (input_at src (f + n))) (tr_of_gathered n))

  list_gathered : (n j : ℕ) → n ≤ 2048 → j < n → cell (gathered src l c f n) list_base j ≡ looked_up c (tr_of l) (input_at src (f + j))
  unfolding gathered
  list_gathered n j r h = cell_filled l list_base _ n j (omega arith) h

-- words of a table as a list
pub part_tab : (l : List ℕ) (b n : ℕ) → b + n ≤ length l → take n (drop b l) ≡ tab (cell l b) n
unfolding cell
part_tab l b n h =
    let k : n ≤ length (drop b l) = rw length-drop (omega arith) in
    let e : length (take n (drop b l)) ≡ n = length-take-le n (drop b l) k in
    ext_get_or 0 (take n (drop b l)) (tab (λ j. get_or l (b + j) 0) n) (e ∙ sym (length_tab (λ j. get_or l (b + j) 0) n))
    (λ i q. let p : i < n = omega arith in get_or-take n (drop b l) i 0 p ∙ get_or-drop b l i 0 ∙ sym (get_or_tab (λ j. get_or l (b + j) 0) n i 0 p))

-- the list after gathering: the gate's inputs as they are looked up
pub listed_gathered : (src l : List ℕ) (c : Bool) (v : ℕ) → 16384 ≤ length l → first_at src v + count_at src v ≤ 2048
    → take (count_at src v) (drop list_base (gathered src l c (first_at src v) (count_at src v))) ≡ map (looked_up c (tr_of l)) (ins_at src v)
unfolding ins_at
listed_gathered src l c v z h =
    let n = count_at src v in
    let f = first_at src v in
    part_tab (gathered src l c f n) list_base n (rw length_gathered (omega arith))
    ∙ tab_ext _ _ n (λ j q. list_gathered src l c f z n j (omega arith) q)
    ∙ sym (map_tab (looked_up c (tr_of l)) (λ j. input_at src (f + j)) n)
