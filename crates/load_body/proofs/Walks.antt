-- A walk over records, record after record: what one more adds, and what all of them bound.
use mathlib.Core.Path.{◌≡◌, sym, ap, ◌∙◌}
use mathlib.Core.List.{List, [], ◌∷◌, ◌++◌}
use Prim.Native.Nat.{ℕ, zero, suc, ◌+◌, ◌-◌, ◌≤◌, ◌<◌}
use native.Mathlib.Omega.{arith}
use native.Mathlib.Nat.{zero-add, suc-add}
use lib.ListN.{length}
use Rattle.model.specs.Gate.{Gate, fanin}
use Rattle.model.specs.Image.{count_at, size_at, record_gate, gates_from, end_from}
use Rattle.shape.proofs.Walks.{end_last, end_mono, ins_length}
use Rattle.shape.proofs.FactoringGrown.{fanin_append}
use Rattle.tables.proofs.Holding.{fanin_one}

-- j records and then d
pub gates_add : (j d : ℕ) (ws : List ℕ) (at : ℕ) → gates_from (j + d) ws at ≡ gates_from j ws at ++ gates_from d ws (end_from j ws at)
unfolding end_from gates_from
gates_add zero d ws at = rw zero-add
gates_add (suc j) d ws at = rw suc-add (ap (λ (l : List Gate). record_gate ws at ∷ l) (gates_add j d ws (at + size_at ws at)))

module _ (v : ℕ) (ws : List ℕ) where
  pub gates_next : gates_from (suc v) ws 0 ≡ gates_from v ws 0 ++ (record_gate ws (end_from v ws 0) ∷ [])
  unfolding gates_from
  gates_next = let e : suc v ≡ v + 1 = omega arith in ap (λ (k : ℕ). gates_from k ws 0) e ∙ gates_add v 1 ws 0

  -- its inputs are added
  pub fanin_loaded : end_from v ws 0 + size_at ws (end_from v ws 0) ≤ length ws → fanin (gates_from (suc v) ws 0) ≡ fanin (gates_from v ws 0) + count_at ws (end_from v ws 0)
  fanin_loaded l =
      let g = record_gate ws (end_from v ws 0) in
      ap fanin gates_next ∙ fanin_append (gates_from v ws 0) (g ∷ []) ∙ ap (λ (k : ℕ). fanin (gates_from v ws 0) + k) (fanin_one g ∙ ins_length ws (end_from v ws 0) l)

  -- record v is within what n of them take
  module _ (n : ℕ) (h : v < n) where
    pub record_inside : end_from v ws 0 + size_at ws (end_from v ws 0) ≤ end_from n ws 0
    record_inside = omega (arith, end_last v ws 0, end_mono (suc v) n ws 0 h)

    pub record_room : end_from n ws 0 ≤ length ws → fanin (gates_from v ws 0) + count_at ws (end_from v ws 0) ≤ fanin (gates_from n ws 0)
    record_room l =
        let r : suc v + (n - suc v) ≡ n = omega arith in
        let e : gates_from n ws 0 ≡ gates_from (suc v) ws 0 ++ gates_from (n - suc v) ws (end_from (suc v) ws 0) =
        ap (λ (k : ℕ). gates_from k ws 0) (sym r) ∙ gates_add (suc v) (n - suc v) ws 0 in
        let f = fanin_loaded (omega (arith, record_inside)) in
        omega (arith, ap fanin e, fanin_append (gates_from (suc v) ws 0) (gates_from (n - suc v) ws (end_from (suc v) ws 0)))
