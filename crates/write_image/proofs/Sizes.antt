-- The words of the records of an area, and how many there are.
use mathlib.Core.Path.{◌≡◌, refl, sym, ap, ◌∙◌}
use mathlib.Core.Logic.{◌≢◌}
use mathlib.Core.List.{List, [], ◌∷◌, ◌++◌, append_assoc, append-nil}
use Prim.Native.Nat.{ℕ, zero, suc, ◌+◌, ◌*◌, ◌/◌, ◌%◌, ◌^◌, ◌≤◌, ◌<◌}
use native.Mathlib.Omega.{arith}
use native.Mathlib.Decide.{ℕ_discrete}
use lib.ListN.{length, length-append}
use borrow.Author.Tests.{eq-eqb, ne_eqb}
use Rattle.kinds.specs.Kinds.{code_of, kind_of}
use Rattle.kinds.specs.declared.Kind.{Kind}
use Rattle.kinds.specs.declared.Kind.TheVariants.{Lut}
use Rattle.kinds.proofs.Codes.{kind_code, code_kind}
use Rattle.model.specs.Gate.{Gate}
use Rattle.model.specs.Image.{table_words, gate_words, gates_words, body_words, image_of}
use Rattle.shape.proofs.Sizes.{gates_length}
use Rattle.shape.proofs.Written as shape
use Rattle.tables.specs.Layout.{kind_at, count_at, low_at, high_at, ins_at, gate_at, nodes_of, net_of}
use Rattle.tables.specs.Holding.{network_of, Held}
use Rattle.tables.specs.declared.counts.Counts.{Counts}
use Rattle.tables.proofs.Building.{nodes_of_next, nodes_of_none}
use Rattle.tables.proofs.Holding.{length_ins_at, length_nodes_of, length_outputs_of, nodes_few, total_few}

-- ---- one record

-- a node's kind, as the code asks for it, is what its code says
module _ (l : List ℕ) (v k : ℕ) (q : k ≡ kind_at l v) (s : Kind) (e : s ≡ kind_of k) where
  pub of_lut : kind_at l v < 15 → s ≡ Lut → kind_at l v ≡ 14
  of_lut f t = sym (code_kind (kind_at l v) f) ∙ ap code_of (ap kind_of (sym q) ∙ sym e ∙ t)

  pub of_other : s ≢ Lut → kind_at l v ≢ 14
  of_other t p = t (e ∙ ap kind_of (q ∙ p) ∙ kind_code Lut)

module _ (l : List ℕ) (v : ℕ) where
  pub table_plain : kind_at l v ≢ 14 → table_words (gate_at l v) ≡ []
  unfolding table_words gate_at
  table_plain t = rw (ne_eqb (kind_at l v) 14 t)

  pub table_lut : kind_at l v ≡ 14 → low_at l v < 4294967296 → table_words (gate_at l v) ≡ low_at l v ∷ high_at l v ∷ []
  unfolding table_words gate_at
  table_lut t h =
      let a : (low_at l v + 2 ^ 32 * high_at l v) % 4294967296 ≡ low_at l v = omega arith in
      let z : (low_at l v + 2 ^ 32 * high_at l v) / 4294967296 ≡ high_at l v = omega arith in
      rw (eq-eqb (kind_at l v) 14 t, a, z)

  pub length_table : kind_at l v ≡ 14 → length (table_words (gate_at l v)) ≡ 2
  unfolding table_words gate_at
  length_table t = rw (eq-eqb (kind_at l v) 14 t)

  pub record_words : gate_words (gate_at l v) ≡ (kind_at l v + 256 * count_at l v) ∷ (ins_at l v ++ table_words (gate_at l v))
  unfolding gate_words gate_at
  record_words = rw (length_ins_at l v)

  pub length_record : length (gate_words (gate_at l v)) ≡ 1 + count_at l v + length (table_words (gate_at l v))
  length_record = ap length record_words ∙ rw length-append (omega (arith, length_ins_at l v))

-- ---- all of them

pub gates_words_append : (gs hs : List Gate) → gates_words (gs ++ hs) ≡ gates_words gs ++ gates_words hs
unfolding gates_words
gates_words_append [] hs = refl
gates_words_append (g ∷ gs) hs = rw (gates_words_append gs hs) (sym (append_assoc (gate_words g) (gates_words gs) (gates_words hs)))

pub gates_words_one : (g : Gate) → gates_words (g ∷ []) ≡ gate_words g
unfolding gates_words
gates_words_one g = append-nil (gate_words g)

module _ (l : List ℕ) where
  pub words_none : gates_words (nodes_of l 0) ≡ []
  unfolding gates_words
  words_none = ap gates_words (nodes_of_none l)

  pub words_next : (v : ℕ) → gates_words (nodes_of l (suc v)) ≡ gates_words (nodes_of l v) ++ gate_words (gate_at l v)
  words_next v = ap gates_words (nodes_of_next l v) ∙ gates_words_append (nodes_of l v) (gate_at l v ∷ []) ∙ rw gates_words_one

  pub length_next : (v : ℕ) → length (gates_words (nodes_of l (suc v))) ≡ length (gates_words (nodes_of l v)) + length (gate_words (gate_at l v))
  length_next v = ap length (words_next v) ∙ length-append (gates_words (nodes_of l v)) (gate_words (gate_at l v))

  -- record v is within n of them
  pub length_within : (v n : ℕ) → v < n → length (gates_words (nodes_of l v)) + length (gate_words (gate_at l v)) ≤ length (gates_words (nodes_of l n))
  length_within v zero h = absurd (omega arith)
  length_within v (suc n) h = elim (ℕ_discrete v n) [
    | yes e ↦ rw e (omega (arith, length_next n))
    | no e ↦ omega (arith, length_next n, length_within v n (omega arith))
  ]

-- ---- the image

module _ (l : List ℕ) (c : Counts) where
  pub length_image : length (image_of (network_of l c)) ≡ 4 * (length (gates_words (nodes_of l c.nodes)) + c.outs + 4)
  unfolding body_words network_of net_of
  length_image = shape.length_image (network_of l c) ∙ rw length-append (omega (arith, length_outputs_of l c.outs))

  pub words_few : Held l c → (v : ℕ) → v ≤ c.nodes → length (gates_words (nodes_of l v)) ≤ 3584
  words_few H v h =
      let all : length (gates_words (nodes_of l c.nodes)) ≤ 3584 =
      omega (arith, gates_length (nodes_of l c.nodes), total_few l c H, nodes_few l c H, length_nodes_of l c.nodes) in
      elim (ℕ_discrete v c.nodes) [ yes e ↦ rw e all | no e ↦ omega (arith, all, length_within l v c.nodes (omega arith)) ]
