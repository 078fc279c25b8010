-- The image of a valid network: how long it is, and that it consists of bytes.
use mathlib.Core.Path.{◌≡◌}
use mathlib.Core.List.{List, [], ◌∷◌, ◌++◌}
use mathlib.Core.Bool.{true}
use Prim.Native.Nat.{ℕ, ◌+◌, ◌*◌, ◌/◌, ◌%◌, ◌≤◌, ◌<◌}
use native.Mathlib.Omega.{arith}
use lib.ListN.{length, length-append}
use Rattle.laws.proofs.Choices.{by_bool}
use Rattle.laws.proofs.Bools.{and_left, and_right}
use Rattle.model.specs.Gate.{Gate, Net, Valid, size, is_lut, shaped, all_shaped, fanin, all_named, gates_named, wired}
use Rattle.model.specs.Image.{Bytes, Words32, table_words, gate_words, gates_words, body_words, net_words, image_of}
use Rattle.model.proofs.Bytes.{words_append, words_cons, words_nil, bytes_small}
use Rattle.model.proofs.Named.{named_words}
use Rattle.model.proofs.Names.{wired_outs}
use Rattle.shape.proofs.Shaped.{kind_small, table_two, first_shaped, rest_shaped}
use Rattle.shape.proofs.Written.{trailer, length_image}

-- ---- how long

-- a header, the inputs, and at most two table words
gate_length : (g : Gate) → length (gate_words g) ≤ 3 + length g.ins
unfolding gate_words table_words
gate_length g =
    by_bool (is_lut g.kind)
    (λ e. simp (e, length-append) (omega arith))
    (λ e. simp (e, length-append) (omega arith))

pub gates_length : (gs : List Gate) → length (gates_words gs) ≤ 3 * length gs + fanin gs
unfolding gates_words fanin
gates_length [] = omega arith
gates_length (g ∷ gs) = simp length-append (omega (arith, gate_length g, gates_length gs))

pub body_length : (n : Net) → Valid n → length (body_words n) ≤ 3648
unfolding body_words
body_length n v =
    simp length-append (omega (arith, gates_length n.nodes, v.nodes_few, v.ins_few, v.outs_few))

pub image_length : (n : Net) → Valid n → length (image_of n) ≤ 14608
image_length n v = omega (arith, length_image n, body_length n v)

-- ---- its words

table_words_lem : (g : Gate) → shaped g ≡ true → Words32 (table_words g)
unfolding table_words
table_words_lem g s =
    by_bool (is_lut g.kind)
    (λ e. let t : g.table < 18446744073709551616 = table_two g s e in
    let l : g.table % 4294967296 < 4294967296 = omega arith in
    let h : g.table / 4294967296 < 4294967296 = omega arith in
    rw e (words_cons (g.table % 4294967296) (g.table / 4294967296 ∷ []) l (words_cons (g.table / 4294967296) [] h words_nil)))
    (λ e. rw e words_nil)

gate_words_lem : (i n : ℕ) (g : Gate) → shaped g ≡ true → length g.ins ≤ 2048 → all_named i n g.ins ≡ true → Words32 (gate_words g)
unfolding gate_words
gate_words_lem i n g s l e =
    let k : g.kind < 15 = kind_small g s in
    words_cons (g.kind + 256 * length g.ins) (g.ins ++ table_words g) (omega arith)
    (words_append g.ins (table_words g) (named_words i n g.ins e) (table_words_lem g s))

gates_words_lem : (i n : ℕ) (gs : List Gate) → all_shaped gs ≡ true → fanin gs ≤ 2048 → gates_named i n gs ≡ true → Words32 (gates_words gs)
unfolding gates_words fanin gates_named
gates_words_lem i n [] s l e = words_nil
gates_words_lem i n (g ∷ gs) s l e =
    words_append (gate_words g) (gates_words gs)
    (gate_words_lem i n g (first_shaped g gs s) (omega arith) (and_left (all_named i n g.ins) (gates_named i n gs) e))
    (gates_words_lem i n gs (rest_shaped g gs s) (omega arith) (and_right (all_named i n g.ins) (gates_named i n gs) e))

module _ (n : Net) (v : Valid n) where
  gates_wired : gates_named n.inputs (size n) n.nodes ≡ true
  unfolding wired
  gates_wired = and_left (gates_named n.inputs (size n) n.nodes) (all_named n.inputs (size n) n.outs) v.signals

  trailer_words_lem : Words32 (trailer n)
  trailer_words_lem =
      let d = 4 * (length (body_words n) + 4) in
      let b = body_length n v in
      let l = v.inputs_few in
      let m = v.nodes_few in
      let o = v.outs_few in
      words_cons n.inputs (size n ∷ length n.outs ∷ d ∷ []) (omega arith)
      (words_cons (size n) (length n.outs ∷ d ∷ []) (omega arith)
      (words_cons (length n.outs) (d ∷ []) (omega arith) (words_cons d [] (omega arith) words_nil)))

  pub net_words_lem : Words32 (net_words n)
  unfolding net_words body_words
  net_words_lem =
      words_append (gates_words n.nodes ++ n.outs) (trailer n)
      (words_append (gates_words n.nodes) n.outs
      (gates_words_lem n.inputs (size n) n.nodes v.gates_shaped v.ins_few gates_wired)
      (named_words n.inputs (size n) n.outs (wired_outs n v.signals)))
      trailer_words_lem

  pub bytes_image : Bytes (image_of n)
  unfolding image_of
  bytes_image = bytes_small (net_words n) net_words_lem
