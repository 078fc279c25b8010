-- Reading an image that was written gives the network back.
use mathlib.Core.Path.{◌≡◌, refl, sym, ap, ap₂, ◌∙◌}
use mathlib.Core.List.{List, [], ◌∷◌, ◌++◌, append_assoc}
use mathlib.Core.Bool.{Bool, true, false}
use Prim.Native.Nat.{ℕ, suc, ◌+◌, ◌-◌, ◌*◌, ◌/◌, ◌%◌, ◌<◌}
use native.Mathlib.Omega.{arith}
use native.Mathlib.Nat.{add-zero, zero-add}
use native.Mathlib.Numerals.{one-add}
use lib.ListN.{length, get_or, take, drop, length-append}
use lib.Seq.{drop-append_seam, take-append_seam, get_or-append-add}
use Rattle.model.specs.Gate.{Gate, Net, size, is_lut, shaped, all_shaped}
use Rattle.model.specs.Image.{words, bytes, word_at, code_at, count_at, size_at, table_at, record_gate, gates_from, end_from, inputs_in, nodes_in, outs_in, span_in, body_of, words_of, net_in, net_of, table_words, gate_words, gates_words, body_words, net_words, image_of}
use Rattle.model.proofs.Bytes.{words_bytes, length_bytes, get_or_words}
use Rattle.shape.proofs.Walks.{gates_drop, end_drop}
use Rattle.shape.proofs.Shaped.{kind_small, table_none, first_shaped, rest_shaped}

pub gate_eq : {a b : Gate} → a.kind ≡ b.kind → a.ins ≡ b.ins → a.table ≡ b.table → a ≡ b
gate_eq p q r = λ i. record { kind = p i; ins = q i; table = r i }

pub net_eq : {a b : Net} → a.inputs ≡ b.inputs → a.nodes ≡ b.nodes → a.outs ≡ b.outs → a ≡ b
net_eq p q r = λ i. record { inputs = p i; nodes = q i; outs = r i }

first_of : (xs : List ℕ) (a b : ℕ) (r : List ℕ) → get_or ((xs ++ (a ∷ b ∷ [])) ++ r) (length xs) 0 ≡ a
first_of [] a b r = refl
first_of (x ∷ xs) a b r = first_of xs a b r

second_of : (xs : List ℕ) (a b : ℕ) (r : List ℕ) → get_or ((xs ++ (a ∷ b ∷ [])) ++ r) (suc (length xs)) 0 ≡ b
second_of [] a b r = refl
second_of (x ∷ xs) a b r = second_of xs a b r

two_add : (n : ℕ) → 2 + n ≡ suc (suc n)
two_add n = omega arith

-- A gate's words are read back
module _ (g : Gate) (r : List ℕ) (t : shaped g ≡ true) where
  pub header_back : (get_or (gate_words g ++ r) 0 0 % 256 ≡ g.kind) × (get_or (gate_words g ++ r) 0 0 / 256 ≡ length g.ins)
  unfolding gate_words
  header_back = let k : g.kind < 15 = kind_small g t in (omega arith, omega arith)

  pub size_back : size_at (gate_words g ++ r) 0 ≡ length (gate_words g)
  unfolding size_at code_at count_at gate_words table_words
  size_back = go (is_lut g.kind) refl
    where
      go : (b : Bool) → is_lut g.kind ≡ b → size_at (gate_words g ++ r) 0 ≡ length (gate_words g)
      go true e = simp (header_back.0, header_back.1, e, length-append) (omega arith)
      go false e = simp (header_back.0, header_back.1, e, length-append) (omega arith)

  ins_back : take (length g.ins) (drop 1 (gate_words g ++ r)) ≡ g.ins
  unfolding gate_words
  ins_back = simp append_assoc (take-append_seam g.ins (table_words g ++ r))

  pub table_back : table_at (gate_words g ++ r) 0 ≡ g.table
  unfolding table_at code_at count_at gate_words table_words
  table_back = go (is_lut g.kind) refl
    where
      go : (b : Bool) → is_lut g.kind ≡ b → table_at (gate_words g ++ r) 0 ≡ g.table
      go true e =
          simp (
            header_back.0,
            header_back.1,
            e,
            one-add,
            two_add,
            first_of g.ins (g.table % 4294967296) (g.table / 4294967296) r,
            second_of g.ins (g.table % 4294967296) (g.table / 4294967296) r,
          )
          (omega arith)
      go false e =
          simp (header_back.0, e) (sym (table_none g t e))

  pub gate_back : record_gate (gate_words g ++ r) 0 ≡ g
  unfolding record_gate code_at count_at
  gate_back = gate_eq header_back.0 (simp header_back.1 ins_back) table_back

-- Gates' words are read back, and the walk ends behind them
pub gates_back : (gs : List Gate) (r : List ℕ) → all_shaped gs ≡ true → gates_from (length gs) (gates_words gs ++ r) 0 ≡ gs
unfolding gates_from gates_words
gates_back [] r t = refl
gates_back (g ∷ gs) r t =
    let a = first_shaped g gs t in
    let b = rest_shaped g gs t in
    simp (append_assoc)
    (ap₂ {C = List Gate} (λ x xs. x ∷ xs) (gate_back g (gates_words gs ++ r) a)
    (simp (size_back g (gates_words gs ++ r) a, zero-add)
    (ap (λ (n : ℕ). gates_from (length gs) (gate_words g ++ (gates_words gs ++ r)) n) (sym (add-zero (length (gate_words g))))
    ∙ sym (gates_drop (length gs) (length (gate_words g)) (gate_words g ++ (gates_words gs ++ r)) 0)
    ∙ simp drop-append_seam (gates_back gs r b))))

end_none : (ws : List ℕ) (at : ℕ) → end_from 0 ws at ≡ at
unfolding end_from
end_none ws at = refl

end_suc : (k : ℕ) (ws : List ℕ) (at : ℕ) → end_from (suc k) ws at ≡ end_from k ws (at + size_at ws at)
unfolding end_from
end_suc k ws at = refl

pub words_cons : (g : Gate) (gs : List Gate) → gates_words (g ∷ gs) ≡ gate_words g ++ gates_words gs
unfolding gates_words
words_cons g gs = refl

words_nil : gates_words [] ≡ []
unfolding gates_words
words_nil = refl

pub end_back : (gs : List Gate) (r : List ℕ) → all_shaped gs ≡ true → end_from (length gs) (gates_words gs ++ r) 0 ≡ length (gates_words gs)
end_back [] r t = end_none (gates_words [] ++ r) 0 ∙ simp words_nil
end_back (g ∷ gs) r t =
    let a = first_shaped g gs t in
    let b = rest_shaped g gs t in
    let ws = gate_words g ++ (gates_words gs ++ r) in
    simp (words_cons g gs, append_assoc, end_suc, size_back g (gates_words gs ++ r) a, length-append)
    (ap (λ (n : ℕ). end_from (length gs) ws n) (zero-add (length (gate_words g)) ∙ sym (add-zero (length (gate_words g))))
    ∙ sym (end_drop (length gs) (length (gate_words g)) ws 0)
    ∙ ap (λ (l : List ℕ). length (gate_words g) + end_from (length gs) l 0) (drop-append_seam (gate_words g) (gates_words gs ++ r))
    ∙ ap (λ (n : ℕ). length (gate_words g) + n) (end_back gs r b))

-- a word of the bytes of words
pub word_of : (ws : List ℕ) (i : ℕ) → i < length ws → word_at (bytes ws) (4 * i) ≡ get_or ws i 0
word_of ws i l =
    sym (get_or_words (bytes ws) i (omega (arith, length_bytes ws))) ∙ ap (λ (l : List ℕ). get_or l i 0) (words_bytes ws)

-- ---- a network's image

abbrev pub trailer : Net → List ℕ
trailer n = n.inputs ∷ size n ∷ length n.outs ∷ (4 * (length (body_words n) + 4)) ∷ []

module _ (n : Net) where
  pub length_image : length (image_of n) ≡ 4 * (length (body_words n) + 4)
  unfolding image_of net_words
  length_image = length_bytes (body_words n ++ trailer n) ∙ rw length-append

  trailer_word : (i j : ℕ) → i < 4 → length (image_of n) - j ≡ 4 * (length (body_words n) + i)
      → word_at (image_of n) (length (image_of n) - j) ≡ get_or (trailer n) i 0
  unfolding image_of net_words
  trailer_word i j l e =
      ap (λ (m : ℕ). word_at (bytes (body_words n ++ trailer n)) m) e
      ∙ word_of (body_words n ++ trailer n) (length (body_words n) + i) (rw length-append (omega arith))
      ∙ get_or-append-add (body_words n) (trailer n) i 0

  pub inputs_written : inputs_in (image_of n) ≡ n.inputs
  inputs_written = trailer_word 0 16 (omega arith) (omega (arith, length_image))

  pub nodes_written : nodes_in (image_of n) ≡ size n
  nodes_written = trailer_word 1 12 (omega arith) (omega (arith, length_image))

  pub outs_written : outs_in (image_of n) ≡ length n.outs
  outs_written = trailer_word 2 8 (omega arith) (omega (arith, length_image))

  pub span_written : span_in (image_of n) ≡ 4 * (length (body_words n) + 4)
  span_written = trailer_word 3 4 (omega arith) (omega (arith, length_image))

  -- all of it is the body
  pub body_written : body_of (image_of n) ≡ image_of n
  unfolding body_of
  body_written =
      let z : length (image_of n) - span_in (image_of n) ≡ 0 = omega (arith, length_image, span_written) in
      simp z

  words_of_image : words (image_of n) ≡ (gates_words n.nodes ++ n.outs) ++ trailer n
  unfolding image_of net_words body_words
  words_of_image = words_bytes (body_words n ++ trailer n)

  pub words_written : words_of (image_of n) ≡ gates_words n.nodes ++ (n.outs ++ trailer n)
  unfolding words_of
  words_written = ap words body_written ∙ words_of_image ∙ append_assoc (gates_words n.nodes) n.outs (trailer n)

  -- what is read of it is the network
  pub net_of_image : all_shaped n.nodes ≡ true → net_of (image_of n) ≡ n
  unfolding net_of net_in
  net_of_image t =
      net_eq inputs_written
      (ap₂ {C = List Gate} (λ x ws. gates_from x ws 0) nodes_written words_written ∙ gates_back n.nodes (n.outs ++ trailer n) t)
      (ap (λ (x : ℕ). take x (drop (end_from (nodes_in (image_of n)) (words_of (image_of n)) 0) (words_of (image_of n)))) outs_written
      ∙ ap₂ {C = List ℕ} (λ x ws. take (length n.outs) (drop (end_from x ws 0) ws)) nodes_written words_written
      ∙ simp (end_back n.nodes (n.outs ++ trailer n) t, drop-append_seam, take-append_seam))
