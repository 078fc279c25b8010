-- Writing what was read gives the image without its prefix.
use mathlib.Core.Path.{◌≡◌, refl, sym, ap, ap₂, ◌∙◌}
use mathlib.Core.List.{List, [], ◌∷◌, ◌++◌, append-nil}
use mathlib.Core.Bool.{Bool, true, false}
use Prim.Native.Nat.{ℕ, zero, suc, ◌+◌, ◌-◌, ◌*◌, ◌/◌, ◌%◌, ◌≤◌, ◌<◌}
use native.Mathlib.Omega.{arith}
use native.Mathlib.Nat.{add-zero, add_assoc, sub-zero}
use native.Mathlib.Numerals.{add-one, add-two, add-three, one-add}
use lib.ListN.{length, get_or, take, drop, length-drop, take-append-drop, drop_of_length-le}
use lib.Seq.{drop-drop, drop-cons, take-add, length-take-le}
use Rattle.model.specs.Gate.{is_lut}
use Rattle.model.specs.Image.{Bytes, Words32, words, bytes, word_at, code_at, count_at, size_at, table_at, record_gate, gates_from, end_from, nodes_in, outs_in, span_in, body_of, words_of, net_in, net_of, refusal_of, table_words, gate_words, gates_words, body_words, net_words, image_of}
use Rattle.model.proofs.Bytes.{bytes_words, length_words, get_or_words, word_at_drop, words_small, bytes_drop}
use Rattle.shape.proofs.Walks.{ins_length, end_le, length_gates}
use Rattle.shape.proofs.Accepted.{Framed, Accepted, accepted}

part_head : (ws : List ℕ) (at m : ℕ) → at < length ws → take (1 + m) (drop at ws) ≡ get_or ws at 0 ∷ take m (drop (at + 1) ws)
part_head ws at m l = simp (one-add, add-one) (ap (λ (r : List ℕ). take (suc m) r) (drop-cons ws at 0 l))

two_words : (ws : List ℕ) (m n : ℕ) → n ≡ m + 1 → n < length ws → take 2 (drop m ws) ≡ get_or ws m 0 ∷ get_or ws n 0 ∷ []
two_words ws m n e l =
    let k : m < length ws = omega arith in
    let s : suc m ≡ n = omega arith in
    ap (λ (r : List ℕ). take 2 r) (drop-cons ws m 0 k)
    ∙ ap (λ (i : ℕ). get_or ws m 0 ∷ take 1 (drop i ws)) s
    ∙ ap (λ (r : List ℕ). get_or ws m 0 ∷ take 1 r) (drop-cons ws n 0 l)

-- a gate that was read has the words that it was read from
pub gate_forth : (ws : List ℕ) (at : ℕ) → Words32 ws → at + size_at ws at ≤ length ws → gate_words (record_gate ws at) ≡ take (size_at ws at) (drop at ws)
unfolding gate_words table_words record_gate table_at size_at code_at count_at
gate_forth ws at w l = go (is_lut (get_or ws at 0 % 256)) refl
  where
    h : ℕ
    h = get_or ws at 0

    head : h % 256 + 256 * length (take (h / 256) (drop (at + 1) ws)) ≡ h
    head = omega (arith, ins_length ws at l)

    lo : ℕ
    lo = get_or ws (at + 1 + h / 256) 0

    hi : ℕ
    hi = get_or ws (at + 2 + h / 256) 0

    go : (b : Bool) → is_lut (get_or ws at 0 % 256) ≡ b → gate_words (record_gate ws at) ≡ take (size_at ws at) (drop at ws)
    go true e =
        let a : lo < 4294967296 = w (at + 1 + h / 256) in
        let q : (lo + hi * 4294967296) % 4294967296 ≡ lo = omega arith in
        let r : (lo + hi * 4294967296) / 4294967296 ≡ hi = omega arith in
        let fit : at + (1 + h / 256 + 2) ≤ length ws = simp e at l in
        simp (e, head, q, r)
        (sym
        (ap (λ (n : ℕ). take n (drop at ws)) (add_assoc 1 (h / 256) 2)
        ∙ part_head ws at (h / 256 + 2) (omega arith)
        ∙ ap (λ (x : List ℕ). h ∷ x)
        (take-add (h / 256) 2 (drop (at + 1) ws)
        ∙ ap (λ (x : List ℕ). take (h / 256) (drop (at + 1) ws) ++ take 2 x) (drop-drop (h / 256) (at + 1) ws)
        ∙ ap (λ (x : List ℕ). take (h / 256) (drop (at + 1) ws) ++ x)
        (two_words ws (at + 1 + h / 256) (at + 2 + h / 256) (omega arith) (omega arith)))))
    go false e =
        let fit : at + (1 + h / 256 + 0) ≤ length ws = simp e at l in
        simp (e, head, append-nil, add-zero) (sym (part_head ws at (h / 256) (omega arith)))

-- so have the gates of a walk
pub gates_forth : (k : ℕ) (ws : List ℕ) (at : ℕ) → Words32 ws → end_from k ws at ≤ length ws
    → gates_words (gates_from k ws at) ≡ take (end_from k ws at - at) (drop at ws)
unfolding gates_words gates_from end_from
gates_forth zero ws at w l = let z : at - at ≡ 0 = omega arith in simp z
gates_forth (suc k) ws at w l =
    let s = size_at ws at in
    let m = end_le k ws (at + s) in
    let d : end_from k ws (at + s) - at ≡ s + (end_from k ws (at + s) - (at + s)) = omega arith in
    ap₂ {C = List ℕ} (λ x y. x ++ y) (gate_forth ws at w (omega arith)) (gates_forth k ws (at + s) w l)
    ∙ sym
    (ap (λ (n : ℕ). take n (drop at ws)) d
    ∙ take-add s (end_from k ws (at + s) - (at + s)) (drop at ws)
    ∙ ap (λ (x : List ℕ). take s (drop at ws) ++ take (end_from k ws (at + s) - (at + s)) x) (drop-drop s at ws))

-- The trailer
four_words : (ws : List ℕ) (m : ℕ) → m + 4 ≡ length ws
    → drop m ws ≡ get_or ws m 0 ∷ get_or ws (m + 1) 0 ∷ get_or ws (m + 2) 0 ∷ get_or ws (m + 3) 0 ∷ []
four_words ws m e =
    simp (add-one, add-two, add-three)
    (drop-cons ws m 0 (omega arith)
    ∙ ap (λ (r : List ℕ). get_or ws m 0 ∷ r)
    (drop-cons ws (suc m) 0 (omega arith)
    ∙ ap (λ (r : List ℕ). get_or ws (suc m) 0 ∷ r)
    (drop-cons ws (suc (suc m)) 0 (omega arith)
    ∙ ap (λ (r : List ℕ). get_or ws (suc (suc m)) 0 ∷ r)
    (drop-cons ws (suc (suc (suc m))) 0 (omega arith)
    ∙ ap (λ (r : List ℕ). get_or ws (suc (suc (suc m))) 0 ∷ r) (drop_of_length-le ws {i = suc (suc (suc (suc m)))} (omega arith))))))

module _ (img : List ℕ) (f : Framed img) where
  pub length_body : length (body_of img) ≡ span_in img
  unfolding body_of
  length_body = let l = f.inside in length-drop (length img - span_in img) img ∙ omega arith

  pub length_words_of : 4 * length (words_of img) ≡ span_in img
  unfolding words_of
  length_words_of = let l = f.whole in omega (arith, length_words (body_of img), length_body)

  -- a word of the body, in the image
  pub word_in : (i j : ℕ) → i < length (words_of img) → length img - span_in img + 4 * i ≡ length img - j
      → get_or (words_of img) i 0 ≡ word_at img (length img - j)
  unfolding words_of body_of
  word_in i j l e =
      get_or_words (body_of img) i (rw (← length_words) l)
      ∙ word_at_drop (length img - span_in img) img (4 * i)
      ∙ ap (λ (n : ℕ). word_at img n) e

pub bytes_body : (img : List ℕ) → Bytes img → Bytes (body_of img)
unfolding body_of
bytes_body img by = bytes_drop (length img - span_in img) img by

words_of_lem : (img : List ℕ) → Bytes img → Words32 (words_of img)
unfolding words_of
words_of_lem img by = words_small (body_of img) (bytes_body img by)

whole_words : (img : List ℕ) → bytes (words_of img) ≡ bytes (words (body_of img))
unfolding words_of
whole_words img = refl

net_forth : (img : List ℕ) → Bytes img → Accepted img → net_words (net_of img) ≡ words_of img
unfolding net_words body_words net_of net_in
net_forth img by a =
    let ws = words_of img in
    let n = nodes_in img in
    let o = outs_in img in
    let m = end_from n ws 0 in
    let f = a.frame in
    let w : Words32 ws = words_of_lem img by in
    let ends = a.layout.ends in
    let inside = f.inside in
    let lw = length_words_of img f in
    let g : gates_words (gates_from n ws 0) ≡ take m ws =
    gates_forth n ws 0 w (omega arith) ∙ ap (λ (x : ℕ). take x ws) (sub-zero m) in
    let p : gates_words (gates_from n ws 0) ++ take o (drop m ws) ≡ take (m + o) ws =
    ap (λ (x : List ℕ). x ++ take o (drop m ws)) g ∙ sym (take-add m o ws) in
    let lo : length (take o (drop m ws)) ≡ o = length-take-le o (drop m ws) (rw length-drop (omega arith)) in
    let lp : length (take (m + o) ws) ≡ m + o = length-take-le (m + o) ws (omega arith) in
    let d : 4 * (m + o + 4) ≡ span_in img = omega arith in
    let w0 = word_in img f (m + o) 16 (omega arith) (omega arith) in
    let w1 = word_in img f (m + o + 1) 12 (omega arith) (omega arith) in
    let w2 = word_in img f (m + o + 2) 8 (omega arith) (omega arith) in
    let w3 = word_in img f (m + o + 3) 4 (omega arith) (omega arith) in
    simp (lp, lo, length_gates, p, d)
    (ap (λ (x : List ℕ). take (m + o) ws ++ x) (sym (four_words ws (m + o) (omega arith) ∙ simp (w0, w1, w2, w3)))
    ∙ take-append-drop (m + o) ws)

pub image_of_net : (img : List ℕ) → Bytes img → refusal_of img ≡ 0 → image_of (net_of img) ≡ body_of img
unfolding image_of
image_of_net img by e =
    let a = accepted img e in
    let f = a.frame in
    let small : Bytes (body_of img) = bytes_body img by in
    let q : length (body_of img) % 4 ≡ 0 = omega (arith, length_body img f, f.whole) in
    ap bytes (net_forth img by a) ∙ whole_words img ∙ bytes_words (body_of img) small q
