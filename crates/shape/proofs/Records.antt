-- Record k: the part of the image where it lies, and that it is node k's record.
use mathlib.Core.Path.{◌≡◌, sym}
use mathlib.Core.List.{List, []}
use mathlib.Core.Bool.{true, false}
use Prim.Native.Nat.{ℕ, suc, ◌+◌, ◌-◌, ◌*◌, ◌≤◌, ◌<◌}
use native.Mathlib.Omega.{arith}
use lib.ListN.{length, take, drop, length-drop}
use lib.Seq.{drop-drop, length-take-le}
use lib.Dec.{eqb, ltb}
use borrow.Author.Tests.{eqb-true, eq-eqb, ltb-true, lt-ltb}
use Rattle.laws.proofs.Bools.{and_left, and_right, and_both}
use Rattle.laws.proofs.Choices.{by_bool}
use Rattle.laws.proofs.Lists.{take_length_take}
use Rattle.model.specs.Gate.{gate_at, no_gate}
use Rattle.model.specs.Image.{Bytes, words, bytes, size_at, record_gate, end_from, nodes_in, outs_in, span_in, body_of, words_of, net_in, net_of, refusal_of, has_record, record_in, record_of, record_at_of, gate_words}
use Rattle.model.proofs.Bytes.{bytes_words, words_small, bytes_take, bytes_after}
use Rattle.shape.proofs.Walks.{end_mono, end_last, gates_at}
use Rattle.shape.proofs.Accepted.{accepted}
use Rattle.shape.proofs.Back.{gate_forth, length_body, length_words_of, bytes_body}

-- ---- where it lies

module _ (img : List ℕ) (k : ℕ) where
  record_lies : has_record img k ≡ true → record_of img k ≡ take (4 * size_at (words_of img) (end_from k (words_of img) 0)) (drop (record_at_of img k) img)
  unfolding record_of record_at_of record_in words_of body_of
  record_lies h = simp (h, drop-drop)

  record_none : has_record img k ≡ false → record_of img k ≡ []
  unfolding record_of
  record_none h = simp h

  -- the part that begins at record_at, as long as it is
  pub record_part : record_of img k ≡ take (length (record_of img k)) (drop (record_at_of img k) img)
  record_part =
      by_bool (has_record img k)
      (λ h. rw (record_lies h)
      (sym (take_length_take (4 * size_at (words_of img) (end_from k (words_of img) 0)) (drop (record_at_of img k) img))))
      (λ h. rw (record_none h))

-- ---- an accepted image has record k of each node k

module _ (img : List ℕ) (e : refusal_of img ≡ 0) (k : ℕ) (l : k < nodes_in img) where
  pub has_record_lem : has_record img k ≡ true
  unfolding has_record
  has_record_lem = and_both (eqb (refusal_of img) 0) (ltb k (nodes_in img)) (eq-eqb (refusal_of img) 0 e) (lt-ltb k (nodes_in img) l)

  pub record_at : record_at_of img k ≡ length img - span_in img + 4 * end_from k (words_of img) 0
  unfolding record_at_of
  record_at = simp has_record_lem

  -- it ends before the outputs
  pub record_ends : end_from k (words_of img) 0 + size_at (words_of img) (end_from k (words_of img) 0) + (outs_in img + 4) ≤ length (words_of img)
  record_ends =
      omega (arith, (accepted img e).layout.ends, end_mono (suc k) (nodes_in img) (words_of img) 0 l, end_last k (words_of img) 0)

  pub record_length : length (record_of img k) ≡ 4 * size_at (words_of img) (end_from k (words_of img) 0)
  record_length =
      let f = (accepted img e).frame in
      let m = 4 * size_at (words_of img) (end_from k (words_of img) 0) in
      rw (record_lies img k has_record_lem)
      (length-take-le m (drop (record_at_of img k) img)
      (rw length-drop (omega (arith, record_at, record_ends, length_words_of img f, f.inside))))

  ends_inside : record_at_of img k + length (record_of img k) ≤ length img
  ends_inside = let f = (accepted img e).frame in omega (arith, record_at, record_length, record_ends, length_words_of img f, f.inside)

  -- node k's record, as a writer writes it
  pub record_of_gate : Bytes img → record_of img k ≡ bytes (gate_words (gate_at (net_of img) k))
  unfolding record_of record_in words_of net_of net_in
  record_of_gate by =
      let b = body_of img in
      let ws = words b in
      let at = end_from k ws 0 in
      let s = size_at ws at in
      let f = (accepted img e).frame in
      let w : bytes ws ≡ b = bytes_words b (bytes_body img by) (omega (arith, length_body img f, f.whole)) in
      let r = record_ends in
      let g : gate_words (record_gate ws at) ≡ take s (drop at ws) = gate_forth ws at (words_small b (bytes_body img by)) (omega arith) in
      simp (has_record_lem, gates_at k (nodes_in img) ws 0 no_gate l, g, bytes_take, bytes_after, w)

-- of every image, the part lies inside
pub record_inside : (img : List ℕ) (k : ℕ) → record_at_of img k + length (record_of img k) ≤ length img
unfolding record_at_of record_of has_record
record_inside img k =
    by_bool (has_record img k)
    (λ h. ends_inside img
    (eqb-true (refusal_of img) 0 (and_left (eqb (refusal_of img) 0) (ltb k (nodes_in img)) h)) k
    (ltb-true k (nodes_in img) (and_right (eqb (refusal_of img) 0) (ltb k (nodes_in img)) h)))
    (λ h. simp h (omega arith))
