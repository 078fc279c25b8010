-- Laws of the place of record k.
use mathlib.Core.Path.{◌≡◌, refl, sym, ap, ◌∙◌}
use mathlib.Core.Logic.{◌≢◌}
use mathlib.Core.List.{List, []}
use mathlib.Core.Bool.{Bool, true, false, cond, and-false}
use Prim.Native.Nat.{ℕ, ◌+◌, ◌-◌, ◌*◌, ◌/◌, ◌^◌, ◌≤◌, ◌<◌}
use native.Mathlib.Omega.{arith}
use lib.ListN.{length, get_or, take, drop, length-drop}
use lib.Seq.{take_all}
use borrow.Author.Tests.{eq-eqb, ne_eqb, le-ltb, lt-ltb}
use mir.Val.{Fits}
use mir.Syntax.{w64}
use Rattle.model.specs.Image.{words, size_at, end_from, nodes_in, span_in, body_of, words_of, refusal_of, has_record, record_of, record_at_of}
use Rattle.model.proofs.Bytes.{length_words}
use Rattle.shape.proofs.Accepted.{accepted}
use Rattle.shape.proofs.Back.{length_words_of}
use Rattle.shape.proofs.Records.{record_part, record_at, record_length, record_ends, record_inside}
use Rattle.records.specs.Layouts.{size_of}
use Rattle.std.specs.Prelude.{Some, None, Result, Ok, Err}
use Rattle.std.specs.Result.{result_ok}
use Rattle.std.specs.declared.ops.Range.{Range}
use Rattle.refusals.specs.Numbers.{number, numbered, unless}
use Rattle.refusals.specs.declared.Refusal.{Refusal}
use Rattle.refusals.proofs.Numbers.{number_above, unless_ok_number, unless_ok_value, unless_err}
use Rattle.image.specs.Reader.{frame_of}
use Rattle.image.specs.declared.Frame.{Frame}
use Rattle.image_record.specs.Holders.{place_of}
use Rattle.records.proofs.Fits.{size_is}

-- ---- no record

nowhere : (img : List ℕ) (k : ℕ) → has_record img k ≡ false → None ≡ place_of img k
unfolding place_of
nowhere img k h = simp h

ok_inv : (r : Result Frame Refusal) (f : Frame) → Some f ≡ result_ok r → r ≡ Ok f
ok_inv (Ok g) f e = let z : g ≡ f = cc in rw z refl
ok_inv (Err d) f e = absurd cc

ok_not : (r : Result Frame Refusal) (n : ℕ) (g : Frame) → numbered r ≡ unless n g → None ≡ result_ok r → n ≢ 0
ok_not (Ok f) n g e q = absurd cc
ok_not (Err d) n g e q = λ z. let h : number d ≡ n = unless_err (Err d) n g d e refl in omega (arith, number_above d)

pub place_refused : (img : List ℕ) (k : ℕ) (r : Result Frame Refusal) → numbered r ≡ unless (refusal_of img) (frame_of img) → None ≡ result_ok r → None ≡ place_of img k
unfolding has_record
place_refused img k r e q = nowhere img k (simp (ne_eqb (refusal_of img) 0 (ok_not r (refusal_of img) (frame_of img) e q)))

-- ---- of an image that is accepted

module _ (img : List ℕ) (r : Result Frame Refusal) (e : numbered r ≡ unless (refusal_of img) (frame_of img)) (f : Frame) (q : Some f ≡ result_ok r) where
  passes : (refusal_of img ≡ 0) × (f ≡ frame_of img)
  passes =
      let o = ok_inv r f q in
      (unless_ok_number r (refusal_of img) (frame_of img) f e o, unless_ok_value r (refusal_of img) (frame_of img) f e o)

  start_is : f.start ≡ length img - span_in img
  unfolding frame_of
  start_is = rw passes.1

  nodes_is : f.nodes ≡ nodes_in img
  unfolding frame_of
  nodes_is = rw passes.1

  pub place_start : f.start ≤ length img
  place_start = omega (arith, start_is)

  pub place_none : (k : ℕ) → f.nodes ≤ k → None ≡ place_of img k
  unfolding has_record
  place_none k l = nowhere img k (simp (le-ltb k (nodes_in img) (omega (arith, nodes_is)), and-false))

  part_is : take (length img - f.start) (drop f.start img) ≡ body_of img
  unfolding body_of
  part_is =
      take_all (length img - f.start) (drop f.start img) (rw length-drop (omega arith))
      ∙ ap (λ (n : ℕ). drop n img) start_is

  part_words : words (take (length img - f.start) (drop f.start img)) ≡ words_of img
  unfolding words_of
  part_words = ap words part_is

  part_length : length (take (length img - f.start) (drop f.start img)) / 4 ≡ length (words_of img)
  part_length = sym (length_words (take (length img - f.start) (drop f.start img))) ∙ ap length part_words

  module _ (k : ℕ) (l : k < f.nodes) where
    inside : end_from k (words_of img) 0 + size_at (words_of img) (end_from k (words_of img) 0) + 4 ≤ length (words_of img)
    inside = omega (arith, record_ends img passes.0 k (omega (arith, nodes_is)))

    pub place_skip : end_from k (words (take (length img - f.start) (drop f.start img))) 0
        ≤ length (take (length img - f.start) (drop f.start img)) / 4
    place_skip = rw (part_length, part_words) (omega (arith, inside))

    module _ (at : ℕ) (a : at ≡ end_from k (words (take (length img - f.start) (drop f.start img))) 0) where
      at_is : at ≡ end_from k (words_of img) 0
      at_is = a ∙ ap (λ (ws : List ℕ). end_from k ws 0) part_words

      pub place_nth : at < length (take (length img - f.start) (drop f.start img)) / 4
      place_nth = rw part_length (omega (arith, inside, at_is))

      within : f.start + 4 * (at + size_at (words_of img) at) + 16 ≤ length img
      within =
          let g = (accepted img passes.0).frame in
          let s : size_at (words_of img) at ≡ size_at (words_of img) (end_from k (words_of img) 0) = ap (size_at (words_of img)) at_is in
          omega (arith, inside, at_is, length_words_of img g, g.inside, start_is)

      module _ (w : length img < 2 ^ 64) where
        pub place_bytes : Fits w64 (4 * at)
        place_bytes = record { fits = omega (arith, within) }

        pub place_sum : Fits w64 (f.start + 4 * at)
        place_sum = record { fits = omega (arith, within) }

      module _ (h s : ℕ) (d : h ≡ get_or (words (take (length img - f.start) (drop f.start img))) at 0) (z : s ≡ size_of h) where
        size_at_lem : s ≡ size_at (words_of img) at
        size_at_lem = z ∙ sym (size_is (words_of img) at h (d ∙ ap (λ (ws : List ℕ). get_or ws at 0) part_words))

        module _ (w : length img < 2 ^ 64) where
          pub place_size : Fits w64 (4 * s)
          place_size = record { fits = omega (arith, within, size_at_lem) }

          pub place_end : Fits w64 (f.start + 4 * at + 4 * s)
          place_end = record { fits = omega (arith, within, size_at_lem) }

        pub place_is : Some (record { start = f.start + 4 * at; end = f.start + 4 * at + 4 * s }) ≡ place_of img k
        unfolding place_of has_record
        place_is =
            let m : k < nodes_in img = omega (arith, nodes_is) in
            let p : f.start + 4 * at ≡ record_at_of img k = omega (arith, start_is, at_is, record_at img passes.0 k m) in
            let o : 4 * s ≡ length (record_of img k) =
            ap (λ (n : ℕ). 4 * n) (size_at_lem ∙ ap (size_at (words_of img)) at_is) ∙ sym (record_length img passes.0 k m) in
            rw (p, o, eq-eqb (refusal_of img) 0 passes.0, lt-ltb k (nodes_in img) m) refl

-- ---- `record_at` and `record`

none_inv : (b : Bool) (x : Range ℕ) → None ≡ cond b (Some x) None → b ≡ false
none_inv true x e = absurd cc
none_inv false x e = refl

some_inv : (b : Bool) (x p : Range ℕ) → Some p ≡ cond b (Some x) None → p ≡ x
some_inv true x p e = cc
some_inv false x p e = absurd cc

module _ (img : List ℕ) (k : ℕ) where
  -- as a part
  abbrev whole : Range ℕ
  whole = record { start = record_at_of img k; end = record_at_of img k + length (record_of img k) }

  pub at_none : None ≡ place_of img k → 0 ≡ record_at_of img k
  unfolding place_of record_at_of
  at_none e = simp (none_inv (has_record img k) whole e)

  pub part_none : None ≡ place_of img k → [] ≡ record_of img k
  unfolding place_of record_of
  part_none e = simp (none_inv (has_record img k) whole e)

  module _ (p : Range ℕ) (e : Some p ≡ place_of img k) where
    bytes : (p.start ≡ record_at_of img k) × (p.end ≡ record_at_of img k + length (record_of img k))
    unfolding place_of
    bytes =
        let z = some_inv (has_record img k) whole p e in
        (ap (λ (q : Range ℕ). q.start) z, ap (λ (q : Range ℕ). q.end) z)

    pub part_at : p.start ≡ record_at_of img k
    part_at = bytes.0

    pub part_inside : p.end ≤ length img
    part_inside = omega (arith, bytes, record_inside img k)

    pub part_order : p.start ≤ p.end
    part_order = omega (arith, bytes)

    pub part_record : take (p.end - p.start) (drop p.start img) ≡ record_of img k
    part_record =
        let z : p.end - p.start ≡ length (record_of img k) = omega (arith, bytes) in
        rw (z, part_at) (sym (record_part img k))
