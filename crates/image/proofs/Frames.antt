-- Laws of the frame: one for each answer of `frame_of`.
use mathlib.Core.Path.{◌≡◌}
use mathlib.Core.List.{List}
use mathlib.Core.Bool.{true, false, not, ◌&&◌, and-false}
use Prim.Native.Nat.{ℕ, ◌-◌, ◌%◌, ◌≤◌, ◌<◌}
use lib.ListN.{length}
use lib.Dec.{eqb, leb}
use borrow.Author.Tests.{le-leb, leb-true, lt-leb, not-false, not-true}
use Rattle.laws.proofs.Bools.{and_right}
use Rattle.model.specs.Image.{inputs_in, nodes_in, outs_in, span_in, framed, within}
use Rattle.image.specs.Reader.{frame_number, frame_of}
use Rattle.image.specs.declared.Frame.{Frame}
use Rattle.refusals.specs.Numbers.{unless}
use Rattle.std.specs.Prelude.{Result, Ok, Err}

-- refused with a number, or the frame
abbrev answer : List ℕ → Result Frame ℕ
answer img = unless (frame_number img) (frame_of img)

pub frame_short : (img : List ℕ) → length img < 16 → Err 2 ≡ answer img
unfolding frame_number framed
frame_short img l = simp (lt-leb 16 (length img) l)

-- the span, as it was read
module _ (img : List ℕ) (d : ℕ) (e : d ≡ span_in img) where
  pub frame_off : not (leb 16 d && (eqb (d % 4) 0 && leb d (length img))) ≡ true → Err 2 ≡ answer img
  unfolding frame_number framed
  frame_off h = simp (← e, not-true (leb 16 d && (eqb (d % 4) 0 && leb d (length img))) h, and-false)

  module _ (h : not (leb 16 d && (eqb (d % 4) 0 && leb d (length img))) ≡ false) where
    test : (leb 16 d && (eqb (d % 4) 0 && leb d (length img))) ≡ true
    test = not-false (leb 16 d && (eqb (d % 4) 0 && leb d (length img))) h

    pub frame_start : d ≤ length img
    frame_start =
        leb-true d (length img)
        (and_right (eqb (d % 4) 0) (leb d (length img)) (and_right (leb 16 d) (eqb (d % 4) 0 && leb d (length img)) test))

    module _ (l : 16 ≤ length img) (i n o : ℕ) (ei : i ≡ inputs_in img) (en : n ≡ nodes_in img) (eo : o ≡ outs_in img) where
      framed_yes : framed img ≡ true
      unfolding framed
      framed_yes = simp (← e, le-leb 16 (length img) l, test)

      pub frame_over : not (leb i 1024 && (leb n 512 && leb o 64)) ≡ true → Err 3 ≡ answer img
      unfolding frame_number within
      frame_over q = simp (framed_yes, ← ei, ← en, ← eo, not-true (leb i 1024 && (leb n 512 && leb o 64)) q)

      pub frame_yes : not (leb i 1024 && (leb n 512 && leb o 64)) ≡ false
          → Ok (record { start = length img - d; inputs = i; nodes = n; outs = o }) ≡ answer img
      unfolding frame_number within frame_of
      frame_yes q = simp (framed_yes, not-false (leb i 1024 && (leb n 512 && leb o 64)) q, ← e, ← ei, ← en, ← eo)

pub ruleset frames = (frame_short, frame_off, frame_start, frame_over, frame_yes)
