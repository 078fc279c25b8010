-- An entry that accepts: what holds of the image where it does, and what it wrote into the lent buffers.
use mathlib.Core.Path.{◌≡◌, refl, sym, ◌∙◌}
use Prim.Native.Nat.{ℕ, suc, ◌≤◌}
use native.Mathlib.Omega.{arith}
use mathlib.Core.Bool.{Bool, true, false, cond, ◌&&◌}
use mathlib.Core.List.{List}
use lib.ListN.{length, take, drop}
use lib.Seq.{take-append_seam}
use lib.Dec.{eqb, leb}
use borrow.Author.Tests.{eqb-true, eq-eqb, ne_eqb, leb-true, le-leb}
use Rattle.model.specs.Answers.{Answer}
use Rattle.std.specs.Prelude.{Ok}
use Rattle.laws.proofs.Bools.{and_left, and_right}
use Rattle.laws.proofs.Choices.{by_bool}
use Rattle.model.specs.Answers.{Outcome, refused, written, evaluated, answer_of, laid_over, areas_short, in_areas, unless, in_room, Kept, Kept2}

-- the outcome answers acceptance, with a length
abbrev pub Answered : Outcome → ℕ → Type 0
Answered o n = answer_of o ≡ Ok n

-- where C holds the outcome is to write this image and this mapping, and it accepts nowhere else
pub record Writes (o : Outcome) (image mapping : List ℕ) (C : Type 0) : Type 0 where
  pub asks : (n : ℕ) → Answered o n → C
  pub gives : C → o ≡ written image mapping

-- ---- down the ladder

never : {X : Type 0} (k n : ℕ) → Answered (refused k) n → X
never k n e = let z : ◌≡◌ {A = ℕ} 0 1 = cc in absurd (omega arith)

module _ (o : Outcome) (image mapping : List ℕ) (C : Type 0) (w : Writes o image mapping C) where
  pub writes_if : (t : Bool) (k : ℕ) → Writes (cond t o (refused k)) image mapping ((t ≡ true) × C)
  writes_if t k = record {
    asks = λ n e. by_bool t (λ p. (p, w.asks n (rw p at e))) (λ p. never k n (rw p at e));
    gives = λ c. rw c.0 (w.gives c.1);
  }

  pub writes_unless : (k : ℕ) → Writes (unless k o) image mapping ((k ≡ 0) × C)
  unfolding unless
  writes_unless k = record {
    asks = λ n e. let p = (writes_if (eqb k 0) k).asks n e in (eqb-true k 0 p.0, p.1);
    gives = λ c. (writes_if (eqb k 0) k).gives (eq-eqb k 0 c.0, c.1);
  }

  pub writes_areas : (a b : List ℕ) → Writes (in_areas a b o) image mapping ((areas_short a b ≡ false) × C)
  unfolding in_areas
  writes_areas a b = record {
    asks = λ n e. by_bool (areas_short a b) (λ p. never 1 n (rw p at e)) (λ p. (p, w.asks n (rw p at e)));
    gives = λ c. rw c.0 (w.gives c.1);
  }

-- two numbers in a row, the first given by a test, are one
pub unless_twice : (t : Bool) (j k : ℕ) (o : Outcome) → unless (cond t (suc j) 0) (unless k o) ≡ unless (cond t (suc j) k) o
unfolding unless
unless_twice true j k o = rw (ne_eqb (suc j) 0 (λ e. omega arith))
unless_twice false j k o = refl

-- in room or not, what accepts accepted before
room_answered : (x y : ℕ) (o : Outcome) (n : ℕ) → Answered (in_room x y o) n → Answered o n
room_answered x y (refused k) n e = e
room_answered x y (written i m) n e = by_bool (leb (length i) x && leb (length m) y) (λ p. rw p at e) (λ p. never 13 n (rw p at e))
room_answered x y (evaluated p s) n e = e

module _ (o : Outcome) (image mapping : List ℕ) (C : Type 0) (w : Writes o image mapping C) (x y : ℕ) where
  fits : Bool
  fits = leb (length image) x && leb (length mapping) y

  pub writes_room : Writes (in_room x y o) image mapping ((length image ≤ x) × (length mapping ≤ y) × C)
  unfolding fits
  writes_room = record {
    asks = λ n e.
        let c = w.asks n (room_answered x y o n e) in
        by_bool fits
        (λ p. (leb-true (length image) x (and_left _ _ p), leb-true (length mapping) y (and_right (leb (length image) x) _ p), c))
        (λ p. never 13 n (rw (w.gives c, p) at e));
    gives = λ c. rw (w.gives c.2, le-leb (length image) x c.0, le-leb (length mapping) y c.1);
  }

pub writes_written : (image mapping : List ℕ) → Writes (written image mapping) image mapping Unit
writes_written image mapping = record { asks = λ n e. tt; gives = λ c. refl }

-- ---- what stands in the buffers

front : (l lent : List ℕ) → take (length l) (laid_over l lent) ≡ l
unfolding laid_over
front l lent = take-append_seam l (drop (length l) lent)

-- of an entry with the outcome o: what held, the length answered, and the front of the buffer lent for the image
pub record Found (C : Type 0) (image : List ℕ) (n : ℕ) (out' : List ℕ) : Type 0 where
  pub held : C
  pub long : n ≡ length image
  pub there : take n out' ≡ image

module _ (o : Outcome) (image mapping : List ℕ) (C : Type 0) (w : Writes o image mapping C) (out a b : List ℕ) (r : Answer) (out' a' b' : List ℕ) where
  pub kept_found : Kept o out a b r out' a' b' → (n : ℕ) → r ≡ Ok n → Found C image n out'
  kept_found k n e =
      let g : Answered o n = sym k.answer ∙ e in
      let c = w.asks n g in
      let is : o ≡ written image mapping = w.gives c in
      let l : n ≡ length image = let q : Ok (length image) ≡ Ok n = rw is at g in cc in
      record { held = c; long = l; there = rw (k.result, is, l) (front image out) }

  -- and the front of the buffer lent for the mapping
  pub kept2_found : (second second' : List ℕ) → Kept2 o out second a b r out' second' a' b' → (n : ℕ) → r ≡ Ok n
      → Found C image n out' × (take (length mapping) second' ≡ mapping)
  kept2_found second second' k n e =
      let f = kept_found k.first n e in
      (f, rw (k.second_is, w.gives f.held) (front mapping second))

-- ---- an entry: 1; the numbers k of the image; the pass's own; 13

pub record Passes (a b : List ℕ) (k : ℕ) (C : Type 0) (image mapping : List ℕ) (room map-room : ℕ) : Type 0 where
  pub areas : areas_short a b ≡ false
  pub source : k ≡ 0
  pub pass : C
  pub image_fits : length image ≤ room
  pub mapping_fits : length mapping ≤ map-room

pub writes_entry : (o : Outcome) (image mapping : List ℕ) (C : Type 0) → Writes o image mapping C → (a b : List ℕ) (k room map-room : ℕ)
    → Writes (in_areas a b (in_room room map-room (unless k o))) image mapping (Passes a b k C image mapping room map-room)
writes_entry o image mapping C w a b k room map-room =
    let v = writes_areas _ image mapping _ (writes_room _ image mapping _ (writes_unless o image mapping C w k) room map-room) a b in
    record {
      asks = λ n e.
          let c = v.asks n e in
          record { areas = c.0; source = c.1.2.0; pass = c.1.2.1; image_fits = c.1.0; mapping_fits = c.1.1 };
      gives = λ p. v.gives (p.areas, (p.image_fits, p.mapping_fits, (p.source, p.pass)));
    }
