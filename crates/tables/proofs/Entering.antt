-- The outside of every entry: 1, or its work over the first 16,384 words of both areas, which are then cleared.
-- The premises are what an entry's code meets: `areas_short`, the work's promise on the parts, and `clear_areas`'s.
use mathlib.Core.Path.{◌≡◌, sym, ap, ◌∙◌}
use mathlib.Core.Bool.{Bool, true, false}
use mathlib.Core.List.{List, ◌++◌}
use Prim.Native.Nat.{ℕ, ◌≤◌}
use native.Mathlib.Omega.{arith}
use lib.ListN.{length, take, drop, replicate}
use lib.Seq.{drop_at, length-take-le, length_front}
use lib.Dec.{ltb}
use borrow.Author.Tests.{ltb-false}
use Rattle.model.specs.Answers.{Answer}
use Rattle.std.specs.Prelude.{Err}
use Rattle.laws.proofs.Bools.{or_left, or_right}
use Rattle.model.specs.Answers.{Outcome, areas_short, cleared, area_after, in_areas, Kept}
use Rattle.tables.specs.Working.{Areas, Cleared, Answered}

-- ---- what `areas_short` found

module _ (a b : List ℕ) (t : Bool) (e : t ≡ areas_short a b) where
  module _ (s : t ≡ true) (o : Outcome) (out : List ℕ) where
    pub short_kept : Kept (in_areas a b o) out a b (Err 1) out a b
    unfolding in_areas area_after
    short_kept = let z : areas_short a b ≡ true = sym e ∙ s in record { answer = rw z; result = rw z; area_a = rw z; area_b = rw z }

  module _ (s : t ≡ false) where
    long : areas_short a b ≡ false
    long = sym e ∙ s

    pub long_a : 16384 ≤ length a
    unfolding areas_short
    long_a = ltb-false (length a) 16384 (or_left (ltb (length a) 16384) (ltb (length b) 16384) long)

    pub long_b : 16384 ≤ length b
    unfolding areas_short
    long_b = ltb-false (length b) 16384 (or_right (ltb (length a) 16384) (ltb (length b) 16384) long)

    done : (a' b' : List ℕ) → Cleared a b a' b' → (o : Outcome) (out : List ℕ) (r : Answer) (out' : List ℕ) → Answered o out r out'
        → Kept (in_areas a b o) out a b r out' a' b'
    unfolding in_areas area_after
    done a' b' C o out r out' D = record { answer = rw long D.answer; result = rw long D.result; area_a = rw long C.area_a; area_b = rw long C.area_b }

-- ---- the part of an area that is lent, and comes back as x

pub part_long : (l : List ℕ) → 16384 ≤ length l → 16384 ≤ length (take 16384 l)
part_long l h = rw (length-take-le 16384 l h) (omega arith)

module _ (x l : List ℕ) (k : length x ≡ length (take 16384 l)) where
  long_back : 16384 ≤ length l → 16384 ≤ length (x ++ drop 16384 l)
  long_back h = rw (length_front l x 16384 k) h

  cleared_back : 16384 ≤ length l → cleared (x ++ drop 16384 l) ≡ cleared l
  unfolding cleared
  cleared_back h = ap (λ (y : List ℕ). replicate 16384 0 ++ y) (drop_at x (drop 16384 l) 16384 (k ∙ length-take-le 16384 l h))

-- ---- the areas when the work is done: what `clear_areas` asks, and the entry's promise

module _ (a b : List ℕ) (t : Bool) (e : t ≡ areas_short a b) (s : t ≡ false) (x : List ℕ) (k : length x ≡ length (take 16384 a)) where
  module _ (y : List ℕ) (m : length y ≡ length (take 16384 b)) where
    pub areas_both : Areas (x ++ drop 16384 a) (y ++ drop 16384 b)
    areas_both = record { long_a = long_back x a k (long_a a b t e s); long_b = long_back y b m (long_b a b t e s) }

    module _ (a' b' : List ℕ) (C : Cleared (x ++ drop 16384 a) (y ++ drop 16384 b) a' b') where
      pub both : Cleared a b a' b'
      both = record { area_a = C.area_a ∙ cleared_back x a k (long_a a b t e s); area_b = C.area_b ∙ cleared_back y b m (long_b a b t e s) }

      pub kept_both : (o : Outcome) (out : List ℕ) (r : Answer) (out' : List ℕ) → Answered o out r out' → Kept (in_areas a b o) out a b r out' a' b'
      kept_both = done a b t e s a' b' both
