-- What it says that a signal is named: it is a word, and its index names something.
use mathlib.Core.Path.{◌≡◌, sym, ap₂, ◌∙◌}
use Prim.Native.Nat.{ℕ, zero, suc, ◌/◌, ◌<◌}
use native.Mathlib.Omega.{arith}
use native.Mathlib.Decide.{dec_lt}
use mathlib.Core.Bool.{Bool, true, ◌&&◌}
use mathlib.Core.List.{List, [], ◌∷◌}
use lib.Dec.{ltb}
use borrow.Author.Tests.{ltb-true, lt-ltb, le-ltb}
use Rattle.laws.proofs.Bools.{and_left, and_right, and_both}
use Rattle.model.specs.Signal.{flip, ref}
use Rattle.model.specs.Gate.{named, named_ref, all_named}
use Rattle.model.specs.Image.{Words32}
use Rattle.model.proofs.Words.{flip_ind, flip_ref}

module _ (i n s : ℕ) where
  pub named_word : named i n s ≡ true → s < 4294967296
  unfolding named
  named_word e = ltb-true s 4294967296 (and_left (ltb s 4294967296) (named_ref i n (ref s)) e)

  pub named_ref_lem : named i n s ≡ true → named_ref i n (ref s) ≡ true
  unfolding named
  named_ref_lem e = and_right (ltb s 4294967296) (named_ref i n (ref s)) e

  pub named_of : s < 4294967296 → named_ref i n (ref s) ≡ true → named i n s ≡ true
  unfolding named
  named_of l e = and_both (ltb s 4294967296) (named_ref i n (ref s)) (lt-ltb s 4294967296 l) e

  -- a word names something where its index does
  pub named_is : s < 4294967296 → named i n s ≡ named_ref i n (ref s)
  unfolding named
  named_is l = rw (lt-ltb s 4294967296 l)

-- inverted or not
pub flip_word : (s : ℕ) (b : Bool) → ltb (flip s b) 4294967296 ≡ ltb s 4294967296
flip_word s b =
    let e : flip s b / 2 ≡ s / 2 = flip_ind s b in
    elim (dec_lt s 4294967296) [
      | yes l ↦ lt-ltb (flip s b) 4294967296 (omega arith) ∙ sym (lt-ltb s 4294967296 l)
      | no l ↦ le-ltb (flip s b) 4294967296 (omega arith) ∙ sym (le-ltb s 4294967296 (omega arith))
    ]

pub named_flip : (i n s : ℕ) (b : Bool) → named i n (flip s b) ≡ named i n s
unfolding named
named_flip i n s b = ap₂ {C = Bool} (λ x y. x && named_ref i n y) (flip_word s b) (flip_ref s b)

pub named_words : (i n : ℕ) (l : List ℕ) → all_named i n l ≡ true → Words32 l
unfolding all_named
named_words i n [] e k = omega arith
named_words i n (s ∷ l) e zero = named_word i n s (and_left (named i n s) (all_named i n l) e)
named_words i n (s ∷ l) e (suc k) = named_words i n l (and_right (named i n s) (all_named i n l) e) k
