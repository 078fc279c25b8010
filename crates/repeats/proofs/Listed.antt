-- The turns of the two loops over a gate's signals, with premises as the code meets them.
use Prim.Native.Nat.{suc, ℕ, ◌+◌, ◌<◌, ◌≤◌}
use mathlib.Core.Path.{refl, sym, ◌∙◌, ◌≡◌}
use mathlib.Core.Logic.{◌≢◌}
use mathlib.Core.Bool.{Bool, false, true}
use mathlib.Core.List.{List}
use native.Mathlib.Omega.{arith}
use native.Mathlib.Numerals.{add-one}
use lib.ListN.{drop, drop_of_length-le, get_or, length}
use lib.Seq.{drop-cons}
use borrow.Author.Tests.{eq-eqb, ne_eqb}
use Rattle.model.specs.Network.{has}
use Rattle.model.specs.Sharing.{repeats}
use Rattle.tables.specs.Layout.{count_at, first_at, input_at, ins_at}
use Rattle.tables.proofs.Holding.{get_or_ins_at, length_ins_at}

-- x among the signals from place j on; a repeat among those from place i on
unfoldable pub has_from : List ℕ → ℕ → ℕ → Bool
has_from l x j = has x (drop j l)

unfoldable pub repeats_from : List ℕ → ℕ → Bool
repeats_from l i = repeats (drop i l)

module _ (l : List ℕ) where
  has_end : (x j : ℕ) → length l ≤ j → has_from l x j ≡ false
  unfolding has_from
  has_end x j h = simp (drop_of_length-le l h)

  has_here : (x j : ℕ) → j < length l → get_or l j 0 ≡ x → has_from l x j ≡ true
  unfolding has_from
  has_here x j h e = simp (drop-cons l j 0 h, eq-eqb (get_or l j 0) x e)

  has_next : (x j : ℕ) → j < length l → get_or l j 0 ≢ x → has_from l x j ≡ has_from l x (j + 1)
  unfolding has_from
  has_next x j h e = simp (drop-cons l j 0 h, ne_eqb (get_or l j 0) x e, add-one)

  repeats_all : repeats l ≡ repeats_from l 0
  unfolding repeats_from
  repeats_all = refl

  repeats_end : (i : ℕ) → length l ≤ i → repeats_from l i ≡ false
  unfolding repeats_from repeats
  repeats_end i h = simp (drop_of_length-le l h)

  repeats_here : (i : ℕ) → i < length l → has_from l (get_or l i 0) (i + 1) ≡ true → repeats_from l i ≡ true
  unfolding repeats_from repeats has_from
  repeats_here i h e = let q : has (get_or l i 0) (drop (suc i) l) ≡ true = rw add-one at e in simp (drop-cons l i 0 h, q)

  repeats_next : (i : ℕ) → i < length l → has_from l (get_or l i 0) (i + 1) ≡ false → repeats_from l i ≡ repeats_from l (i + 1)
  unfolding repeats_from repeats has_from
  repeats_next i h e = let q : has (get_or l i 0) (drop (suc i) l) ≡ false = rw add-one at e in simp (drop-cons l i 0 h, q, add-one)

-- ---- the loops

-- none found among the signals before place i; and none like that of place i, which is x, before place j
pub record Outer (l : List ℕ) (v n i : ℕ) (found : Bool) : Type 0 where
  pub rest : repeats (ins_at l v) ≡ repeats_from (ins_at l v) i
  pub le : i ≤ n
  pub none : found ≡ false

pub record Inner (l : List ℕ) (v n i x j : ℕ) (found : Bool) : Type 0 where
  pub rest : has_from (ins_at l v) x (i + 1) ≡ has_from (ins_at l v) x j
  pub le : j ≤ n
  pub none : found ≡ false

pub outer_start : (l : List ℕ) (v n : ℕ) → Outer l v n 0 false
outer_start l v n = record { rest = repeats_all (ins_at l v); le = omega arith; none = refl }

pub inner_start : (l : List ℕ) (v n i x : ℕ) (found : Bool) → Outer l v n i found → i < n → Inner l v n i x (i + 1) found
inner_start l v n i x found o h = record { rest = refl; le = omega arith; none = o.none }

module _ (l : List ℕ) (v f n : ℕ) (ef : f ≡ first_at l v) (en : n ≡ count_at l v) where
  -- the signal at place j, as the code reads it
  signal_is : (j y : ℕ) → j < n → y ≡ input_at l (f + j) → get_or (ins_at l v) j 0 ≡ y
  signal_is j y h e = let q : j < count_at l v = omega arith in get_or_ins_at l v j q ∙ sym (rw ef at e)

  pub inner_next : (i x j : ℕ) (found : Bool) → Inner l v n i x j found → j < n → (y : ℕ) → y ≡ input_at l (f + j) → y ≢ x → Inner l v n i x (j + 1) found
  inner_next i x j found k h y e d = record {
    rest = k.rest ∙ has_next (ins_at l v) x j (omega (arith, length_ins_at l v)) (λ q. d (sym (signal_is j y h e) ∙ q));
    le = omega arith;
    none = k.none;
  }

  module _ (i : ℕ) (found : Bool) (o : Outer l v n i found) where
    pub none_listed : n ≤ i → found ≡ repeats (ins_at l v)
    none_listed h = o.none ∙ sym (o.rest ∙ repeats_end (ins_at l v) i (omega (arith, length_ins_at l v)))

    module _ (h : i < n) (x : ℕ) (ex : x ≡ input_at l (f + i)) where
      pub outer_next : (j : ℕ) (found' : Bool) → Inner l v n i x j found' → n ≤ j → Outer l v n (i + 1) found'
      outer_next j found' k q =
          let e : has_from (ins_at l v) x (i + 1) ≡ false = k.rest ∙ has_end (ins_at l v) x j (omega (arith, length_ins_at l v)) in
          record {
            rest = o.rest ∙ repeats_next (ins_at l v) i (omega (arith, length_ins_at l v)) (rw (signal_is i x h ex) e);
            le = omega arith;
            none = k.none;
          }

      pub twice_listed : (j : ℕ) (found' : Bool) → Inner l v n i x j found' → j < n → (y : ℕ) → y ≡ input_at l (f + j) → y ≡ x → true ≡ repeats (ins_at l v)
      twice_listed j found' k q y ey e =
          let a : has_from (ins_at l v) x (i + 1) ≡ true = k.rest ∙ has_here (ins_at l v) x j (omega (arith, length_ins_at l v)) (signal_is j y q ey ∙ e) in
          sym (o.rest ∙ repeats_here (ins_at l v) i (omega (arith, length_ins_at l v)) (rw (signal_is i x h ex) a))

pub ruleset listed = (outer_start, inner_start, inner_next, none_listed, outer_next, twice_listed)
