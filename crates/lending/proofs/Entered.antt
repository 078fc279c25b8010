-- An entry's promise, from what `lend` ensures and what its work answered.
use mathlib.Core.Path.{◌≡◌, refl}
use mathlib.Core.Bool.{true, false}
use mathlib.Core.List.{List, ◌++◌}
use Prim.Native.Nat.{ℕ, ◌≤◌}
use lib.ListN.{length, take, drop}
use Rattle.std.proofs.lemmas.List.{take-append-drop}
use Rattle.laws.proofs.Choices.{by_bool}
use Rattle.std.specs.Prelude.{Result, Err}
use Rattle.refusals.specs.Numbers.{numbered}
use Rattle.refusals.specs.declared.Refusal.{Refusal}
use Rattle.refusals.specs.declared.Refusal.TheVariants as refusal
use Rattle.model.specs.Answers.{Outcome, areas_short, in_areas, Kept, Kept2}
use Rattle.tables.specs.Working.{Areas, Cleared, Answered, Answered2}
use Rattle.tables.proofs.Entering.{short_kept, kept_both, part_long, long_a, long_b}
use Rattle.lending.specs.Lending.{Untouched}

-- where neither area is short, the part that is lent of each is long
module _ (a b : List ℕ) (h : areas_short a b ≡ false) where
  pub lent_a : (p : List ℕ) → p ≡ take 16384 a → 16384 ≤ length p
  lent_a p q = rw q (part_long a (long_a a b _ refl h))

  pub lent_b : (p : List ℕ) → p ≡ take 16384 b → 16384 ≤ length p
  lent_b p q = rw q (part_long b (long_b a b _ refl h))

  pub lent_areas : (p q : List ℕ) → p ≡ take 16384 a → q ≡ take 16384 b → Areas p q
  lent_areas p q i j = record { long_a = lent_a p i; long_b = lent_b q j }

-- an area is its part and the rest of it
whole : (a b a' b' : List ℕ) → Cleared a b a' b' → Cleared (take 16384 a ++ drop 16384 a) (take 16384 b ++ drop 16384 b) a' b'
whole a b a' b' C = rw (take-append-drop 16384 a, take-append-drop 16384 b) C

module _ (o : Outcome) (out a b : List ℕ) (r : Result ℕ Refusal) (out' a' b' : List ℕ) where
  module _ {T : Type 0} (s s' : List T) (short : areas_short a b ≡ true → (r ≡ Err refusal.Areas) × Untouched out s a b out' s' a' b')
      (gives : areas_short a b ≡ false → Answered o out (numbered r) out') (clear : areas_short a b ≡ false → Cleared a b a' b') where
    pub entered : Kept (in_areas a b o) out a b (numbered r) out' a' b'
    entered =
        by_bool (areas_short a b)
        (λ h. let u = short h in rw (u.0, u.1.result, u.1.area_a, u.1.area_b) (short_kept a b _ refl h o out))
        (λ h. kept_both a b _ refl h (take 16384 a) refl (take 16384 b) refl a' b' (whole a b a' b' (clear h)) o out (numbered r) out' (gives h))

  module _ (s s' : List ℕ) (short : areas_short a b ≡ true → (r ≡ Err refusal.Areas) × Untouched out s a b out' s' a' b')
      (gives : areas_short a b ≡ false → Answered2 o out s (numbered r) out' s') (clear : areas_short a b ≡ false → Cleared a b a' b') where
    pub entered2 : Kept2 (in_areas a b o) out s a b (numbered r) out' s' a' b'
    unfolding in_areas
    entered2 = record {
      first = entered s s' short (λ h. (gives h).first) clear;
      second_is = by_bool (areas_short a b) (λ h. rw h (short h).1.second_is) (λ h. rw h (gives h).second_is);
    }
