-- A list that lies at the front of lent words, and neighbours in it.
use Rattle.std.specs.Prelude.{◌≡◌, ℕ, ◌≤◌, Bool, false, cond, List, [], ◌∷◌, length, take, eqb}
use Rattle.model.specs.Normal.{uniq, cancel}

-- whether the first two are equal
unfoldable pub twins : List ℕ → Bool
twins [] = false
twins (x ∷ []) = false
twins (x ∷ y ∷ l) = eqb x y

-- of equal neighbours, g gone: one of them, or both
unfoldable pub fewer : ℕ → List ℕ → List ℕ
fewer g l = cond (eqb g 1) (uniq l) (cancel l)

-- the first r words are m
pub record Front (m l : List ℕ) (r : ℕ) : Type 0 where
  pub front : take r l ≡ m
  pub count : r ≤ length l
