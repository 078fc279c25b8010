-- Lists: a claim of every element, no repeats, a list by a function, a test of some number, a part of a list.
use Rattle.std.specs.Prelude.{◌≢◌, ℕ, zero, suc, Bool, false, ◌||◌, List, [], ◌∷◌, ◌++◌, take, drop}

-- P holds of each element
abbrev pub All {ℓ} : {A : Type 0} → (A → Type ℓ) → List A → Type ℓ
All P [] = Unit
All P (x ∷ xs) = P x × All P xs

-- x is not in l, and no element of l is there twice
abbrev pub Fresh : ℕ → List ℕ → Type 0
Fresh x l = All (λ y. y ≢ x) l

abbrev pub Distinct : List ℕ → Type 0
Distinct [] = Unit
Distinct (x ∷ xs) = Fresh x xs × Distinct xs

-- f 0, f 1, .. f (n - 1)
unfoldable pub tab : {A : Type 0} → (ℕ → A) → ℕ → List A
tab f zero = []
tab f (suc n) = tab f n ++ (f n ∷ [])

-- f holds of one of 0 .. n - 1
unfoldable pub some_below : (ℕ → Bool) → ℕ → Bool
some_below f zero = false
some_below f (suc n) = some_below f n || f n

-- elements i to n
unfoldable pub part : List ℕ → ℕ → ℕ → List ℕ
part l i n = drop i (take n l)
