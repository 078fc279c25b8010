-- The search for the best pair.
use Rattle.std.specs.Prelude.{suc, ℕ, cond, List, drop, get_or, eqb, Option, Some, None}
use Rattle.model.specs.Sharing.{Top, consider, make_pair, top_with}

-- the pair of a and b, smaller word first or not
unfoldable pub considered : List (List ℕ) → Top → ℕ → ℕ → Top
considered gs t a b = consider gs t (record { fst = a; snd = b })

unfoldable pub with_top : List (List ℕ) → Top → ℕ → ℕ → Top
with_top gs t a b = consider gs t (make_pair a b)

-- the pairs of signal j of a list with those behind it
unfoldable pub in_top : List (List ℕ) → Top → List ℕ → ℕ → Top
in_top gs t l j = top_with gs t (get_or l j 0) (drop (suc j) l)

-- the answer of find_best_pair
unfoldable pub best_of : Top → Option (ℕ × ℕ)
best_of t = cond (eqb t.count 0) None (Some (t.a, t.b))
