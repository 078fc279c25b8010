-- A table of uses: a word for each signal that may be named, 0, 1, or 2 for more.
use Rattle.std.specs.Prelude.{ℕ, ◌+◌, ◌-◌, ◌<◌, ◌≤◌, ◌⊎◌, Bool, cond, not, List, [], ◌∷◌, eqb, ltb}
use Rattle.pairs.specs.Lists.{put_used, used_at}

-- nodes in front, then inputs
unfoldable pub use_ix : ℕ → ℕ
use_ix s = cond (ltb s 2147483648) s (1026 + (4294967295 - s))

-- the words of the table
abbrev pub use_room : ℕ
use_room = 3074

-- the signals of 512 nodes and 1,024 inputs
abbrev pub Named : ℕ → Type 0
Named s = (s < 1026) ⊎ ((4294965248 ≤ s) × (s < 4294967296))

unfoldable pub use_at : List ℕ → ℕ → ℕ
use_at l s = used_at l (use_ix s)

-- one more use
unfoldable pub bump : List ℕ → ℕ → List ℕ
bump l s = cond (ltb (use_at l s) 2) (put_used l (use_ix s) (use_at l s + 1)) l

unfoldable pub tally : List ℕ → List ℕ → List ℕ
tally l [] = l
tally l (x ∷ m) = tally (bump l x) m

unfoldable pub tally_all : List ℕ → List (List ℕ) → List ℕ
tally_all l [] = l
tally_all l (m ∷ gs) = tally_all (tally l m) gs

unfoldable pub is_once : List ℕ → ℕ → Bool
is_once l s = eqb (use_at l s) 1

-- those used once, or the others
unfoldable pub wanted : List ℕ → Bool → ℕ → Bool
wanted l o x = cond o (is_once l x) (not (is_once l x))
