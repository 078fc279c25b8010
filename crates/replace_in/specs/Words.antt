-- What replacing a pair in one gate leaves in the words.
use Rattle.std.specs.Prelude.{ℕ, cond, List, [], ◌++◌, ◌∷◌}
use Rattle.model.specs.Sharing.{holds, take_out}
use Rattle.pairs.specs.Lists.{list_at, set_list}

-- signal s, unless it is p or q
unfoldable pub kept_one : ℕ → ℕ → ℕ → List ℕ
kept_one p q s = take_out p q (s ∷ [])

unfoldable pub replaced_in : List ℕ → ℕ → ℕ → ℕ → ℕ → List ℕ
replaced_in l i p q z = cond (holds p q (list_at l i)) (set_list l i (take_out p q (list_at l i) ++ (z ∷ []))) l
