-- The gates that words hold, by their readings. Knows no place of a word.
use Prim.Native.Nat.{ℕ, ◌+◌, ◌<◌}
use mathlib.Core.Path.{◌≡◌, sym, ap, ◌∙◌}
use mathlib.Core.List.{List}
use Rattle.model.specs.Gate.{map_gate}
use Rattle.shape.proofs.Written.{gate_eq}
use Rattle.laws.specs.Lists.{tab}
use Rattle.laws.proofs.Tabs.{tab_ext, map_tab}
use Rattle.tables.specs.Layout.{kind_at, first_at, count_at, input_at, low_at, high_at, ins_at, gate_at}

-- node w of l is node v of m with its inputs put through t, where each word is
pub gate_at_by : (t : ℕ → ℕ) (l m : List ℕ) (w v : ℕ) → kind_at l w ≡ kind_at m v → count_at l w ≡ count_at m v
    → ((j : ℕ) → j < count_at m v → input_at l (first_at l w + j) ≡ t (input_at m (first_at m v + j)))
    → low_at l w ≡ low_at m v → high_at l w ≡ high_at m v → gate_at l w ≡ map_gate t (gate_at m v)
unfolding gate_at ins_at
gate_at_by t l m w v k c i lo hi =
    gate_eq k
    (ap (λ n. tab (λ j. input_at l (first_at l w + j)) n) c ∙ tab_ext _ _ (count_at m v) i ∙ sym (map_tab t _ (count_at m v)))
    (rw (lo, hi))

-- the same with no translation
pub gate_at_same : (l m : List ℕ) (w v : ℕ) → kind_at l w ≡ kind_at m v → count_at l w ≡ count_at m v
    → ((j : ℕ) → j < count_at m v → input_at l (first_at l w + j) ≡ input_at m (first_at m v + j))
    → low_at l w ≡ low_at m v → high_at l w ≡ high_at m v → gate_at l w ≡ gate_at m v
unfolding gate_at ins_at
gate_at_same l m w v k c i lo hi =
    gate_eq k
    (ap (λ n. tab (λ j. input_at l (first_at l w + j)) n) c ∙ tab_ext _ _ (count_at m v) i)
    (rw (lo, hi))
