-- What the checks of a cycle look for, and the inputs' values put down.
use Rattle.std.specs.Prelude.{ℕ, zero, suc, ◌-◌, Bool, ◌&&◌, List, get_or, ltb}
use Rattle.laws.specs.Bools.{bit}
use Rattle.model.specs.Evaluate.{truths}
use Rattle.tables.specs.Layout.{store}
use Rattle.signal_values.specs.Signals.{values_base, dff_at}

-- the inputs' values put down
unfoldable pub inputs_to : List ℕ → List ℕ → ℕ → List ℕ
inputs_to ins t zero = t
inputs_to ins t (suc k) = store (inputs_to ins t k) values_base (2047 - k) (bit (truths ins k))

abbrev pub above_one : List ℕ → ℕ → Bool
above_one l k = ltb 1 (get_or l k 0)

abbrev pub cell_above : List ℕ → List ℕ → ℕ → Bool
cell_above f st v = dff_at f v && above_one st v
