-- A Lut's value, by the bit of its table whose number its inputs make.
use Rattle.std.specs.Prelude.{ℕ, ◌+◌, ◌-◌, ◌*◌, ◌/◌, ◌^◌, Bool, List}
use Rattle.laws.specs.Lists.{tab}
use Rattle.model.specs.Evaluate.{weight}
use Rattle.tables.specs.Layout.{low_at, high_at}
use Rattle.signal_values.specs.Signals.{is_odd, input_value}
use Rattle.signal_values.specs.declared.gate_inputs.Inputs.{Inputs}

unfoldable pub lut_value : List ℕ → List ℕ → ℕ → ℕ → ℕ → Bool
lut_value f t v first count = is_odd ((low_at f v + 2 ^ 32 * high_at f v) / 2 ^ weight (tab (input_value f t first) count))

-- the same by the inputs themselves
abbrev pub lut_of : Inputs → ℕ → Bool
lut_of g v = lut_value g.from.now g.to.now v g.first g.count
