-- What a gate's inputs show.
use Rattle.std.specs.Prelude.{◌≡◌, ℕ, Bool, List}
use Rattle.tables.specs.Layout.{first_at, count_at}
use Rattle.signal_values.specs.Signals.{input_value}
use Rattle.signal_values.specs.declared.gate_inputs.Inputs.{Inputs}

-- the j-th one's value
abbrev pub input_of : Inputs → ℕ → Bool
input_of g = input_value g.from.now g.to.now g.first

-- they are those of node v
pub record InputsOf (f t : List ℕ) (v : ℕ) (g : Inputs) : Type 0 where
  pub net : g.from.now ≡ f
  pub values : g.to.now ≡ t
  pub start : g.first ≡ first_at f v
  pub number : g.count ≡ count_at f v
