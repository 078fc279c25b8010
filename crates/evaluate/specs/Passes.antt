-- The passes of a cycle over nodes and outputs.
use Rattle.std.specs.Prelude.{◌≡◌, ℕ, zero, suc, ◌+◌, ◌≤◌, List, length}
use Rattle.laws.specs.Bools.{bit}
use Rattle.tables.specs.Layout.{net_size, output_at, cell, store}
use Rattle.signal_values.specs.Signals.{values_base, values_end, is_odd, value_at}
use Rattle.values.specs.Values.{shown_at}

-- tables with the same values: of each word the lowest bit counts alone
pub record SameValues (t t' : List ℕ) : Type 0 where
  pub same : (k : ℕ) → is_odd (cell t values_base k) ≡ is_odd (cell t' values_base k)

-- the nodes' values put down by the forward pass
unfoldable pub forward_to : List ℕ → List ℕ → List ℕ → ℕ → List ℕ
forward_to f st t zero = t
forward_to f st t (suc v) = store (forward_to f st t v) values_base (v + 1) (bit (shown_at f (forward_to f st t v) st v))

unfoldable pub output_byte : List ℕ → List ℕ → ℕ → ℕ
output_byte f t j = bit (value_at t (output_at f j))

-- what is asked of the areas and the outputs
pub record Putting (f t out : List ℕ) (o : ℕ) : Type 0 where
  pub few : o ≤ 64
  pub long : net_size ≤ length f
  pub room : values_end ≤ length t
  pub outs : o ≤ length out
