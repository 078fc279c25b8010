-- What flip-flops store at the end of a cycle, and what a pass over the nodes asks.
use Rattle.std.specs.Prelude.{ℕ, ◌≤◌, ◌<◌, Bool, cond, List, [], ◌∷◌, length, get_or}
use Rattle.laws.specs.Bools.{bit}
use Rattle.model.specs.Evaluate.{next_state, truths}
use Rattle.tables.specs.Layout.{net_size, first_at}
use Rattle.signal_values.specs.Signals.{values_end, input_value, dff_at, Gated}
use Rattle.signal_values.specs.declared.gate_inputs.Inputs.{Inputs}

-- the flip-flop whose inputs begin at `first`, the same by the inputs themselves, and node v's state byte
unfoldable pub new_state : List ℕ → List ℕ → ℕ → Bool → Bool
new_state f t first q = next_state (input_value f t first 0 ∷ input_value f t first 1 ∷ input_value f t first 2 ∷ []) q

abbrev pub stored : Inputs → Bool → Bool
stored g q = new_state g.from.now g.to.now g.first q

unfoldable pub new_byte : List ℕ → List ℕ → List ℕ → ℕ → ℕ
new_byte f t st v = cond (dff_at f v) (bit (new_state f t (first_at f v) (truths st v))) (get_or st v 0)

-- what is asked of the areas and the state
pub record Passing (f t st : List ℕ) (n : ℕ) : Type 0 where
  pub few : n ≤ 512
  pub long : net_size ≤ length f
  pub room : values_end ≤ length t
  pub gates : (v : ℕ) → v < n → Gated f t v
  pub states : n ≤ length st
