-- One cycle: what it asks, and what it leaves.
use Rattle.std.specs.Prelude.{◌≡◌, ℕ, ◌≤◌, Bool, true, ◌||◌, List, length, ltb}
use Rattle.laws.specs.Lists.{tab}
use Rattle.model.specs.Gate.{is_topo_sorted}
use Rattle.model.specs.Answers.{laid_over}
use Rattle.tables.specs.Holding.{network_of, Held}
use Rattle.tables.specs.declared.counts.Counts.{Counts}
use Rattle.signal_values.specs.Signals.{values_end}
use Rattle.flip_flops.specs.Storing.{new_byte}
use Rattle.evaluate.specs.Passes.{forward_to, output_byte}

-- of the lengths lent for inputs, state and outputs, one is too short
abbrev pub shorter : Counts → ℕ → ℕ → ℕ → Bool
shorter c inputs state outputs = ltb outputs c.outs || ltb inputs c.inputs || ltb state c.nodes

-- a sorted network in f, and room for its values in t
pub record Runs (f t : List ℕ) (c : Counts) : Type 0 where
  pub held : Held f c
  pub sorted : is_topo_sorted (network_of f c) ≡ true
  pub room : values_end ≤ length t

-- the buffers afterwards (primed), by the values that the forward pass makes of t
pub record Ran (f t : List ℕ) (c : Counts) (st out st' out' : List ℕ) : Type 0 where
  pub outputs : out' ≡ laid_over (tab (output_byte f (forward_to f st t c.nodes)) c.outs) out
  pub states : st' ≡ laid_over (tab (new_byte f (forward_to f st t c.nodes) st) c.nodes) st
