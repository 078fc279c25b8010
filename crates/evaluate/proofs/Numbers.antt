-- 13, 14 or 0: the tests of the code are the model's, of the network that the words hold.
use mathlib.Core.Path.{◌≡◌, ap}
use Prim.Native.Nat.{ℕ, ◌≤◌, ◌<◌}
use mathlib.Core.Bool.{Bool, true, false, ◌&&◌, ◌||◌}
use mathlib.Core.List.{List}
use lib.ListN.{length, get_or}
use lib.Dec.{ltb}
use borrow.Author.Tests.{ltb-false}
use Rattle.laws.specs.Lists.{some_below}
use Rattle.laws.proofs.Bools.{or_left, or_right}
use Rattle.laws.proofs.Lists.{some_ext}
use Rattle.model.specs.Gate.{Gate, is_dff}
use Rattle.model.specs.Gate as model
use Rattle.model.specs.Evaluate.{cycle_short, input_above, state_above, cycle_refusal}
use Rattle.tables.specs.Layout.{gate_at, net_of}
use Rattle.tables.specs.Holding.{network_of, Held}
use Rattle.tables.specs.declared.counts.Counts.{Counts}
use Rattle.tables.proofs.Holding.{size_network, gate_network, length_outputs_of}
use Rattle.signal_values.specs.Signals.{dff_at}
use Rattle.cycle_checks.specs.Checks.{above_one, cell_above}
use Rattle.evaluate.specs.Cycle.{shorter}

pub dff_is : (f : List ℕ) (c : Counts) (v : ℕ) → v < c.nodes → is_dff (model.gate_at (network_of f c) v) ≡ dff_at f v
unfolding dff_at gate_at
dff_is f c v h = ap (λ (g : Gate). is_dff g) (gate_network f c v h)

pub held_few : (f : List ℕ) (c : Counts) → Held f c → c.nodes ≤ 512
held_few f c h = rw (size_network f c) at h.valid.nodes_few

module _ (f : List ℕ) (c : Counts) (ins st : List ℕ) (room : ℕ) where
  abbrev short : Bool
  short = shorter c (length ins) (length st) room

  short_is : cycle_short (network_of f c) (length ins) (length st) room ≡ short
  unfolding cycle_short network_of net_of
  short_is = rw (length_outputs_of f c.outs, size_network f c)

  above_is : (input_above (network_of f c) ins || state_above (network_of f c) st) ≡ (some_below (above_one ins) c.inputs || some_below (cell_above f st) c.nodes)
  unfolding input_above state_above network_of net_of
  above_is =
      ap (λ (b : Bool). some_below (above_one ins) c.inputs || b)
      (rw (size_network f c) (some_ext _ (cell_above f st) c.nodes (λ v h. ap (λ (b : Bool). b && ltb 1 (get_or st v 0)) (dff_is f c v h))))

  pub refusal_short : short ≡ true → 13 ≡ cycle_refusal (network_of f c) ins st room
  unfolding cycle_refusal
  refusal_short e = rw (short_is, e)

  module _ (s : short ≡ false) (p q : Bool) (a : p ≡ some_below (above_one ins) c.inputs) (b : q ≡ some_below (cell_above f st) c.nodes) where
    pub refusal_above : (p || q) ≡ true → 14 ≡ cycle_refusal (network_of f c) ins st room
    unfolding cycle_refusal
    refusal_above e = rw (short_is, s, above_is, ← a, ← b, e)

    pub refusal_none : (p || q) ≡ false → 0 ≡ cycle_refusal (network_of f c) ins st room
    unfolding cycle_refusal
    refusal_none e = rw (short_is, s, above_is, ← a, ← b, e)

-- ---- buffers that are long enough

module _ (c : Counts) (i n o : ℕ) (s : shorter c i n o ≡ false) where
  pub outs_long : c.outs ≤ o
  outs_long = ltb-false o c.outs (or_left _ _ (or_left _ _ s))

  pub ins_long : c.inputs ≤ i
  ins_long = ltb-false i c.inputs (or_right (ltb o c.outs) _ (or_left _ _ s))

  pub st_long : c.nodes ≤ n
  st_long = ltb-false n c.nodes (or_right (ltb o c.outs || ltb i c.inputs) _ s)
