-- A cycle step by step: what each pass asks follows from what is held, and what they leave together is the model's cycle.
use mathlib.Core.Path.{◌≡◌, refl, sym, ap, subst, ◌∙◌}
use mathlib.Core.Logic.{◌≢◌}
use Prim.Native.Nat.{ℕ, ◌≤◌, ◌<◌}
use native.Mathlib.Omega.{arith}
use mathlib.Core.Bool.{Bool, true, false, ◌||◌}
use mathlib.Core.List.{List}
use lib.ListN.{length}
use lib.Dec.{ltb}
use borrow.Author.Tests.{ne_eqb}
use Rattle.std.specs.Prelude.{Ok, Err}
use Rattle.kinds.specs.Kinds.{kind_of}
use Rattle.laws.specs.Lists.{some_below}
use Rattle.laws.proofs.Bools.{and_left, and_right}
use Rattle.model.specs.Gate.{Gate, Net, fits_code, shaped}
use Rattle.model.specs.Gate as model
use Rattle.model.specs.Evaluate.{evaluate, truths, cycle_refusal}
use Rattle.model.specs.Answers.{Outcome, laid_over, unless}
use Rattle.model.specs.Entries.{evaluated_of, cycle_outcome}
use Rattle.tables.specs.Layout.{kind_at, count_at, ins_at, gate_at, net_of, store}
use Rattle.tables.specs.Holding.{network_of}
use Rattle.tables.specs.Working.{Answered2}
use Rattle.tables.specs.declared.counts.Counts.{Counts}
use Rattle.shape.proofs.Named.{shaped_at}
use Rattle.tables.proofs.Holding.{size_network, gate_network, length_ins_at, length_outputs_of}
use Rattle.signal_values.specs.Signals.{values_base, values_end, dff_at}
use Rattle.cycle_checks.specs.Checks.{inputs_to, above_one, cell_above}
use Rattle.flip_flops.specs.Storing.{Passing}
use Rattle.evaluate.specs.Passes.{forward_to, Putting}
use Rattle.evaluate.specs.Cycle.{shorter, Runs, Ran}
use Rattle.evaluate.proofs.Numbers.{held_few, refusal_short, refusal_above, refusal_none, outs_long, ins_long, st_long}
use Rattle.flip_flops.proofs.States.{three_inputs}
use Rattle.evaluate.proofs.Table.{Valued, valued_none, valued_inputs, valued_nodes, outputs_are, states_are}

-- a network that runs: t₀ is what its values' area is to begin with
module _ (f t₀ : List ℕ) (c : Counts) (r : Runs f t₀ c) where
  pub few_inputs : c.inputs ≤ 1024
  unfolding network_of net_of
  few_inputs = r.held.valid.inputs_few

  pub few_nodes : c.nodes ≤ 512
  few_nodes = held_few f c r.held

  few_outs : c.outs ≤ 64
  unfolding network_of net_of
  few_outs = rw (length_outputs_of f c.outs) at r.held.valid.outs_few

  gate_fits : (v : ℕ) → v < c.nodes → fits_code (kind_at f v) (count_at f v) ≡ true
  unfolding shaped gate_at
  gate_fits v h =
      let a : shaped (model.gate_at (network_of f c) v) ≡ true = shaped_at (network_of f c).nodes r.held.valid.gates_shaped v (rw (size_network f c) h) in
      let b : shaped (gate_at f v) ≡ true = subst (λ (g : Gate). shaped g ≡ true) (gate_network f c v h) a in
      let d : fits_code (kind_at f v) (length (ins_at f v)) ≡ true = and_left _ _ b in
      rw (length_ins_at f v) at d

  pub runs_passing : (t st : List ℕ) → length t ≡ length t₀ → c.nodes ≤ length st → Passing f t st c.nodes
  runs_passing t st e s =
      let u : values_end ≤ length t = rw e r.room in
      record {
        few = few_nodes;
        long = r.held.long;
        room = u;
        gates = λ v h. let l = few_nodes in record { node = omega arith; reads = record { long = r.held.long; room = u; ends = r.held.ends v h }; fits = gate_fits v h };
        states = s;
      }

  pub runs_putting : (t out : List ℕ) → length t ≡ length t₀ → c.outs ≤ length out → Putting f t out c.outs
  runs_putting t out e o = record { few = few_outs; long = r.held.long; room = rw e r.room; outs = o }

  three_at : (v : ℕ) → v < c.nodes → dff_at f v ≡ true → count_at f v ≡ 3
  unfolding dff_at fits_code
  three_at v h d = three_inputs (kind_of (kind_at f v)) (count_at f v) d (and_right (ltb (kind_at f v) 15) _ (gate_fits v h))

  module _ (ins st out : List ℕ) where
    abbrev N : Net
    N = network_of f c

    abbrev outcome : Outcome
    outcome = cycle_outcome N ins st (length out)

    refused : (n : ℕ) → n ≡ cycle_refusal N ins st (length out) → n ≢ 0 → Answered2 outcome out st (Err n) out st
    unfolding cycle_outcome unless
    refused n e d = rw (← e, ne_eqb n 0 d) (record { first = record { answer = refl; result = refl }; second_is = refl })

    module _ (b : Bool) (e : b ≡ shorter c (length ins) (length st) (length out)) where
      pub answered_13 : b ≡ true → Answered2 outcome out st (Err 13) out st
      answered_13 q = refused 13 (refusal_short f c ins st (length out) (sym e ∙ q)) (λ z. omega arith)

      module _ (q : b ≡ false) where
        pub inputs_there : c.inputs ≤ length ins
        inputs_there = ins_long c (length ins) (length st) (length out) (sym e ∙ q)

        pub states_there : c.nodes ≤ length st
        states_there = st_long c (length ins) (length st) (length out) (sym e ∙ q)

        pub outs_there : c.outs ≤ length out
        outs_there = outs_long c (length ins) (length st) (length out) (sym e ∙ q)

        module _ (x y : Bool) (p : x ≡ some_below (above_one ins) c.inputs) (w : y ≡ some_below (cell_above f st) c.nodes) where
          pub answered_14 : (x || y) ≡ true → Answered2 outcome out st (Err 14) out st
          answered_14 a = refused 14 (refusal_above f c ins st (length out) (sym e ∙ q) x y p w a) (λ z. omega arith)

          -- THE CYCLE
          pub answered_0 : (t1 t2 st' out' : List ℕ) → (x || y) ≡ false → t1 ≡ store t₀ values_base 0 0 → t2 ≡ inputs_to ins t1 c.inputs → Ran f t2 c st out st' out'
              → Answered2 outcome out st (Ok 0) out' st'
          unfolding cycle_outcome unless evaluated_of
          answered_0 t1 t2 st' out' a s1 s2 ran =
              let z : 0 ≡ cycle_refusal N ins st (length out) = refusal_none f c ins st (length out) (sym e ∙ q) x y p w a in
              let wired = r.held.valid.signals in
              let v = evaluate N (truths ins) (truths st) in
              let t3 = forward_to f st t2 c.nodes in
              let h1 : Valued t1 0 0 (truths ins) v = rw s1 (valued_none (truths ins) v t₀ r.room) in
              let h2 : Valued t2 c.inputs 0 (truths ins) v = rw s2 (valued_inputs ins t1 v c.inputs few_inputs h1) in
              let h3 : Valued t3 c.inputs c.nodes (truths ins) v = valued_nodes f ins st c few_inputs few_nodes wired r.sorted t2 h2 c.nodes (omega arith) in
              rw (← z)
              (record {
                first = record { answer = refl; result = ran.outputs ∙ ap (λ l. laid_over l out) (outputs_are f ins st c few_inputs few_nodes wired r.sorted t3 h3) };
                second_is = ran.states ∙ ap (λ l. laid_over l st) (states_are f ins st c few_inputs few_nodes wired r.sorted t3 h3 three_at);
              })

pub ruleset steps = (few_inputs, few_nodes, runs_passing, runs_putting, inputs_there, states_there, outs_there, answered_13, answered_14, answered_0)
