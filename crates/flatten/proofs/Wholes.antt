-- Laws of the whole flattened network: node after node, then the outputs.
use Prim.Native.Nat.{suc, zero, ℕ, ◌+◌, ◌<◌, ◌≤◌}
use mathlib.Core.Path.{ap, refl, subst, sym, ◌∙◌, ◌≡◌}
use mathlib.Core.Bool.{true}
use mathlib.Core.List.{List, [], ◌++◌, ◌∷◌}
use native.Mathlib.Omega.{arith}
use native.Mathlib.Nat.{le_refl}
use native.Mathlib.Numerals.{add-one}
use native.Mathlib.Decide.{ℕ_discrete}
use lib.ListN.{get_or, length}
use borrow.Author.Tests.{le-ltb, lt-ltb}
use Rattle.merge_dependencies.specs.Pushing.{behind}
use Rattle.flatten_gate.specs.Gates.{Flattens, Grew}
use Rattle.flatten.specs.Flattening.{Laid, Mergeable, Merged}
use Rattle.kinds.specs.Kinds.{wide_of}
use Rattle.kinds.specs.declared.Family.{Family}
use Rattle.kinds.specs.declared.Family.TheVariants.{And, Xor}
use Rattle.laws.specs.Lists.{tab}
use Rattle.model.specs.Gate.{Gate, Net, fanin, is_dff, no_gate, size}
use Rattle.model.specs.Gate as model
use Rattle.model.specs.Normal.{gate_of}
use Rattle.model.specs.Sharing.{flat_gate, flats, flattened_inputs, inside, merged}
use Rattle.model.proofs.Names.{In, sorted}
use Rattle.tables.specs.Building.{Packed, put_outputs}
use Rattle.tables.specs.Holding.{network_of}
use Rattle.tables.specs.Layout.{gate_at, net_of, net_size, nodes_of, output_at, outputs_of}
use Rattle.tables.specs.declared.counts.Counts.{Counts}
use Rattle.laws.proofs.Choices.{by_bool}
use Rattle.laws.proofs.Lists.{all_map}
use Rattle.shape.proofs.Flatten.{flat_at, flats_next, inside_comb, merged_inputs, merged_nodes, merged_outs, merged_valid}
use Rattle.tables.proofs.Building.{nodes_of_none, nodes_of_put_outputs, outputs_of_put_outputs, packed_none, packed_put_outputs}
use Rattle.shape.proofs.FactoringGrown.{fanin_append}
use Rattle.tables.proofs.Holding.{fanin_one, gate_network, get_or_nodes_of, holds as held-network, nodes_few, outs_few, size_network}
use Rattle.merge_dependencies.proofs.Dependencies.{merge_same}
use Rattle.merge_dependencies.proofs.Openings.{ins_gate}
use Rattle.merge_dependencies.proofs.Words.{behind_is, behind_le, behind_over}
use Rattle.std.specs.Prelude.{Option, Some, None, Result, Ok, Err}
use Rattle.refusals.specs.Numbers.{number, numbered}
use Rattle.refusals.specs.declared.Refusal.{Refusal}

-- ---- what a gate becomes over gates that agree where it names them

flat_same : (G H : ℕ → Gate) (limit : ℕ) (g : Gate) → ((f : Family) → inside f g ≡ true → In (λ w. G w ≡ H w) g.ins) → flat_gate G limit g ≡ flat_gate H limit g
unfolding flat_gate
flat_same G H limit g h = by_bool (inside And g)
    (λ a. rw a (ap (gate_of (wide_of And)) (merge_same And G H limit g.ins [] (h And a))))
    (λ a. by_bool (inside Xor g)
    (λ x. rw (a, x) (ap (gate_of (wide_of Xor)) (merge_same Xor G H limit g.ins [] (h Xor x))))
    (λ x. rw (a, x)))

-- ---- the inputs of the first k gates

fanin_next : (N : Net) (limit k : ℕ) → fanin (flats N limit (suc k)) ≡ fanin (flats N limit k) + length (flat_at N limit k).ins
fanin_next N limit k = rw (flats_next N limit k, fanin_append, fanin_one)

fanin_more : (N : Net) (limit k n : ℕ) → k ≤ n → fanin (flats N limit k) ≤ fanin (flats N limit n)
fanin_more N limit k zero h = let e : k ≡ zero = omega arith in rw e (le_refl _)
fanin_more N limit k (suc n) h = elim (ℕ_discrete k (suc n)) [
  | yes e ↦ rw e (le_refl _)
  | no e ↦ omega (arith, fanin_next N limit n, fanin_more N limit k n (omega arith))
]

inputs_are : (N : Net) (limit : ℕ) → flattened_inputs N limit ≡ fanin (flats N limit (size N))
unfolding flattened_inputs
inputs_are N limit = ap fanin (merged_nodes N limit)

-- ---- flatten_nodes: the first v stand in l

pub record Flattened (from l₀ l : List ℕ) (c : Counts) (limit at v : ℕ) : Type 0 where
  pub same : length l ≡ length l₀
  pub upto : v ≤ c.nodes
  pub packed : Packed l v at
  pub nodes : nodes_of l v ≡ flats (network_of from c) limit v
  pub count : at ≡ fanin (flats (network_of from c) limit v)

module _ (from : List ℕ) (c : Counts) (limit : ℕ) (l₀ : List ℕ) (M : Mergeable from l₀ c) where
  pub nodes_start : Flattened from l₀ l₀ c limit 0 0
  unfolding flats fanin
  nodes_start = record { same = refl; upto = omega arith; packed = packed_none l₀ M.long; nodes = nodes_of_none l₀; count = refl }

  module _ (l : List ℕ) (at v : ℕ) (inv : Flattened from l₀ l c limit at v) where
    module _ (h : v < c.nodes) where
      below : (f : Family) → inside f (gate_at from v) ≡ true → In (λ w. w < v) (gate_at from v).ins
      below f i =
          let e : model.gate_at (network_of from c) v ≡ gate_at from v = gate_network from c v h in
          subst (λ (g : Gate). In (λ w. w < v) g.ins) e
          (sorted (network_of from c) M.sorted v (rw (size_network from c) h) (ap is_dff e ∙ inside_comb f (gate_at from v) i))

      pub nodes_flattens : Flattens from l v at
      nodes_flattens = record {
        puts = record { source = M.held.long; node = omega (arith, nodes_few from c M.held); ends = M.held.ends v h; packed = inv.packed };
        below = λ f i. rw (← (ins_gate from v)) (below f i);
      }

      -- the gates below v in l are those of the definition
      flat_is : flat_gate (gate_at l) limit (gate_at from v) ≡ flat_at (network_of from c) limit v
      flat_is =
          ap (flat_gate (gate_at l) limit) (sym (gate_network from c v h))
          ∙ flat_same (gate_at l) (λ w. get_or (flats (network_of from c) limit v) w no_gate) limit (model.gate_at (network_of from c) v)
          (λ f i. all_map (model.gate_at (network_of from c) v).ins (λ s b w r. sym (get_or_nodes_of l v w (b w r)) ∙ ap (λ (x : List Gate). get_or x w no_gate) inv.nodes)
          (rw (← (gate_network from c v h)) at (below f (rw (gate_network from c v h) at i))))

      module _ (m : List ℕ) (r : Option ℕ) (G : Grew l m v at (flat_gate (gate_at l) limit (gate_at from v)) r) where
        grown : Grew l m v at (flat_at (network_of from c) limit v) r
        grown = rw flat_is at G

        pub nodes_next : (k : ℕ) → r ≡ Some k → length m ≡ length l → Flattened from l₀ m c limit k (v + 1)
        nodes_next k e len =
            let g = flat_at (network_of from c) limit v in
            let q : Some k ≡ behind at (length g.ins) = sym e ∙ grown.answer in
            let le = behind_le at (length g.ins) k q in
            let is = behind_is at (length g.ins) k q in
            rw (add-one v)
            (record {
              same = len ∙ inv.same;
              upto = h;
              packed = rw is (grown.packed le);
              nodes = grown.nodes le ∙ ap (λ (x : List Gate). x ++ (g ∷ [])) inv.nodes ∙ sym (flats_next (network_of from c) limit v);
              count = omega (arith, is, inv.count, fanin_next (network_of from c) limit v);
            })

        pub nodes_full : r ≡ None → (x : Result (Unit {0}) Refusal) → numbered x ≡ Err 10 → Laid (network_of from c) limit m x
        nodes_full e x t =
            let over = behind_over at (length (flat_at (network_of from c) limit v).ins) (sym e ∙ grown.answer) in
            let s = size_network from c in
            let q : 2048 < flattened_inputs (network_of from c) limit =
            omega (arith, inv.count, fanin_next (network_of from c) limit v, fanin_more (network_of from c) limit (suc v) (size (network_of from c)) (omega arith), inputs_are (network_of from c) limit) in
            record { answer = rw (lt-ltb 2048 (flattened_inputs (network_of from c) limit) q) t; packed = λ p. absurd (omega arith); nodes = λ p. absurd (omega arith) }

    pub nodes_end : c.nodes ≤ v → Laid (network_of from c) limit l (Ok tt)
    nodes_end h =
        let a = inv.upto in
        let e : v ≡ size (network_of from c) = omega (arith, size_network from c) in
        let t : at ≡ flattened_inputs (network_of from c) limit = inv.count ∙ ap (λ k. fanin (flats (network_of from c) limit k)) e ∙ sym (inputs_are (network_of from c) limit) in
        record {
          answer = rw (le-ltb 2048 (flattened_inputs (network_of from c) limit) (omega (arith, inv.packed.room)));
          packed = λ p. rw (← t, ← e) inv.packed;
          nodes = λ p. rw (← e) inv.nodes;
        }

pub ruleset flattenings = (nodes_start, nodes_flattens, nodes_next, nodes_full, nodes_end)

-- ---- flatten_gates

outs_are : (from : List ℕ) (c : Counts) → (network_of from c).outs ≡ tab (output_at from) c.outs
unfolding network_of net_of outputs_of
outs_are from c = refl

inputs_kept : (from : List ℕ) (c : Counts) → (network_of from c).inputs ≡ c.inputs
unfolding network_of net_of
inputs_kept from c = refl

module _ (from l : List ℕ) (c : Counts) (limit : ℕ) (M : Mergeable from l c) where
  pub whole_outs : c.outs ≤ 64
  whole_outs = outs_few from c M.held

  module _ (m : List ℕ) where
    pub whole_long : length m ≡ length l → net_size ≤ length m
    whole_long len = omega (arith, M.long)

    pub whole_full : (d x : Refusal) (r : Result (Unit {0}) Refusal) → Laid (network_of from c) limit m (Err d) → r ≡ Err x → x ≡ d → Merged (network_of from c) limit m c r
    whole_full d x r L p q = record {
      answer = rw (p, q) L.answer;
      holds = λ few. let z : ◌≡◌ {A = Result (Unit {0}) ℕ} (Err (number d)) (Ok tt) = rw (le-ltb 2048 (flattened_inputs (network_of from c) limit) few) at L.answer in absurd cc;
    }

    pub whole_done : Laid (network_of from c) limit m (Ok tt) → (q : List ℕ) → q ≡ put_outputs m (output_at from) c.outs → Merged (network_of from c) limit q c (Ok tt)
    whole_done L q eq = record {
      answer = L.answer;
      holds = λ few.
          let N = network_of from c in
          let s = size_network from c in
          let o = output_at from in
          let P : Packed m c.nodes (flattened_inputs (network_of from c) limit) = rw s at (L.packed few) in
          rw eq
          (held-network (put_outputs m o c.outs) c (merged (network_of from c) limit) (flattened_inputs (network_of from c) limit)
          (packed_put_outputs m o c.nodes _ P c.outs)
          (merged_valid (network_of from c) limit M.held.valid M.sorted few)
          (sym (merged_inputs (network_of from c) limit ∙ inputs_kept from c))
          (nodes_of_put_outputs m o c.nodes _ P c.outs ∙ ap (nodes_of m) (sym s) ∙ L.nodes few ∙ sym (merged_nodes (network_of from c) limit))
          (outputs_of_put_outputs m o c.outs whole_outs P.long ∙ sym (merged_outs (network_of from c) limit ∙ outs_are from c)));
    }

pub ruleset wholes = (whole_outs, whole_long, whole_full, whole_done)
