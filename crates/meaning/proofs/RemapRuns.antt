-- remap by an order: the result carries every kept node's value. What follows for states that are carried stands in RemapCarried.
use mathlib.Core.Path.{◌≡◌, ap, ◌∙◌}
use Prim.Native.Nat.{ℕ, ◌<◌}
use native.Mathlib.Omega.{arith}
use mathlib.Core.Bool.{Bool}
use mathlib.Core.List.{List}
use lib.ListN.{length, get_or}
use Rattle.model.specs.Gate.{Net, is_dff, remap_gate, gate_at, size}
use Rattle.model.specs.Evaluate.{signal_value, shows}
use Rattle.model.specs.Network.{translation, remap}
use Rattle.model.proofs.Forward.{shows_comb}
use Rattle.shape.specs.Forms.{Kept, Order}
use Rattle.shape.proofs.Remap.{remap_size, remap_outs, τ_at, gate_kept, kept_inside, order_length}
use Rattle.meaning.proofs.Valuations.{value_node}
use Rattle.meaning.proofs.Simulation.{kept, Carries}

-- a state or a valuation carried through the order: new node j is old node order[j]
abbrev pub carry : List ℕ → (ℕ → Bool) → ℕ → Bool
carry order st j = st (get_or order j 0)

module _ (N : Net) (order : List ℕ) (O : Order N order) (small : size N < 1073741824) where
  abbrev N' : Net
  N' = remap order N

  abbrev τ : ℕ → ℕ
  τ = translation (size N) order

  few : length order < 1073741824
  few = omega (arith, order_length N order O)

  -- the signal that a kept node maps to shows the node at its place
  pub at_place : (i v : ℕ → Bool) (n : ℕ) (k : Kept order n) → signal_value i v (τ n) ≡ v k.0
  at_place i v n k = ap (signal_value i v) (τ_at N order O n k) ∙ value_node i v k.0 (let l = k.1 in omega (arith, order_length N order O))

  pub remap_carries : Carries N N' τ (Kept order)
  remap_carries = record {
    small = omega (arith, few, remap_size N order);
    inside = kept_inside N order O;
    comb = λ n k e i st v c.
        let j = k.0 in
        at_place i v n k
        ∙ c j (let l = k.1 in omega (arith, remap_size N order))
        ∙ ap (λ g. shows i v g (st j)) (gate_kept N order O n k)
        ∙ shows_comb i v (remap_gate τ (gate_at N n)) (st j) e;
    cell = λ n k e.
        kept k.0 (let l = k.1 in omega (arith, remap_size N order)) (τ_at N order O n k)
        (ap is_dff (gate_kept N order O n k) ∙ e) (ap (λ g. g.ins) (gate_kept N order O n k));
    cell_ins = λ n k e. O.ins n k;
    outs = remap_outs N order;
    outs_in = O.outs;
  }
