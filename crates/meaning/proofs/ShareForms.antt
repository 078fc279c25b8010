-- What share leaves: two-input Ands and Xors and other simple gates, no more of them than the flattened network weighs.
use mathlib.Core.Path.{◌≡◌, refl, ap, ap₂, ◌∙◌}
use mathlib.Core.Logic.{inl, inr}
use Prim.Native.Nat.{ℕ, ◌+◌, ◌≤◌}
use native.Mathlib.Omega.{arith}
use mathlib.Core.Bool.{true, not}
use mathlib.Core.List.{List, [], ◌∷◌}
use lib.ListN.{length}
use Rattle.kinds.specs.Kinds.{kind_of}
use Rattle.kinds.specs.declared.Family.{Family}
use Rattle.kinds.specs.declared.Family.TheVariants.{And, Xor}
use Rattle.laws.specs.Bools.{bit}
use Rattle.laws.specs.Lists.{All}
use Rattle.laws.proofs.Bools.{and_left, and_right}
use Rattle.model.specs.Gate.{Gate, Net, Valid, all_shaped, combs, is_topo_sorted, shaped}
use Rattle.model.specs.Network.{cleanup}
use Rattle.model.specs.Sharing.{factor_gates, factor_nary, factor_refusal, flatten_nary, flattened_inputs, inside, is_simple, merged, pass_refusal, share_logic, weights}
use Rattle.shape.proofs.Cleanup.{cleanup_valid}
use Rattle.shape.proofs.Flatten.{inside_comb, flatten_sorted, flatten_valid, merged_valid}
use Rattle.shape.proofs.FactoringPass.{factor_refusals, factor_valid, pass_sorted, pass_valid}
use Rattle.meaning.proofs.SimpleKinds.{CanonicalKind, SimpleOrWide, Pairs, by_family, canonical_kinds, cost_leads, cost_weight, pass_keeps, pass_kinds, pass_pairs, simple_cost}
use Rattle.meaning.proofs.Weights.{costs, pass_cost}

abbrev Simple : Gate → Type 0
Simple g = is_simple (kind_of g.kind) ≡ true

-- three or more inputs are too many
pairs_simple : (g : Gate) → CanonicalKind g → ((f : Family) → Pairs f g) → is_simple (kind_of g.kind) ≡ true
pairs_simple g p two = go p.split
  where
    go : SimpleOrWide g → is_simple (kind_of g.kind) ≡ true
    go (inl s) = s
    go (inr (f, i, n)) = absurd (omega (arith, two f (p.same f ∙ i)))

all_simple : (gs : List Gate) → All CanonicalKind gs → All (Pairs And) gs → All (Pairs Xor) gs → All Simple gs
all_simple [] p a x = tt
all_simple (g ∷ gs) p a x = (pairs_simple g p.0 (by_family (λ f. Pairs f g) a.0 x.0), all_simple gs p.1 a.1 x.1)

-- of simple gates there are as many as they cost
simple_costs : (gs : List Gate) → all_shaped gs ≡ true → All Simple gs → combs gs ≡ costs gs
unfolding all_shaped combs
simple_costs [] e h = refl
simple_costs (g ∷ gs) e h = omega (arith, simple_cost g (and_left (shaped g) (all_shaped gs) e) h.0, simple_costs gs (and_right (shaped g) (all_shaped gs) e) h.1)

costs_weights : (gs : List Gate) → All CanonicalKind gs → costs gs ≡ weights gs
unfolding weights
costs_weights [] h = refl
costs_weights (g ∷ gs) h = ap₂ ◌+◌ (cost_weight g h.0) (costs_weights gs h.1)

-- a simple gate of a family has two inputs
simple_inputs : (f : Family) (g : Gate) → CanonicalKind g → shaped g ≡ true → is_simple (kind_of g.kind) ≡ true → inside f g ≡ true → length g.ins ≡ 2
simple_inputs f g p e s i = omega (arith, simple_cost g e s, cost_leads f g (p.same f ∙ i), ap (λ b. bit (not b)) (inside_comb f g i))

all_two : (f : Family) (gs : List Gate) → All CanonicalKind gs → all_shaped gs ≡ true → All Simple gs → All (λ (g : Gate). inside f g ≡ true → length g.ins ≡ 2) gs
unfolding all_shaped
all_two f [] p e h = tt
all_two f (g ∷ gs) p e h = (
  simple_inputs f g p.0 (and_left (shaped g) (all_shaped gs) e) h.0,
  all_two f gs p.1 (and_right (shaped g) (all_shaped gs) e) h.1,
)

-- ---- factor, of a network whose kinds are those of a canonical one

module _ (N : Net) (A : Valid N) (t : is_topo_sorted N ≡ true) (none : factor_refusal N ≡ 0) (h : All CanonicalKind N.nodes) where
  abbrev M : Net
  M = factor_gates And N

  and_none : pass_refusal And N ≡ 0
  and_none = (factor_refusals N none).0

  xor_none : pass_refusal Xor M ≡ 0
  xor_none = (factor_refusals N none).1

  valid : Valid M
  valid = pass_valid And N A t and_none

  sorted : is_topo_sorted M ≡ true
  sorted = pass_sorted And N A t and_none

  kinds : All CanonicalKind M.nodes
  kinds = pass_kinds And N A t and_none

  factor_kinds : All CanonicalKind (factor_nary N).nodes
  unfolding factor_nary
  factor_kinds = pass_kinds Xor M valid sorted xor_none

  factor_simple : All Simple (factor_nary N).nodes
  unfolding factor_nary
  factor_simple =
      all_simple (factor_gates Xor M).nodes (pass_kinds Xor M valid sorted xor_none)
      (pass_keeps Xor M valid sorted xor_none And (pass_pairs And N A t and_none h))
      (pass_pairs Xor M valid sorted xor_none kinds)

  factor_shaped : all_shaped (factor_nary N).nodes ≡ true
  factor_shaped = (factor_valid N A t none).gates_shaped

  factor_two : (f : Family) → All (λ (g : Gate). inside f g ≡ true → length g.ins ≡ 2) (factor_nary N).nodes
  factor_two f = all_two f (factor_nary N).nodes factor_kinds factor_shaped factor_simple

  factor_costs : costs (factor_nary N).nodes ≤ costs N.nodes
  unfolding factor_nary
  factor_costs = omega (arith, pass_cost Xor M valid sorted xor_none kinds, pass_cost And N A t and_none h)

  factor_bound : combs (factor_nary N).nodes ≤ weights N.nodes
  factor_bound = omega (arith, simple_costs (factor_nary N).nodes factor_shaped factor_simple, factor_costs, costs_weights N.nodes h)

-- ---- share

module _ (N : Net) (limit : ℕ) (A : Valid N) (t : is_topo_sorted N ≡ true) (few : flattened_inputs N limit ≤ 2048) (none : factor_refusal (flatten_nary N limit) ≡ 0) where
  flatten_kinds : All CanonicalKind (flatten_nary N limit).nodes
  unfolding flatten_nary
  flatten_kinds = canonical_kinds (cleanup (merged N limit)) (cleanup_valid (merged N limit) (merged_valid N limit A t few))

  source_valid : Valid (flatten_nary N limit)
  source_valid = flatten_valid N limit A t few

  source_sorted : is_topo_sorted (flatten_nary N limit) ≡ true
  source_sorted = flatten_sorted N limit A t few

  -- NO GATE IS LEFT but And2, Xor2, Maj, Mux, Dff and Lut
  pub share_simple : All (λ (g : Gate). is_simple (kind_of g.kind) ≡ true) (share_logic N limit).nodes
  unfolding share_logic
  share_simple = factor_simple (flatten_nary N limit) source_valid source_sorted none flatten_kinds

  -- ANDS AND XORS have two inputs
  pub share_two : (f : Family) → All (λ (g : Gate). inside f g ≡ true → length g.ins ≡ 2) (share_logic N limit).nodes
  unfolding share_logic
  share_two = factor_two (flatten_nary N limit) source_valid source_sorted none flatten_kinds

  -- NO MORE GATES than the flattened network weighs
  pub share_bound : combs (share_logic N limit).nodes ≤ weights (flatten_nary N limit).nodes
  unfolding share_logic
  share_bound = factor_bound (flatten_nary N limit) source_valid source_sorted none flatten_kinds
