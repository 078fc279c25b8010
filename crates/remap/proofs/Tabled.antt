-- Lists kept in the tables behind a network, and a held network word by word.
use mathlib.Core.Path.{◌≡◌, refl, ap, ◌∙◌}
use mathlib.Core.Bool.{Bool, true, false, cond}
use Prim.Native.Nat.{ℕ, zero, suc, ◌+◌, ◌<◌, ◌≤◌, zero-le}
use native.Mathlib.Nat.{le_refl}
use native.Mathlib.Omega.{arith}
use mathlib.Core.List.{List, [], ◌∷◌, ◌++◌}
use lib.ListN.{length}
use lib.Dec.{eqb}
use borrow.Author.Tests.{eq-eqb, ne_eqb}
use Rattle.kinds.specs.Kinds.{kind_of, is_flip_flop}
use Rattle.laws.specs.Bools.{bit}
use Rattle.laws.specs.Lists.{tab}
use Rattle.laws.proofs.Tabs.{length_tab}
use Rattle.model.specs.Gate.{Gate, is_dff, size}
use Rattle.model.specs.Network.{is_d, deps, vars, sum_to, unseen}
use Rattle.model.proofs.Names.{named_names}
use Rattle.shape.specs.Forms.{Inside, OutsInside}
use Rattle.shape.proofs.Sums.{sum_mono}
use Rattle.shape.proofs.Wires.{names_below, vars_length, wired_inside, wired_outs_inside}
use Rattle.tables.specs.Layout.{kind_at, first_at, count_at, input_at, ins_at, output_at, gate_at, outputs_of, net_of, cell, stack_base, order_base}
use Rattle.tables.specs.Holding.{network_of, Held}
use Rattle.tables.specs.declared.counts.Counts.{Counts}
use Rattle.tables.proofs.Holding.{size_network, gate_network, nodes_few, outs_few, counts_few, output_named, input_named}
use Rattle.remap.specs.Tables.{stack_of, order_from, ins_from, Sound}

-- ---- the stack and the order

pub stack_of_same : (l m : List ℕ) (k : ℕ) → ((i : ℕ) → i < k → cell l stack_base i ≡ cell m stack_base i) → stack_of l k ≡ stack_of m k
unfolding stack_of
stack_of_same l m zero h = refl
stack_of_same l m (suc k) h = let p = h k (le_refl _) in let q = stack_of_same l m k (λ i p. h i (omega arith)) in cc

pub length_stack_of : (l : List ℕ) (k : ℕ) → length (stack_of l k) ≡ k
unfolding stack_of
length_stack_of l zero = refl
length_stack_of l (suc k) = ap suc (length_stack_of l k)

pub order_from_same : (l m : List ℕ) (k at : ℕ) → ((i : ℕ) → at ≤ i → i < at + k → cell l order_base i ≡ cell m order_base i) → order_from l at k ≡ order_from m at k
unfolding order_from
order_from_same l m zero at h = refl
order_from_same l m (suc k) at h = let p = h at (le_refl _) (omega arith) in let q = order_from_same l m k (suc at) (λ i a b. h i (omega arith) (omega arith)) in cc

pub length_order_from : (l : List ℕ) (k at : ℕ) → length (order_from l at k) ≡ k
unfolding order_from
length_order_from l zero at = refl
length_order_from l (suc k) at = ap suc (length_order_from l k (suc at))

order_from_snoc : (l : List ℕ) (k at : ℕ) → order_from l at (suc k) ≡ order_from l at k ++ (cell l order_base (at + k) ∷ [])
unfolding order_from
order_from_snoc l zero at = ap (λ (x : ℕ). cell l order_base x ∷ []) (let z : at ≡ at + 0 = omega arith in z)
order_from_snoc l (suc k) at =
    ap (λ x. cell l order_base at ∷ x) (order_from_snoc l k (suc at) ∙ ap (λ (x : ℕ). order_from l (suc at) k ++ (cell l order_base x ∷ [])) (let z : suc at + k ≡ at + suc k = omega arith in z))

pub order_from_zero : (l : List ℕ) → order_from l 0 0 ≡ []
unfolding order_from
order_from_zero l = refl

pub order_from_last : (l : List ℕ) (k : ℕ) → order_from l 0 (suc k) ≡ order_from l 0 k ++ (cell l order_base k ∷ [])
order_from_last l k = order_from_snoc l k 0 ∙ ap (λ (x : ℕ). order_from l 0 k ++ (cell l order_base x ∷ [])) (let z : 0 + k ≡ k = omega arith in z)

pub order_from_tab : (l : List ℕ) (m : ℕ) → order_from l 0 m ≡ tab (cell l order_base) m
unfolding tab
order_from_tab l zero = order_from_zero l
order_from_tab l (suc m) = order_from_last l m ∙ ap (λ x. x ++ (cell l order_base m ∷ [])) (order_from_tab l m)

-- ---- a held network

module _ (from : List ℕ) (c : Counts) where
  pub is_d_at : (v : ℕ) → v < c.nodes → is_d (network_of from c) v ≡ is_flip_flop (kind_of (kind_at from v))
  unfolding gate_at
  is_d_at v h = ap (λ (g : Gate). is_dff g) (gate_network from c v h)

  pub deps_at : (v : ℕ) → v < c.nodes → deps (network_of from c) v ≡ vars (ins_from from (first_at from v) (count_at from v))
  unfolding gate_at ins_at
  deps_at v h = ap (λ (g : Gate). vars g.ins) (gate_network from c v h)

  pub outs_at : (network_of from c).outs ≡ tab (output_at from) c.outs
  unfolding network_of net_of outputs_of
  outs_at = refl

  pub deps_length : (v : ℕ) → v < c.nodes → length (deps (network_of from c) v) ≤ count_at from v
  deps_length v h =
      rw (deps_at v h)
      (omega (arith, vars_length (ins_from from (first_at from v) (count_at from v)), length_tab (λ k. input_at from (first_at from v + k)) (count_at from v)))

  pub held_inside : Held from c → Inside (network_of from c)
  held_inside H = wired_inside (network_of from c) H.valid.signals

  pub held_outs_inside : Held from c → OutsInside (network_of from c)
  held_outs_inside H = wired_outs_inside (network_of from c) H.valid.signals

  pub held_sound : Held from c → Sound from c
  held_sound H = record {
    held = H;
    long = H.long;
    few = nodes_few from c H;
    outs_few = outs_few from c H;
    ends = H.ends;
    named = λ v j h p.
        names_below c.nodes (input_at from (first_at from v + j))
        (named_names c.inputs c.nodes (input_at from (first_at from v + j)) (input_named from c H v h j p));
    outs_named = λ j h. names_below c.nodes (output_at from j) (named_names c.inputs c.nodes (output_at from j) (output_named from c H j h));
    total = counts_few from c H;
  }

-- ---- marks, and the work that is left of a walk over the network

-- a mark's word tells whether its node was seen
pub mark_cond : (b : Bool) (m x : ℕ) → m ≡ bit b → cond (eqb m 0) x 0 ≡ cond b 0 x
mark_cond true m x e = ap (λ (c : Bool). cond c x 0) (ne_eqb m 0 (omega arith))
mark_cond false m x e = ap (λ (c : Bool). cond c x 0) (eq-eqb m 0 e)

cond_le : (b : Bool) (x : ℕ) → cond b 0 x ≤ x
cond_le true x = zero-le
cond_le false x = le_refl x

-- what is not seen names no more nodes than there are inputs
pub unseen_most : (from : List ℕ) (c : Counts) → Sound from c → (vis : ℕ → Bool) → sum_to (unseen (network_of from c) vis) (size (network_of from c)) ≤ 2048
unseen_most from c ok vis =
    rw (size_network from c)
    (omega (
      arith,
      ok.total,
      sum_mono (unseen (network_of from c) vis) (count_at from) c.nodes (λ u h. omega (arith, cond_le (vis u) (length (deps (network_of from c) u)), deps_length from c u h)),
    ))
