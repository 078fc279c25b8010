-- What gates cost in all: a pass builds no more pairs than its gates have inputs, less one each; so no pass raises the cost.
use mathlib.Core.Path.{◌≡◌, refl, sym, ◌∙◌}
use Prim.Native.Nat.{ℕ, zero, suc, ◌+◌, zero-le, ◌≤◌, ◌<◌}
use native.Mathlib.Nat.{le_refl}
use native.Mathlib.Omega.{arith}
use mathlib.Core.Bool.{Bool, true, false, not}
use mathlib.Core.List.{List, [], map, ◌∷◌}
use lib.ListN.{length, get_or, set, length-append}
use lib.Dec.{ltb}
use borrow.Author.Tests.{ltb-true}
use Rattle.kinds.specs.Kinds.{kind_of}
use Rattle.kinds.specs.declared.Kind.TheVariants.{Buf}
use Rattle.kinds.specs.declared.Family.{Family}
use Rattle.kinds.specs.declared.Family.TheVariants.{And, Xor}
use Rattle.laws.specs.Lists.{All}
use Rattle.laws.proofs.Bools.{and_left, and_right}
use Rattle.laws.proofs.Choices.{by_bool}
use Rattle.model.specs.Signal.{from_var}
use Rattle.model.specs.Gate.{Gate, Net, size, Valid, gate_at, is_dff, is_topo_sorted, remap_gate, shaped}
use Rattle.model.specs.Normal.{made, gate_of, make_canonical}
use Rattle.model.specs.Network.{canonical, dedup_combs, dedup_with, remap_dff, sorts, topo_order, topo_sort}
use Rattle.model.specs.Sharing.{Pair, State, exclusive_signals, factoring, give_back, join_round, once, replace_pair, retain, round_left, round_pairs, shared_signals, taken, total, factor_gates, grown, inside, pair_gate, pass_refusal, replaced, takes}
use Rattle.shape.proofs.Sums.{sum_list, list_append, list_map, list_ones}
use Rattle.shape.proofs.Remap.{remap_weigh}
use Rattle.shape.proofs.Sort.{sort_order}
use Rattle.shape.proofs.DedupSweep.{asked_gate, asked, due_total, weigh}
use Rattle.shape.proofs.FactoringFuel.{TwoIn, shrinks}
use Rattle.shape.proofs.FactoringSteps.{all_pairs_keeps, consume_keeps, joins_keep}
use Rattle.shape.proofs.FactoringEnds.{One, factoring_parts, given, paired, split_length}
use Rattle.shape.proofs.FactoringGrown.{ended, ended_one, length_ended, grown_nodes}
use Rattle.shape.proofs.FactoringPass.{pass_grown, pass_source, pass_sorts}
use Rattle.meaning.proofs.TidyCanonical.{asked_keeps, asked_shaped}
use Rattle.meaning.proofs.SimpleKinds.{CanonicalKind, cost, cost_leads, cost_renamed, normal_cost}

-- ---- pairs built and signals left: together no more than the signals at the start

abbrev Within : ℕ → State → Type 0
Within n s = total s.lists + length s.built ≤ n

-- a replacement takes two signals and puts one
within_replaced : (n : ℕ) (s : State) (a b : ℕ) → TwoIn a b s.lists → Within n s → Within n (replace_pair s a b)
unfolding replace_pair
within_replaced n s a b t h = rw length-append (omega (arith, shrinks a b (from_var s.next) s.lists t))

-- a round takes as many signals as it builds pairs
round_total : (b : ℕ) (l : List ℕ) → length (round_left b l) + length (round_pairs l) ≡ length l
unfolding round_left round_pairs
round_total b [] = refl
round_total b (x ∷ []) = refl
round_total b (x ∷ y ∷ l) = omega (arith, round_total (suc b) l)

set_total : (gs : List (List ℕ)) (i : ℕ) (m : List ℕ) (n : ℕ) → length m + n ≡ length (get_or gs i []) → total (set gs i m) + n ≡ total gs
unfolding total
set_total [] i m n e = omega arith
set_total (l ∷ gs) zero m n e = omega arith
set_total (l ∷ gs) (suc i) m n e = omega (arith, set_total gs i m n e)

within_round : (n : ℕ) (s : State) (i : ℕ) → Within n s → Within n (join_round s i)
unfolding join_round
within_round n s i h =
    let l = get_or s.lists i [] in
    rw length-append (omega (arith, set_total s.lists i (round_left s.next l) (length (round_pairs l)) (round_total s.next l)))

-- setting aside and giving back
split_total : (t : ℕ → Bool) (gs : List (List ℕ)) → total (map (retain (λ x. not (t x))) gs) + total (map (retain t) gs) ≡ total gs
unfolding total
split_total t [] = refl
split_total t (l ∷ gs) = omega (arith, split_length t l, split_total t gs)

given_total : (gs os : List (List ℕ)) → total (give_back gs os) ≤ total gs + total os
unfolding total give_back
given_total [] os = zero-le
given_total (l ∷ gs) [] = omega arith
given_total (l ∷ gs) (o ∷ os) = rw length-append (omega (arith, given_total gs os))

ones_total : (ls : List (List ℕ)) → All One ls → total ls ≡ length ls
unfolding total
ones_total [] h = refl
ones_total (l ∷ ls) h = let e : length l ≡ 1 = h.0 in omega (arith, ones_total ls h.1)

module _ (gs : List (List ℕ)) (next : ℕ) where
  within_paired : Within (total (shared_signals gs)) (paired gs next)
  unfolding paired
  within_paired =
      let n = total (shared_signals gs) in
      all_pairs_keeps (Within n) (within_replaced n) _
      (consume_keeps (Within n) (within_replaced n) (record { lists = shared_signals gs; next = next; built = [] }) (length gs) (omega arith))

  within_given : Within (total gs) (given gs next)
  unfolding given shared_signals exclusive_signals
  within_given = omega (arith, within_paired, given_total (paired gs next).lists (exclusive_signals gs), split_total (once gs) gs)

  within_factoring : Within (total gs) (factoring gs next)
  within_factoring = rw (factoring_parts gs next) (joins_keep (Within (total gs)) (within_round (total gs)) (given gs next) (length gs) within_given)

within_ended : (f : Family) (N : Net) → Within (total (taken f N.nodes)) (ended f N)
unfolding ended
within_ended f N = within_factoring (taken f N.nodes) (size N)

-- A PASS BUILDS no more pairs than its gates have inputs, less one each
pub built_few : (f : Family) (N : Net) → length (ended f N).built + length (taken f N.nodes) ≤ total (taken f N.nodes)
built_few f N = omega (arith, within_ended f N, ones_total (ended f N).lists (ended_one f N), length_ended f N)

-- ---- a measure of gates that does not depend on the names of signals

module _ (w : Gate → ℕ) (renamed : (τ : ℕ → ℕ) (g : Gate) → w (remap_gate τ g) ≡ w g) (N : Net) (A : Valid N) where
  -- canonical does not raise it, where no normal form has more than its gate
  module _ (normal : (g h : Gate) (z : Bool) → shaped g ≡ true → make_canonical g ≡ made h z → w h ≤ w g) where
    light : (τ : ℕ → ℕ) (n : ℕ) → n < size N → (h : Gate) (z : Bool) → asked make_canonical N τ n ≡ made h z → w h ≤ w (gate_at N n)
    light τ n l h z q =
        omega (
          arith,
          normal (asked_gate make_canonical N τ n) h z (asked_shaped N A.gates_shaped τ n l) q,
          asked_keeps N (λ h. w h ≡ w (gate_at N n)) (λ τ h e. renamed τ h ∙ e) τ n refl,
        )

    turned_weights : (τ : ℕ → ℕ) (l : List Gate) → sum_list w (map (remap_dff make_canonical N τ) l) ≡ sum_list w l
    turned_weights τ = list_map w (remap_dff make_canonical N τ) w (λ g. by_bool (is_dff g) (λ d. rw d (renamed τ g)) (λ d. rw d))

    pub canonical_weights : sum_list w (canonical N).nodes ≤ sum_list w N.nodes
    unfolding dedup_with
    canonical_weights =
        let d = dedup_combs make_canonical N (size N) in
        omega (arith, turned_weights d.trans d.news, weigh make_canonical N w light false (size N) (le_refl _), due_total make_canonical N w)

  -- nor does sort
  pub sort_weights : sorts N ≡ true → sum_list w (topo_sort N).nodes ≤ sum_list w N.nodes
  unfolding topo_sort
  sort_weights ok = remap_weigh N (topo_order N) (sort_order N A.signals ok) w renamed

-- ---- the cost of a network

abbrev pub costs : List Gate → ℕ
costs gs = sum_list cost gs

pair_cost : (f : Family) (x : Pair) → cost (pair_gate f x) ≡ 1
unfolding cost kind_of
pair_cost And x = refl
pair_cost Xor x = refl

pairs_cost : (f : Family) (ps : List Pair) → costs (map (pair_gate f) ps) ≡ length ps
pairs_cost f ps = list_map cost (pair_gate f) (λ x. 1) (pair_cost f) ps ∙ list_ones ps

buf_cost : (l : List ℕ) → cost (gate_of Buf l) ≡ 0
unfolding cost kind_of
buf_cost l = refl

none_total : (ls : List (List ℕ)) → length ls ≡ 0 → total ls ≡ 0
unfolding total
none_total [] e = refl
none_total (l ∷ ls) e = absurd (omega arith)

taken_cost : (f : Family) (g : Gate) → CanonicalKind g → takes f g ≡ true → cost g + 1 ≡ length g.ins
taken_cost f g p t =
    let n = ltb-true 1 (length g.ins) (and_right (inside f g) (ltb 1 (length g.ins)) t) in
    omega (arith, cost_leads f g (p.same f ∙ and_left (inside f g) (ltb 1 (length g.ins)) t))

replaced_cost : (f : Family) (gs : List Gate) (ls : List (List ℕ)) → All CanonicalKind gs → length ls ≡ length (taken f gs)
    → costs (replaced f gs ls) + total (taken f gs) ≡ costs gs + length (taken f gs)
unfolding replaced taken total
replaced_cost f [] ls h e = refl
replaced_cost f (g ∷ gs) [] h e = omega (arith, none_total (taken f (g ∷ gs)) (sym e))
replaced_cost f (g ∷ gs) (l ∷ ls) h e = by_bool (takes f g)
    (λ t.
    let z : suc (length ls) ≡ suc (length (taken f gs)) = rw t at e in
    rw t (omega (arith, buf_cost l, taken_cost f g h.0 t, replaced_cost f gs ls h.1 (omega arith))))
    (λ t.
    let z : suc (length ls) ≡ length (taken f gs) = rw t at e in
    rw t (omega (arith, replaced_cost f gs (l ∷ ls) h.1 z)))

grown_cost : (f : Family) (N : Net) → All CanonicalKind N.nodes → costs (grown f N).nodes ≤ costs N.nodes
grown_cost f N h =
    rw (grown_nodes f N, list_append cost (replaced f N.nodes (ended f N).lists) (map (pair_gate f) (ended f N).built))
    (omega (arith, replaced_cost f N.nodes (ended f N).lists h (length_ended f N), pairs_cost f (ended f N).built, built_few f N))

-- A PASS DOES NOT RAISE THE COST
pub pass_cost : (f : Family) (N : Net) → Valid N → is_topo_sorted N ≡ true → pass_refusal f N ≡ 0 → All CanonicalKind N.nodes → costs (factor_gates f N).nodes ≤ costs N.nodes
unfolding factor_gates
pass_cost f N A t none h =
    omega (
      arith,
      canonical_weights cost cost_renamed (topo_sort (grown f N)) (pass_source f N A t none) normal_cost,
      sort_weights cost cost_renamed (grown f N) (pass_grown f N A t none) (pass_sorts f N A t none),
      grown_cost f N h,
    )
