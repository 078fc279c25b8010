-- Why no more is promised: neighbours of the promises that do not hold, each by a small network.
use mathlib.Core.Path.{◌≡◌, refl, sym, ap, ◌∙◌}
use Prim.Native.Nat.{ℕ, ◌≤◌, ◌<◌}
use native.Mathlib.Omega.{arith}
use mathlib.Core.Bool.{Bool, true, false}
use mathlib.Core.List.{List, [], ◌∷◌}
use lib.ListN.{length}
use lib.Dec.{leb}
use borrow.Author.Tests.{leb-true}
use Rattle.kinds.specs.Kinds.{kind_of}
use Rattle.kinds.specs.declared.Kind.TheVariants.{And2, And3, Xor2, Maj, AndN, Buf, Dff}
use Rattle.laws.specs.Lists.{All}
use Rattle.laws.proofs.Choices.{clash}
use Rattle.model.specs.Signal.{is_inverted, word_of, flip, neg, without_inversion, from_var, ref, ref_ix, remap_order}
use Rattle.model.specs.Gate.{Gate, Net, Valid, all_below, all_named, all_shaped, combs, fanin, fits_code, fits_table, gates_named, is_topo_sorted, named, shaped, size, sorted_from, wired}
use Rattle.model.specs.Normal.{gate_of, made2, made3, least, most, low3, mid3, high3, and_sorted, make_and, and3_sorted, make_and3, xor_sorted, make_xor, maj_plain, maj_sorted, make_maj, make_dff, without, insert, sorted, uniq, opposed, and_some, and_wide, and_tidy, make_and_n, parity, cancel, xor_some, make_xor_n, normal_k, make_canonical}
use Rattle.model.specs.Network.{Cycle, vars, translation, remap, same_list, same_gate, find_gate, place, dedup_node, dedup_dffs, dedup_combs, dedup_with, walk, cleanup, cleanup_order, down, search, sorts, topo_sort, canonical}
use Rattle.model.specs.Sharing.{merge_dependencies, flat_gate, flats, merged, flatten_nary, flattened_inputs, holds, together, beats, consider, top_with, top_in, top_over, find_best_pair, take_out, replace_in, replace_pair, binaries, consume_binary_gates, greedy, total, all_pairs, round_pairs, round_left, join_round, rounds, join_gate, join_gates, times, uses, once, retain, shared_signals, exclusive_signals, give_back, factoring, places_of, taken, replaced, pair_places, grown, factor_gates, pass_refusal, factor_nary, factor_refusal, share_logic, weight, weights}
use Rattle.model.specs.Evaluate.{after, all_zero, evaluate, forward, gate_value, next, next_state, outputs, run, run_from_zero, shows, signal_value, value_of}
use Rattle.shape.proofs.Loops.{cycle_unsorted}
use Rattle.promises.proofs.Cases.{i0, i1, i2, i3, x0, x1}
use Rattle.meaning.proofs.PromisedMappings.{node_in, signal_in}
use Rattle.meaning.proofs.RemapRuns.{carry}

-- a network that share takes
pub record Taken (N : Net) (limit : ℕ) : Type 0 where
  pub valid : Valid N
  pub in_order : is_topo_sorted N ≡ true
  pub not_10 : flattened_inputs N limit ≤ 2048
  pub not_11_12 : factor_refusal (flatten_nary N limit) ≡ 0

fits : (N : Net) → leb N.inputs 1024 ≡ true → leb (size N) 512 ≡ true → leb (length N.outs) 64 ≡ true → all_shaped N.nodes ≡ true
    → leb (fanin N.nodes) 2048 ≡ true → wired N ≡ true → Valid N
fits N i n o g f w = record {
  inputs_few = leb-true _ _ i;
  nodes_few = leb-true _ _ n;
  outs_few = leb-true _ _ o;
  gates_shaped = g;
  ins_few = leb-true _ _ f;
  signals = w;
}

takes : (N : Net) (limit : ℕ) → Valid N → is_topo_sorted N ≡ true → leb (flattened_inputs N limit) 2048 ≡ true → factor_refusal (flatten_nary N limit) ≡ 0 → Taken N limit
takes N limit v s m r = record { valid = v; in_order = s; not_10 = leb-true _ _ m; not_11_12 = r }

-- ---- the networks, of four inputs

abbrev net_of4 : List Gate → List ℕ → Net
net_of4 gates outputs = record { inputs = 4; nodes = gates; outs = outputs }

abbrev one_and : Net
one_and = net_of4 (gate_of And2 (i0 ∷ i1 ∷ []) ∷ []) (x0 ∷ [])

abbrev wide_and : Net
wide_and = net_of4 (gate_of And3 (i0 ∷ i1 ∷ i2 ∷ []) ∷ []) (x0 ∷ [])

-- i1 and i2 are taken together first, so that the last gate no longer has its two halves
abbrev crossing : Net
crossing =
    net_of4 (gate_of And2 (i1 ∷ i2 ∷ []) ∷ gate_of And2 (i0 ∷ i1 ∷ []) ∷ gate_of And2 (i2 ∷ i3 ∷ []) ∷ gate_of And2 (x1 ∷ from_var 2 ∷ []) ∷ [])
    (x0 ∷ x1 ∷ from_var 2 ∷ from_var 3 ∷ [])

abbrev majority : Net
majority = net_of4 (gate_of Maj (i0 ∷ i1 ∷ i2 ∷ []) ∷ []) (x0 ∷ [])

-- a flip-flop that stores zero, and one that turns over
abbrev zeroed : Net
zeroed = net_of4 (gate_of Dff (0 ∷ 1 ∷ 0 ∷ []) ∷ []) (x0 ∷ [])

abbrev toggle : Net
toggle = net_of4 (gate_of Dff (neg x0 ∷ 1 ∷ 0 ∷ []) ∷ []) (x0 ∷ [])

-- an And that its one user lets go: Xor2(x0,x0)
abbrev let_go : Net
let_go = net_of4 (gate_of And2 (i0 ∷ i1 ∷ []) ∷ gate_of Xor2 (x0 ∷ x0 ∷ []) ∷ []) (x1 ∷ [])

-- four flip-flops in a row behind a zero: each of share's three canonical steps takes one away
abbrev chain : Net
chain =
    net_of4 (gate_of Dff (x1 ∷ 1 ∷ 0 ∷ []) ∷ gate_of Dff (from_var 2 ∷ 1 ∷ 0 ∷ []) ∷ gate_of Dff (from_var 3 ∷ 1 ∷ 0 ∷ []) ∷ gate_of Dff (0 ∷ 1 ∷ 0 ∷ []) ∷ [])
    (x0 ∷ [])

-- a gate that no output reaches, and two gates out of order
abbrev unreached : Net
unreached = net_of4 (gate_of AndN [] ∷ []) []

abbrev unsorted : Net
unsorted = net_of4 (gate_of Buf (x1 ∷ []) ∷ gate_of Buf (i0 ∷ []) ∷ []) (x0 ∷ [])

-- ---- what they come to

record Computed : Type 0 where
  one_and_lem : Taken one_and 64
  one_and_left : combs (share_logic one_and 64).nodes ≡ 1
  one_and_weighs : weights (flatten_nary one_and 64).nodes ≡ 1
  wide_and_lem : Taken wide_and 64
  wide_and_left : combs (share_logic wide_and 64).nodes ≡ 2
  wide_and_flattened : combs (flatten_nary wide_and 64).nodes ≡ 1
  cross : Taken crossing 64
  cross_left : combs (share_logic crossing 64).nodes ≡ 5
  cross_source : weights (canonical crossing).nodes ≡ 4
  maj : Taken majority 64
  maj_left_lem : (share_logic majority 64).nodes ≡ gate_of Maj (i2 ∷ i1 ∷ i0 ∷ []) ∷ []
  zero : Taken zeroed 64
  zero_from_one : run zeroed (λ v. true) ([] ∷ []) ≡ (true ∷ []) ∷ []
  zero_shared : run (share_logic zeroed 64) (λ v. true) ([] ∷ []) ≡ (false ∷ []) ∷ []
  turn : Taken toggle 64
  turn_first : run_from_zero toggle ([] ∷ []) ≡ (false ∷ []) ∷ []
  turn_later : run (share_logic toggle 64) (after (share_logic toggle 64) all_zero ([] ∷ [])) ([] ∷ []) ≡ (true ∷ []) ∷ []
  let_go_lem : Taken let_go 64
  let_go_left : size (share_logic let_go 64) ≡ 1
  let_go_reached : size (cleanup (share_logic let_go 64)) ≡ 0
  in_row : Taken chain 64
  in_row_left : size (share_logic chain 64) ≡ 1
  in_row_canonical : size (canonical (share_logic chain 64)) ≡ 0
  in_row_again : size (share_logic (share_logic chain 64) 64) ≡ 0
  lost : Valid unreached
  lost_in_order : is_topo_sorted unreached ≡ true
  lost_value : node_in unreached all_zero [] [] 0 ≡ true
  lost_mapped : signal_in (cleanup unreached) (carry (cleanup_order unreached) all_zero) [] [] (translation (size unreached) (cleanup_order unreached) 0) ≡ false
  turned : Valid unsorted
  turned_unsorted : is_topo_sorted unsorted ≡ false
  turned_sorts : sorts unsorted ≡ true

computed : Computed
unfolding kind_of is_inverted word_of flip without_inversion ref ref_ix remap_order made2 made3 least most low3 mid3 high3 and_sorted make_and and3_sorted make_and3 xor_sorted make_xor maj_plain maj_sorted make_maj make_dff without insert sorted uniq opposed and_some and_wide and_tidy make_and_n parity cancel xor_some make_xor_n normal_k make_canonical vars translation remap same_list same_gate find_gate place dedup_node dedup_dffs dedup_combs dedup_with walk cleanup down search topo_sort merge_dependencies flat_gate flats merged flatten_nary flattened_inputs holds together beats consider top_with top_in top_over find_best_pair take_out replace_in replace_pair binaries consume_binary_gates greedy total all_pairs round_pairs round_left join_round rounds join_gate join_gates times uses once retain shared_signals exclusive_signals give_back factoring places_of taken replaced pair_places grown factor_gates pass_refusal factor_nary factor_refusal share_logic weight weights combs fanin all_shaped shaped fits_code fits_table wired gates_named all_named named is_topo_sorted sorted_from all_below value_of next_state signal_value gate_value shows forward evaluate outputs next
computed = record {
  one_and_lem = takes one_and 64 (fits one_and refl refl refl refl refl refl) refl refl refl;
  one_and_left = refl;
  one_and_weighs = refl;
  wide_and_lem = takes wide_and 64 (fits wide_and refl refl refl refl refl refl) refl refl refl;
  wide_and_left = refl;
  wide_and_flattened = refl;
  cross = takes crossing 64 (fits crossing refl refl refl refl refl refl) refl refl refl;
  cross_left = refl;
  cross_source = refl;
  maj = takes majority 64 (fits majority refl refl refl refl refl refl) refl refl refl;
  maj_left_lem = refl;
  zero = takes zeroed 64 (fits zeroed refl refl refl refl refl refl) refl refl refl;
  zero_from_one = refl;
  zero_shared = refl;
  turn = takes toggle 64 (fits toggle refl refl refl refl refl refl) refl refl refl;
  turn_first = refl;
  turn_later = refl;
  let_go_lem = takes let_go 64 (fits let_go refl refl refl refl refl refl) refl refl refl;
  let_go_left = refl;
  let_go_reached = refl;
  in_row = takes chain 64 (fits chain refl refl refl refl refl refl) refl refl refl;
  in_row_left = refl;
  in_row_canonical = refl;
  in_row_again = refl;
  lost = fits unreached refl refl refl refl refl refl;
  lost_in_order = refl;
  lost_value = refl;
  lost_mapped = refl;
  turned = fits unsorted refl refl refl refl refl refl;
  turned_unsorted = refl;
  turned_sorts = refl;
}

-- ---- so these are false, of the networks that share takes

abbrev Always : (Net → ℕ → Type 0) → Type 0
Always P = (N : Net) (limit : ℕ) → Taken N limit → P N limit

-- the bound one gate lower; over the canonical source; over the gates of the flattened network, not their weights
pub bound_no_lower : Always (λ N limit. combs (share_logic N limit).nodes < weights (flatten_nary N limit).nodes) → ⊥
bound_no_lower claim = let c = computed in omega (arith, claim one_and 64 c.one_and_lem, c.one_and_left, c.one_and_weighs)

pub bound_not_over_source : Always (λ N limit. combs (share_logic N limit).nodes ≤ weights (canonical N).nodes) → ⊥
bound_not_over_source claim = let c = computed in omega (arith, claim crossing 64 c.cross, c.cross_left, c.cross_source)

pub bound_not_by_count : Always (λ N limit. combs (share_logic N limit).nodes ≤ combs (flatten_nary N limit).nodes) → ⊥
bound_not_by_count claim = let c = computed in omega (arith, claim wide_and 64 c.wide_and_lem, c.wide_and_left, c.wide_and_flattened)

-- two inputs for every gate
pub not_all_two_inputs : Always (λ N limit. All (λ (g : Gate). length g.ins ≡ 2) (share_logic N limit).nodes) → ⊥
not_all_two_inputs claim =
    let c = computed in
    let two : All (λ (g : Gate). length g.ins ≡ 2) (gate_of Maj (i2 ∷ i1 ∷ i0 ∷ []) ∷ []) = rw c.maj_left_lem at (claim majority 64 c.maj) in
    omega (arith, two.0)

-- the same outputs from any state; those of later cycles
unequal : {a b : Bool} → (a ∷ []) ∷ [] ≡ (b ∷ []) ∷ [] → a ≡ b
unequal e = cc

pub not_from_any_state : Always (λ N limit. (st : ℕ → Bool) (is : List (List Bool)) → run N st is ≡ run (share_logic N limit) st is) → ⊥
not_from_any_state claim =
    let c = computed in
    clash refl (sym (unequal (sym c.zero_shared ∙ sym (claim zeroed 64 c.zero (λ v. true) ([] ∷ [])) ∙ c.zero_from_one)))

pub not_later : Always (λ N limit. (is : List (List Bool)) → run_from_zero N is ≡ run (share_logic N limit) (after (share_logic N limit) all_zero is) is) → ⊥
not_later claim =
    let c = computed in
    clash refl (unequal (sym c.turn_later ∙ sym (claim toggle 64 c.turn ([] ∷ [])) ∙ c.turn_first))

-- every node of the result is reached; the result is canonical; sharing again changes nothing
pub not_all_reached : Always (λ N limit. cleanup (share_logic N limit) ≡ share_logic N limit) → ⊥
not_all_reached claim = let c = computed in omega (arith, ap size (claim let_go 64 c.let_go_lem), c.let_go_left, c.let_go_reached)

pub not_canonical : Always (λ N limit. canonical (share_logic N limit) ≡ share_logic N limit) → ⊥
not_canonical claim = let c = computed in omega (arith, ap size (claim chain 64 c.in_row), c.in_row_left, c.in_row_canonical)

pub not_idempotent : Always (λ N limit. share_logic (share_logic N limit) limit ≡ share_logic N limit) → ⊥
not_idempotent claim = let c = computed in omega (arith, ap size (claim chain 64 c.in_row), c.in_row_left, c.in_row_again)

-- ---- and these of valid networks

-- cleanup's mapped signal has the value of a removed node too
pub removed_not_mapped : ((N : Net) → Valid N → is_topo_sorted N ≡ true → (st : ℕ → Bool) (is : List (List Bool)) (i : List Bool) (n : ℕ) → n < size N
    → signal_in (cleanup N) (carry (cleanup_order N) st) is i (translation (size N) (cleanup_order N) n) ≡ node_in N st is i n) → ⊥
removed_not_mapped claim =
    let c = computed in
    clash c.lost_value (sym (claim unreached c.lost c.lost_in_order all_zero [] [] 0 (omega arith)) ∙ c.lost_mapped)

-- what is not sorted has a loop
pub unsorted_not_a_loop : ((N : Net) → Valid N → is_topo_sorted N ≡ false → Cycle N) → ⊥
unsorted_not_a_loop claim =
    let c = computed in
    clash c.turned_sorts (cycle_unsorted unsorted c.turned.signals (claim unsorted c.turned c.turned_unsorted))
