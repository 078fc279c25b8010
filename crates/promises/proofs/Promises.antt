-- THE PROMISES on one page: each in words, then exactly, then its proof from crates/shape and crates/meaning.
--
-- `(x : A) → P` says: for every x of A, P. `P → Q`: if P, then Q. `P × Q`: P and Q. `P ↔ Q`: P exactly when Q. `a ≡ b`: a is b.
-- What a line `module _ ..` supposes is supposed in all that is set in below it. A line that begins with the name of the statement above
-- it is that statement's proof. The words are defined in crates/model/specs; the main ones:
--   net_of img, image_of N   the network that an image holds; the image of a network
--   Valid, is_topo_sorted    what an image's network is when the numbers 2 to 6, and 7, are not met
--   run_from_zero N is       the outputs of every cycle, the flip-flops starting at zero; `is` has the inputs of each cycle, as many
--                            cycles as one likes. `run N st is` starts from the states st
--   Kept, Kept2              the contract of every entry: its answer as document 01 counts it (r, which is `numbered result` in the
--                            contract), and the slices at exit (primed) from those at entry
-- and in crates/meaning/proofs/PromisedMappings:
--   signal_in N st is i s    the value of signal s in the cycle with inputs i, after cycles with inputs `is` from the states st
--   node_in N st is i n      the value of node n in that cycle
use mathlib.Core.Path.{◌≡◌, ◌∙◌}
use mathlib.Core.Logic.Iff
use mathlib.Core.Logic.{◌↔◌, ◌≢◌}
use Prim.Native.Nat.{ℕ, ◌≤◌, ◌<◌}
use mathlib.Core.Bool.{Bool, true, false, cond}
use mathlib.Core.List.{List, [], map}
use lib.ListN.{length, take}
use lib.Dec.{ltb}
use borrow.Author.Tests.{le-leb, lt-leb, ne_eqb}
use Rattle.model.specs.Answers.{Answer}
use Rattle.std.specs.Prelude.{Ok, Err}
use Rattle.kinds.specs.Kinds.{kind_of}
use Rattle.kinds.specs.declared.Family.{Family}
use Rattle.laws.specs.Bools.{bit}
use Rattle.laws.specs.Lists.{All}
use Rattle.laws.proofs.Choices.{clash}
use Rattle.model.specs.Gate.{Gate, Net, Valid, combs, is_topo_sorted, size}
use Rattle.model.specs.Normal.{make_canonical}
use Rattle.model.specs.Network.{Cycle, Reach, as_is, canonical, cleanup, cleanup_order, dedup_map, deduplicate, sorts, topo_order, topo_sort, translation}
use Rattle.model.specs.Sharing.{State, all_pairs, any_repeats, factor_gates, factor_nary, factor_refusal, factoring, find_best_pair, flatten_nary, flattened_inputs, grown, inside, is_simple, merged, pass_refusal, share_logic, taken, weights}
use Rattle.model.specs.Image.{Bytes, body_of, image_of, net_of, refusal_of, sorted_refusal_of}
use Rattle.model.specs.Evaluate.{Eval, Solves, after_by, all_zero, at, evaluate, run, run_by, run_from_zero, truth, truths}
use Rattle.model.specs.Answers.{Kept, Kept2, answer_of, areas_short, in_areas, in_room, unless, written}
use Rattle.model.specs.Entries.{calls, canonical_outcome, cleanup_outcome, dedup_outcome, factor_outcome, flatten_outcome, read_outcome, share_outcome, sort_outcome}
use Rattle.shape.specs.Forms.{Kept as Stands}
use Rattle.shape.proofs.Cleanup.{cleanup_combs, kept_reach, reach_kept, removed_zero}
use Rattle.shape.proofs.Dedup.{dedup_combs_lem}
use Rattle.shape.proofs.DedupNormal.{as_is_law, canonical_law}
use Rattle.shape.proofs.FactoringBest.{Before, Last, all_pairs_none_two, best_fold, fold_last, no_pair, pairs_in}
use Rattle.shape.proofs.FactoringGrown.{ended, ended_one}
use Rattle.shape.proofs.FactoringPass.{pass_grown, pass_sorted, pass_sorts, pass_valid}
use Rattle.shape.proofs.Flatten.{flatten_valid, merged_valid}
use Rattle.shape.proofs.Loops.{cycle_unsorted, unsorted_cycle}
use Rattle.shape.proofs.RoundTrips.{read_written, written_read}
use Rattle.shape.proofs.Sort.{sort_combs}
use Rattle.shape.proofs.Valids.{valid_net}
use Rattle.meaning.proofs.Accepted.{kept_found, unless_twice}
use Rattle.promises.proofs.Answering.{told}
use Rattle.promises.proofs.Calls.{Good, calls_run, given}
use Rattle.promises.proofs.Cases.{Cases, cases}
use Rattle.meaning.proofs.CleanupRuns.{cleanup_probe, cleanup_runs_from}
use Rattle.meaning.proofs.DedupRuns.{canonical_probe, canonical_runs, deduplicate_probe, deduplicate_runs}
use Rattle.meaning.proofs.FlattenRuns.{flatten_runs}
use Rattle.meaning.proofs.PromisedImages.{Wrote, factor_wrote, flatten_wrote, read_writes, share_wrote}
use Rattle.meaning.proofs.PromisedMappings.{Carried, canonical_carried, cleanup_carried, dedup_carried, node_in, signal_in, sort_8, sort_carried}
use Rattle.meaning.proofs.RemapRuns.{carry}
use Rattle.meaning.proofs.ShareForms.{share_bound, share_simple, share_two}
use Rattle.meaning.proofs.ShareRuns.{factor_runs, share_runs}
use Rattle.meaning.proofs.SortRuns.{sort_probe, sort_runs_from, sort_solves}

-- ---- 1. Flatten, factor and share, of networks that are valid and sorted

module _ (N : Net) (valid : Valid N) (sorted : is_topo_sorted N ≡ true) where
  -- Flatten, with any limit, where gate inputs do not pass 2,048 (number 10): the same outputs in every cycle.
  pub flatten_same_outputs : (limit : ℕ) → flattened_inputs N limit ≤ 2048 → (is : List (List Bool)) → run_from_zero N is ≡ run_from_zero (flatten_nary N limit) is
  flatten_same_outputs limit not_10 is = flatten_runs N limit valid sorted not_10 is

  -- Factor, where no And lists a signal twice (9) and neither pass meets 11 or 12: the same outputs in every cycle.
  pub factor_same_outputs : any_repeats N.nodes ≡ false → factor_refusal N ≡ 0 → (is : List (List Bool)) → run_from_zero N is ≡ run_from_zero (factor_nary N) is
  factor_same_outputs not-9 not_11_12 is = factor_runs N valid sorted not-9 not_11_12 is

  -- Share, with any limit, where flattening does not meet 10, and factoring what was flattened neither 11 nor 12:
  module _ (limit : ℕ) (not_10 : flattened_inputs N limit ≤ 2048) (not_11_12 : factor_refusal (flatten_nary N limit) ≡ 0) where
    -- the same outputs in every cycle;
    pub share_same_outputs : (is : List (List Bool)) → run_from_zero N is ≡ run_from_zero (share_logic N limit) is
    share_same_outputs is = share_runs N limit valid sorted not_10 not_11_12 is

    -- every gate is an And2, Xor2, Maj, Mux, Dff or Lut;
    pub share_simple_gates : All (λ (g : Gate). is_simple (kind_of g.kind) ≡ true) (share_logic N limit).nodes
    share_simple_gates = share_simple N limit valid sorted not_10 not_11_12

    -- every And, and every Xor, has two inputs;
    pub share_two_inputs : (f : Family) → All (λ (g : Gate). inside f g ≡ true → length g.ins ≡ 2) (share_logic N limit).nodes
    share_two_inputs = share_two N limit valid sorted not_10 not_11_12

    -- no more combinational gates than the flattened network weighs: inputs less one for And and Xor, one for each other gate.
    pub share_gate_bound : combs (share_logic N limit).nodes ≤ weights (flatten_nary N limit).nodes
    share_gate_bound = share_bound N limit valid sorted not_10 not_11_12

-- ---- 2. The entries flatten, factor and share, from their contracts: of any image, buffers and areas

-- What such an entry answers, line by line: k is the number that the pass itself meets, or 0, and `image` the image of its result. The five
-- cases exclude each other, and there is no sixth: so each number is answered exactly where its line says, and acceptance everywhere else.
pub record Answers (img out a b : List ℕ) (k : ℕ) (image : List ℕ) (r : Answer) : Type 0 where
  pub on_1 : areas_short a b ≡ true → r ≡ Err 1
  pub on_2_to_7 : areas_short a b ≡ false → sorted_refusal_of img ≢ 0 → r ≡ Err (sorted_refusal_of img)
  pub on_9_to_12 : areas_short a b ≡ false → sorted_refusal_of img ≡ 0 → k ≢ 0 → r ≡ Err k
  pub on_13 : areas_short a b ≡ false → sorted_refusal_of img ≡ 0 → k ≡ 0 → length out < length image → r ≡ Err 13
  pub on_0 : areas_short a b ≡ false → sorted_refusal_of img ≡ 0 → k ≡ 0 → length image ≤ length out → r ≡ Ok (length image)

answers : (img out a b : List ℕ) (k : ℕ) (image : List ℕ) (r : Answer) → r ≡ answer_of (in_areas a b (in_room (length out) 0 (unless (sorted_refusal_of img) (unless k (written image [])))))
    → Answers img out a b k image r
answers img out a b k image r e =
    let t = told img out a b k image r e in
    record { on_1 = t.0; on_2_to_7 = t.1; on_9_to_12 = t.2; on_13 = t.3; on_0 = t.4 }

-- Share was called with img, out, a, b and a limit, and answered r:
module _ (img out a b : List ℕ) (limit : ℕ) (r : Answer) (out' a' b' : List ℕ) (call : Kept (share_outcome img out a b limit) out a b r out' a' b') where
  -- 10 where gate inputs pass 2,048, else 11 or 12 as factoring the flattened network meets them;
  pub share_answers : Answers img out a b (cond (ltb 2048 (flattened_inputs (net_of img) limit)) 10 (factor_refusal (flatten_nary (net_of img) limit))) (image_of (share_logic (net_of img) limit)) r
  unfolding share_outcome
  share_answers = let t = told img out a b _ _ r (call.answer ∙ rw (unless_twice (ltb 2048 (flattened_inputs (net_of img) limit)) 9)) in record { on_1 = t.0; on_2_to_7 = t.1; on_9_to_12 = t.2; on_13 = t.3; on_0 = t.4 }

  -- Where it accepted with length n, the image that it wrote is the first n bytes of out:
  module _ (n : ℕ) (accepts : r ≡ Ok n) where
    -- (what it wrote, from below)
    wrote : Wrote img ((flattened_inputs (net_of img) limit ≤ 2048) × (factor_refusal (flatten_nary (net_of img) limit) ≡ 0)) (share_logic (net_of img) limit) n out'
    wrote = share_wrote img out a b r out' a' b' n accepts limit call

    -- it is the image of the shared network, and n is its length;
    pub share_image_is : take n out' ≡ image_of (share_logic (net_of img) limit)
    share_image_is = wrote.image

    pub share_image_length : n ≡ length (image_of (share_logic (net_of img) limit))
    share_image_length = wrote.long

    -- it is accepted in turn, by every entry that asks for a sorted image;
    pub share_image_accepted : sorted_refusal_of (take n out') ≡ 0
    share_image_accepted = wrote.accepted

    -- running it is running the image that was taken: the same outputs in every cycle;
    pub share_image_same_outputs : (is : List (List Bool)) → run_from_zero (net_of img) is ≡ run_from_zero (net_of (take n out')) is
    share_image_same_outputs is = let w = wrote in rw w.net (share_runs (net_of img) limit w.valid w.sorted w.pass.0 w.pass.1 is)

    -- its gates are simple, its Ands and Xors have two inputs, and they are no more than the flattened network of img weighs.
    pub share_image_simple_gates : All (λ (g : Gate). is_simple (kind_of g.kind) ≡ true) (net_of (take n out')).nodes
    share_image_simple_gates = let w = wrote in rw w.net (share_simple_gates (net_of img) w.valid w.sorted limit w.pass.0 w.pass.1)

    pub share_image_two_inputs : (f : Family) → All (λ (g : Gate). inside f g ≡ true → length g.ins ≡ 2) (net_of (take n out')).nodes
    share_image_two_inputs f = let w = wrote in rw w.net (share_two (net_of img) limit w.valid w.sorted w.pass.0 w.pass.1 f)

    pub share_image_gate_bound : combs (net_of (take n out')).nodes ≤ weights (flatten_nary (net_of img) limit).nodes
    share_image_gate_bound = let w = wrote in rw w.net (share_bound (net_of img) limit w.valid w.sorted w.pass.0 w.pass.1)

-- Flatten or factor was called, and answered r; where it accepted with length n its image is accepted, and has the same outputs in every cycle.
module _ (img out a b : List ℕ) (r : Answer) (out' a' b' : List ℕ) where
  pub flatten_answers : (limit : ℕ) → Kept (flatten_outcome img out a b limit) out a b r out' a' b'
      → Answers img out a b (cond (ltb 2048 (flattened_inputs (net_of img) limit)) 10 0) (image_of (flatten_nary (net_of img) limit)) r
  unfolding flatten_outcome
  flatten_answers limit call = let t = told img out a b _ _ r call.answer in record { on_1 = t.0; on_2_to_7 = t.1; on_9_to_12 = t.2; on_13 = t.3; on_0 = t.4 }

  pub factor_answers : Kept (factor_outcome img out a b) out a b r out' a' b'
      → Answers img out a b (cond (any_repeats (net_of img).nodes) 9 (factor_refusal (net_of img))) (image_of (factor_nary (net_of img))) r
  unfolding factor_outcome
  factor_answers call = let t = told img out a b _ _ r (call.answer ∙ rw (unless_twice (any_repeats (net_of img).nodes) 8)) in record { on_1 = t.0; on_2_to_7 = t.1; on_9_to_12 = t.2; on_13 = t.3; on_0 = t.4 }

module _ (img out a b : List ℕ) (r : Answer) (out' a' b' : List ℕ) (n : ℕ) (accepts : r ≡ Ok n) where
  module _ (limit : ℕ) (call : Kept (flatten_outcome img out a b limit) out a b r out' a' b') where
    pub flatten_image_accepted : sorted_refusal_of (take n out') ≡ 0
    flatten_image_accepted = (flatten_wrote img out a b r out' a' b' n accepts limit call).accepted

    pub flatten_image_same_outputs : (is : List (List Bool)) → run_from_zero (net_of img) is ≡ run_from_zero (net_of (take n out')) is
    flatten_image_same_outputs is =
        let w = flatten_wrote img out a b r out' a' b' n accepts limit call in
        rw w.net (flatten_same_outputs (net_of img) w.valid w.sorted limit w.pass is)

  module _ (call : Kept (factor_outcome img out a b) out a b r out' a' b') where
    pub factor_image_accepted : sorted_refusal_of (take n out') ≡ 0
    factor_image_accepted = (factor_wrote img out a b r out' a' b' n accepts call).accepted

    pub factor_image_same_outputs : (is : List (List Bool)) → run_from_zero (net_of img) is ≡ run_from_zero (net_of (take n out')) is
    factor_image_same_outputs is =
        let w = factor_wrote img out a b r out' a' b' n accepts call in
        rw w.net (factor_same_outputs (net_of img) w.valid w.sorted w.pass.0 w.pass.1 is)

-- ---- 3. The other passes. Each writes a mapping, a signal of the result for each old node; no pass leaves more combinational gates

module _ (N : Net) (valid : Valid N) (sorted : is_topo_sorted N ≡ true) where
  -- Canonical, from zero: the same outputs in every cycle, and the mapped signal has each old node's value.
  pub canonical_same_outputs : (is : List (List Bool)) → run_from_zero N is ≡ run_from_zero (canonical N) is
  canonical_same_outputs is = canonical_runs N valid sorted is

  pub canonical_mapping : (is : List (List Bool)) (i : List Bool) (n : ℕ) → n < size N → signal_in (canonical N) all_zero is i (dedup_map make_canonical N n) ≡ node_in N all_zero is i n
  canonical_mapping = canonical_probe N valid sorted

  pub canonical_no_more_gates : combs (canonical N).nodes ≤ combs N.nodes
  canonical_no_more_gates = dedup_combs_lem make_canonical canonical_law N valid sorted

  -- Dedup, from zero: likewise.
  pub dedup_same_outputs : (is : List (List Bool)) → run_from_zero N is ≡ run_from_zero (deduplicate N) is
  dedup_same_outputs is = deduplicate_runs N valid sorted is

  pub dedup_mapping : (is : List (List Bool)) (i : List Bool) (n : ℕ) → n < size N → signal_in (deduplicate N) all_zero is i (dedup_map as_is N n) ≡ node_in N all_zero is i n
  dedup_mapping = deduplicate_probe N valid sorted

  pub dedup_no_more_gates : combs (deduplicate N).nodes ≤ combs N.nodes
  dedup_no_more_gates = dedup_combs_lem as_is as_is_law N valid sorted

  -- Cleanup, from any states st, carried to the nodes that are kept: the same outputs in every cycle, and the mapped signal has the
  -- value of each old node that outputs reach.
  pub cleanup_same_outputs : (st : ℕ → Bool) (is : List (List Bool)) → run N st is ≡ run (cleanup N) (carry (cleanup_order N) st) is
  cleanup_same_outputs = cleanup_runs_from N valid sorted

  pub cleanup_mapping : (st : ℕ → Bool) (is : List (List Bool)) (i : List Bool) (n : ℕ) → Reach N n → signal_in (cleanup N) (carry (cleanup_order N) st) is i (translation (size N) (cleanup_order N) n) ≡ node_in N st is i n
  cleanup_mapping = cleanup_probe N valid sorted

module _ (N : Net) (valid : Valid N) where
  -- Cleanup of any network, sorted or not, keeps exactly what outputs reach, and maps the rest to zero.
  pub cleanup_keeps : (v : ℕ) → Stands (cleanup_order N) v ↔ Reach N v
  cleanup_keeps v = (kept_reach N valid.signals v, reach_kept N valid.signals v)

  pub cleanup_removes : (v : ℕ) → (Reach N v → ⊥) → translation (size N) (cleanup_order N) v ≡ 0
  cleanup_removes = removed_zero N valid.signals

  pub cleanup_no_more_gates : combs (cleanup N).nodes ≤ combs N.nodes
  cleanup_no_more_gates = cleanup_combs N valid

  -- Sort fails, with 8, exactly where a path of combinational gates returns to where it began.
  pub sort_fails : (sorts N ≡ false) ↔ Cycle N
  sort_fails = (unsorted_cycle N valid.signals, cycle_unsorted N valid.signals)

  -- Where it does not fail there are values `ev` that all gates agree with; and by whatever such values, from any states st, carried to their
  -- new numbers: the same outputs in every cycle, and the mapped signal has each old node's value.
  pub unsorted_has_values : sorts N ≡ true → (ev : Eval) × Solves N ev
  unsorted_has_values no_loop = (_, sort_solves N valid no_loop)

  module _ (no_loop : sorts N ≡ true) (ev : Eval) (agrees : Solves N ev) where
    pub sort_same_outputs : (st : ℕ → Bool) (is : List (List Bool)) → run_by N ev st is ≡ run (topo_sort N) (carry (topo_order N) st) is
    sort_same_outputs = sort_runs_from N valid no_loop ev agrees

    pub sort_mapping : (st : ℕ → Bool) (is : List (List Bool)) (i : List Bool) (n : ℕ) → n < size N → signal_in (topo_sort N) (carry (topo_order N) st) is i (translation (size N) (topo_order N) n) ≡ ev (at i) (after_by N ev st is) n
    sort_mapping = sort_probe N valid no_loop ev agrees

  pub sort_no_more_gates : sorts N ≡ true → combs (topo_sort N).nodes ≤ combs N.nodes
  sort_no_more_gates = sort_combs N valid

-- Canonical, dedup, cleanup or sort was called with img, out, map, a and b, and accepted with length n; N is the network of img. The image
-- that it wrote is accepted, has the same outputs in every cycle from zero, and word v of the mapping is a signal with node v's value
-- (`Carried`): by the values that evaluation gives, of every node, or of those that outputs reach;
module _ (img out map a b : List ℕ) (r : Answer) (out' map' a' b' : List ℕ) (n : ℕ) (accepts : r ≡ Ok n) where
  abbrev N : Net
  N = net_of img

  pub canonical_image : Kept2 (canonical_outcome img out map a b) out map a b r out' map' a' b' → Carried img (evaluate N) (λ v. v < size N) (take n out') map'
  canonical_image = canonical_carried img out map a b r out' map' a' b' n accepts

  pub dedup_image : Kept2 (dedup_outcome img out map a b) out map a b r out' map' a' b' → Carried img (evaluate N) (λ v. v < size N) (take n out') map'
  dedup_image = dedup_carried img out map a b r out' map' a' b' n accepts

  pub cleanup_image : Kept2 (cleanup_outcome img out map a b) out map a b r out' map' a' b' → is_topo_sorted N ≡ true → Carried img (evaluate N) (Reach N) (take n out') map'
  cleanup_image = cleanup_carried img out map a b r out' map' a' b' n accepts

  -- of sort, which takes unsorted images, by whatever values all gates agree with.
  pub sort_image : Kept2 (sort_outcome img out map a b) out map a b r out' map' a' b' → (ev : Eval) → Solves N ev → Carried img ev (λ v. v < size N) (take n out') map'
  sort_image = sort_carried img out map a b r out' map' a' b' n accepts

-- Sort was called with areas that are long enough and an image that is read: it answers 8 exactly where a path of combinational gates returns.
pub sort_answers_8 : (img out map a b : List ℕ) (r : Answer) (out' map' a' b' : List ℕ) → Kept2 (sort_outcome img out map a b) out map a b r out' map' a' b'
    → areas_short a b ≡ false → refusal_of img ≡ 0 → (r ≡ Err 8) ↔ Cycle (net_of img)
sort_answers_8 img out map a b r out' map' a' b' call long sound =
    rw call.first.answer (Iff.trans (sort_8 img out map a b long sound) (unsorted_cycle (net_of img) (valid_net img sound).signals, cycle_unsorted (net_of img) (valid_net img sound).signals))

-- ---- 4. Images and calls

-- What is written of a valid network is read as that network, and is accepted.
pub reading_what_was_written : (N : Net) → Valid N → net_of (image_of N) ≡ N
reading_what_was_written N valid = (read_written N valid).same

pub written_is_accepted : (N : Net) → Valid N → refusal_of (image_of N) ≡ 0
written_is_accepted N valid = (read_written N valid).accepted

-- What is read of an accepted image is valid, and is written, if the image consists of bytes, as that image without its prefix.
pub accepted_is_valid : (img : List ℕ) → refusal_of img ≡ 0 → Valid (net_of img)
accepted_is_valid img accepted = valid_net img accepted

pub writing_what_was_read : (img : List ℕ) → Bytes img → refusal_of img ≡ 0 → image_of (net_of img) ≡ body_of img
writing_what_was_read img bytes accepted = (written_read img bytes accepted).same

-- Read was called with an image of bytes, and accepted with length n: it wrote that image without its prefix.
pub read_image : (img out a b : List ℕ) (r : Answer) (out' a' b' : List ℕ) → Kept (read_outcome img out a b) out a b r out' a' b' → (n : ℕ) → r ≡ Ok n
    → Bytes img → take n out' ≡ body_of img
read_image img out a b r out' a' b' call n accepts bytes =
    let f = kept_found _ _ [] _ (read_writes img out a b) out a b r out' a' b' call n accepts in
    f.there ∙ (written_read img bytes f.held.source).same

-- Evaluate called once for each of the input vectors xs, each time with the states that the call before left: as long as the calls accept,
-- the bytes that they write are those of a run of the image's network from the first states.
pub calls_are_a_run : (img : List ℕ) (xs : List (List ℕ)) (state out a b : List ℕ) → All Good (calls img xs state out a b)
    → map given (calls img xs state out a b) ≡ map (map bit) (run (net_of img) (truths state) (map (map truth) xs))
calls_are_a_run = calls_run

-- The cases marked P of document 01, as one list (Cases).
pub cases_marked_P : Cases
cases_marked_P = cases

-- ---- 5. Inside flatten and factor

-- Of all pairs of signals that stand in one gate, none goes before the pair that is replaced next: by a greater count, then by the smaller
-- first word, then by the smaller second (Before).
pub chosen_pair : (gs : List (List ℕ)) → Last gs (find_best_pair gs) (pairs_in gs)
chosen_pair gs = rw (best_fold gs) (fold_last gs no_pair (pairs_in gs)).1

-- Pairs are replaced as long as there are any: then no gate has two signals left.
pub no_pair_left : (s : State) → All (λ l. length l ≤ 1) (all_pairs s).lists
no_pair_left = all_pairs_none_two

-- After the joins each gate has one signal left: a Buf of it takes the gate's place.
pub one_signal_left : (f : Family) (N : Net) → All (λ l. length l ≡ 1) (factoring (taken f N.nodes) (size N)).lists
unfolding ended
one_signal_left f N = ended_one f N

-- Every network on the way is valid and sorted: the flattened one before cleanup and after, and a pass's; and the network that a pass grows has
-- no loop, so that 8 cannot happen inside.
module _ (N : Net) (valid : Valid N) (sorted : is_topo_sorted N ≡ true) where
  pub flattened_is_valid : (limit : ℕ) → flattened_inputs N limit ≤ 2048 → Valid (merged N limit) × Valid (flatten_nary N limit)
  flattened_is_valid limit not_10 = (merged_valid N limit valid sorted not_10, flatten_valid N limit valid sorted not_10)

  pub grown_has_no_loop : (f : Family) → pass_refusal f N ≡ 0 → Valid (grown f N) × (Cycle (grown f N) → ⊥)
  grown_has_no_loop f none =
      let v = pass_grown f N valid sorted none in
      (v, λ loop. clash (pass_sorts f N valid sorted none) (cycle_unsorted (grown f N) v.signals loop))

  pub pass_is_valid : (f : Family) → pass_refusal f N ≡ 0 → Valid (factor_gates f N) × (is_topo_sorted (factor_gates f N) ≡ true)
  pass_is_valid f none = (pass_valid f N valid sorted none, pass_sorted f N valid sorted none)
