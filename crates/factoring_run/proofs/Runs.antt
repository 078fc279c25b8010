-- Laws of Factoring::run over the lists of a network's gates, step by step.
use Prim.Native.Nat.{ℕ, ◌+◌, ◌<◌, ◌≤◌}
use mathlib.Core.Path.{ap, refl, sym, ◌∙◌, ◌≡◌}
use mathlib.Core.Bool.{not}
use mathlib.Core.List.{List, [], map}
use native.Mathlib.Omega.{arith}
use native.Mathlib.Nat.{add-zero}
use lib.ListN.{get_or, length}
use borrow.Author.Tests.{lt-leb}
use Rattle.factoring_run.specs.Running.{Asked, Finished, Halfway, Loaded, Sharable}
use Rattle.factoring.specs.Turned.{Went, fitted}
use Rattle.laws.specs.Lists.{tab}
use Rattle.model.specs.Sharing.{all_pairs, consume_binary_gates, exclusive_signals, factoring, give_back, join_gates, once, retain, shared_signals}
use Rattle.pairs.specs.Lists.{Laid, left_at, list_at, lists_of, pair_at, start_at}
use Rattle.pairs.specs.States.{Ready, state_of}
use Rattle.give_back.specs.Giving.{Givable, GivenBack}
use Rattle.uses.specs.Loading.{Between, Loadable, Marked, SameLists, Separated, lists_in}
use Rattle.growth.proofs.Wholes.{source_of}
use Rattle.factoring.proofs.Rounds.{built_gates}
use Rattle.factoring.proofs.Turns.{placed_here, placed_on, ready_next, went_full, went_le, went_over, went_placed, went_state}
use Rattle.laws.proofs.Lists.{get_or_map_in}
use Rattle.laws.proofs.Tabs.{tab_ext}
use Rattle.pairs.proofs.Gates.{front_ext, get_or_lists, length_list}
use Rattle.pairs.proofs.Stated.{pair≡, state≡}
use Rattle.shape.proofs.FactoringEnds.{factoring_parts, given, paired, paired_shorter, shorter_at}
use Rattle.shape.proofs.FactoringFuel.{built_all_pairs}
use Rattle.uses.proofs.Loads.{shared_of}
use Rattle.uses.proofs.Walks.{between_same}
use Rattle.kinds.specs.declared.Family.{Family}
use Rattle.tables.specs.declared.counts.Counts.{Counts}
use Rattle.std.specs.Prelude.{Option, Some, None}

-- ---- share_pairs

module _ (l m : List ℕ) (g n room : ℕ) (r : Option ℕ) (w : Went l m g n room r (consume_binary_gates (state_of l g n 0) g)) where
  pub share_full : r ≡ None → Went l m g n room None (all_pairs (consume_binary_gates (state_of l g n 0) g))
  share_full e = went_full l m g n room _ (omega (arith, went_over l m g n room r _ w e, built_all_pairs (consume_binary_gates (state_of l g n 0) g)))

  pub share_done : (k : ℕ) → r ≡ Some k → (o : List ℕ) (q : Option ℕ) → Went m o g n room q (all_pairs (state_of m g n k)) → Went l o g n room q (all_pairs (consume_binary_gates (state_of l g n 0) g))
  share_done k e o q x =
      let y : Went m o g n room q (all_pairs (consume_binary_gates (state_of l g n 0) g)) = rw (← (went_state l m g n room r _ w k e)) x in
      record { answer = y.answer; held = λ u. (placed_on l m o g (went_placed l m g n room r _ w k e) (y.held u).0, (y.held u).1) }

-- ---- finalize

paired_is : (gs : List (List ℕ)) (n g : ℕ) → g ≡ length gs → all_pairs (consume_binary_gates (record { lists = shared_signals gs; next = n; built = [] }) g) ≡ paired gs n
unfolding paired
paired_is gs n g e = rw e

-- counting again leaves the state
module _ (l m : List ℕ) (S : SameLists l m) (g : ℕ) (L : Laid l g) where
  same_list_lem : (i : ℕ) → i < g → list_at m i ≡ list_at l i
  unfolding list_at
  same_list_lem i h = rw (S.starts i, S.lefts i) (front_ext m l (start_at l i) (left_at l i) (λ j q. S.sigs (start_at l i + j) (omega (arith, L.ends i h))))

  same_lists : lists_of m g ≡ lists_of l g
  unfolding lists_of
  same_lists = tab_ext (list_at m) (list_at l) g same_list_lem

module _ (gs : List (List ℕ)) (from l : List ℕ) (g n k room : ℕ) (H : Halfway gs from l g n k room) (m : List ℕ) (M : Marked gs l m) where
  short : (w : ℕ) → w < length gs → left_at m w ≤ length (shared_of gs w)
  unfolding state_of shared_signals
  short w h =
      let e : lists_of l g ≡ (paired gs n).lists = ap (λ s. s.lists) (H.state ∙ paired_is gs n g H.gates) in
      let a = shorter_at (shared_signals gs) (paired gs n).lists (paired_shorter gs n) w in
      let b : get_or (map (retain (λ x. not (once gs x))) gs) w [] ≡ shared_of gs w = get_or_map_in (retain (λ x. not (once gs x))) gs [] [] w h in
      let q : w < g = rw H.gates h in
      let d : get_or (paired gs n).lists w [] ≡ list_at l w = rw (← e) (get_or_lists l g w q) in
      omega (arith, M.same.lefts w, length_list l w, ap length d, ap length b, a)

  pub final_givable : Givable gs from m n
  final_givable = record {
    between = between_same from l m n H.between M.same.long;
    counted = M.counted;
    starts = λ w h. M.same.starts w ∙ H.starts w (rw H.gates h);
    short = short;
  }

  module _ (o : List ℕ) (G : GivenBack gs m o) where
    given_state : state_of o g n k ≡ given gs n
    unfolding state_of given pair_at
    given_state =
        let e = H.state ∙ paired_is gs n g H.gates in
        let a : lists_of l g ≡ (paired gs n).lists = ap (λ s. s.lists) e in
        state≡
        (ap (lists_of o) H.gates ∙ G.lists ∙ ap (λ x. give_back (lists_of m x) (exclusive_signals gs)) (sym H.gates) ∙ ap (λ x. give_back x (exclusive_signals gs)) (same_lists l m M.same g H.ready.laid ∙ a))
        (ap (λ s. s.next) e)
        (tab_ext _ _ k pair_same ∙ ap (λ s. s.built) e)
      where
        pair_same : (j : ℕ) → j < k → pair_at o (n + j) ≡ pair_at l (n + j)
        pair_same j h =
            G.pairs (n + j) (omega (arith, H.gates, H.ready.old)) (omega (arith, H.ready.nodes, H.ready.more))
            ∙ pair≡ (M.same.starts (n + j)) (M.same.lefts (n + j))

    pub final_ready : Ready o g n k room
    final_ready = record { laid = rw H.gates G.laid; old = H.ready.old; nodes = H.ready.nodes; more = H.ready.more }

    pub final_done : (q : List ℕ) (r : Option ℕ) → Went o q g n room r (join_gates (state_of o g n k) g) → Finished gs q g n room r
    final_done q r w =
        let e : join_gates (state_of o g n k) g ≡ factoring gs n = rw (given_state, H.gates) (sym (factoring_parts gs n)) in
        let w' : Went o q g n room r (factoring gs n) = rw e at w in
        record { answer = w'.answer; held = λ u. ((w'.held u).0.laid, (w'.held u).1) }

pub ruleset finals = (final_givable, final_ready, final_done)

-- ---- run

module _ (gs : List (List ℕ)) (m : List ℕ) (g n room : ℕ) (r : Option ℕ) (F : Finished gs m g n room r) where
  finished_went : Went m m g n room r (factoring gs n)
  finished_went = record { answer = F.answer; held = λ u. (placed_here m g (F.held u).0, (F.held u).1) }

  module _ (k : ℕ) (e : r ≡ Some k) where
    pub finished_le : k ≤ room
    finished_le = went_le m m g n room r (factoring gs n) finished_went k e

    pub finished_laid : Laid m g
    finished_laid = (went_placed m m g n room r (factoring gs n) finished_went k e).laid

    pub finished_state : state_of m g n k ≡ factoring gs n
    finished_state = went_state m m g n room r (factoring gs n) finished_went k e

  pub finished_over : r ≡ None → room < length (factoring gs n).built
  finished_over e = went_over m m g n room r (factoring gs n) finished_went e

built_given : (gs : List (List ℕ)) (n : ℕ) → length (paired gs n).built ≤ length (factoring gs n).built
unfolding given
built_given gs n = rw (factoring_parts gs n) (built_gates (given gs n) (length gs))

module _ (gs : List (List ℕ)) (from l : List ℕ) (g n room : ℕ) (L : Loaded gs from l g n) (a : g ≤ n) (b : n + room ≤ 512) where
  begin : state_of l g n 0 ≡ record { lists = shared_signals gs; next = n; built = [] }
  unfolding state_of tab
  begin = state≡ L.lists.lists (add-zero n) refl

  pub run_ready : Ready l g n 0 room
  run_ready = record { laid = L.lists.laid; old = a; nodes = b; more = omega arith }

  module _ (m : List ℕ) (r : Option ℕ) (w : Went l m g n room r (all_pairs (consume_binary_gates (state_of l g n 0) g))) where
    pub run_half : (k : ℕ) → r ≡ Some k → length m ≡ length l → Halfway gs from m g n k room
    run_half k e len = record {
      between = between_same from l m n L.between len;
      gates = L.lists.gates;
      ready = ready_next l m g n 0 room k r _ run_ready w e;
      starts = λ i h. (went_placed l m g n room r _ w k e).starts i h ∙ L.lists.starts i h;
      state = went_state l m g n room r _ w k e ∙ rw begin;
    }

    pub run_full : r ≡ None → Finished gs m g n room None
    unfolding fitted
    run_full e =
        let a = went_over l m g n room r _ w e in
        let p : all_pairs (consume_binary_gates (state_of l g n 0) g) ≡ paired gs n = rw begin (paired_is gs n g L.lists.gates) in
        let b : room < length (paired gs n).built = rw p at a in
        let q : room < length (factoring gs n).built = omega (arith, built_given gs n) in
        record { answer = rw (lt-leb (length (factoring gs n).built) room q); held = λ u. absurd (omega arith) }

-- ---- load_lists

module _ (f : Family) (from l : List ℕ) (c : Counts) (A : Asked from l c) where
  pub pass_between : Between from l c.nodes
  pass_between = record { source = source_of from c A.held; long = A.long }

  pub pass_loadable : (m : List ℕ) → Marked (lists_in f from c.nodes) l m → Loadable (lists_in f from c.nodes) from m c.nodes
  pass_loadable m M = record { between = between_same from l m c.nodes pass_between M.same.long; counted = M.counted }

  pub pass_sharable : (o : List ℕ) (g : ℕ) → length o ≡ length l → Separated (lists_in f from c.nodes) o g → Sharable f from o c g
  pass_sharable o g len S = record { held = A.held; between = between_same from l o c.nodes pass_between len; lists = S }

pub ruleset loads = (pass_between, pass_loadable, pass_sharable)
