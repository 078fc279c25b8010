-- Laws of one pass over Factoring::run, with its refusals.
use Prim.Native.Nat.{ℕ, ◌+◌, ◌<◌, ◌≤◌}
use mathlib.Core.Path.{ap, refl, sym, ◌∙◌, ◌≡◌}
use mathlib.Core.List.{List}
use native.Mathlib.Omega.{arith}
use lib.ListN.{length}
use Rattle.growth.specs.Growing.{Ended, Grows}
use Rattle.factor_gates.specs.Passing.{Passed}
use Rattle.factoring_run.specs.Running.{Finished, Loaded, Sharable}
use Rattle.factoring_run.proofs.Runs.{finished_laid, finished_le, finished_over, finished_state}
use Rattle.model.specs.Sharing.{pair_places, pass_refusal, places_of, shared_signals}
use Rattle.pairs.specs.Lists.{lists_of}
use Rattle.shape.specs.Room.{room_of}
use Rattle.tables.specs.Holding.{network_of}
use Rattle.tables.specs.Layout.{net_of, nodes_of}
use Rattle.uses.specs.Loading.{Source, lists_in}
use Rattle.growth.proofs.Wholes.{ended_fits, ended_is, nodes_are}
use Rattle.shape.proofs.FactoringGrown.{ended, refusal_none, refusal_pairs, refusal_room}
use Rattle.tables.proofs.Holding.{length_nodes_of, nodes_few}
use Rattle.uses.proofs.Slots.{lists_few}
use Rattle.kinds.specs.declared.Family.{Family}
use Rattle.tables.specs.declared.counts.Counts.{Counts}
use Rattle.refusals.specs.declared.Refusal.TheVariants.{Grown, Pairs}
use Rattle.std.specs.Prelude.{Option, Some, None, Ok, Err}

places_is : (f : Family) (from : List ℕ) (c : Counts) → pair_places f (network_of from c) ≡ places_of (shared_signals (lists_in f from c.nodes))
unfolding pair_places network_of net_of lists_in
places_is f from c = refl

module _ (f : Family) (from o : List ℕ) (c : Counts) (g : ℕ) (S : Sharable f from o c g) where
  places_here : (t : ℕ) → t ≡ places_of (lists_of o g) → t ≡ pair_places f (network_of from c)
  places_here t e = e ∙ ap places_of S.lists.lists ∙ sym (places_is f from c)

  pub pass_pairs : (t : ℕ) → t ≡ places_of (lists_of o g) → 4096 < t → Passed f (network_of from c) o (Err Pairs)
  pass_pairs t e h =
      let N = network_of from c in
      let q : pass_refusal f N ≡ 11 = refusal_pairs f N S.held.valid.nodes_few S.held.valid.ins_few (omega (arith, places_here t e)) in
      record { answer = rw q; holds = λ z. absurd (omega arith) }

  pub pass_old : g ≤ c.nodes
  pass_old = omega (arith, S.lists.gates, lists_few f from c.nodes)

  pub pass_loaded : Loaded (lists_in f from c.nodes) from o g c.nodes
  pass_loaded = record { between = S.between; lists = S.lists }

  pub pass_source : Source from c.nodes
  pass_source = S.between.source

  module _ (room : ℕ) (er : room ≡ room_of f (nodes_of from c.nodes)) where
    pub pass_nodes : c.nodes + room ≤ 512
    unfolding room_of
    pass_nodes = omega (arith, er, length_nodes_of from c.nodes, nodes_few from c S.held)

    module _ (few : places_of (lists_of o g) ≤ 4096) (q : List ℕ) (r : Option ℕ) (F : Finished (lists_in f from c.nodes) q g c.nodes room r) where
      room_is : room ≡ room_of f (network_of from c).nodes
      room_is = er ∙ ap (room_of f) (sym (nodes_are from c))

      places_few : pair_places f (network_of from c) ≤ 4096
      places_few = omega (arith, places_here (places_of (lists_of o g)) refl)

      pub pass_room : r ≡ None → Passed f (network_of from c) q (Err Grown)
      pass_room e =
          let N = network_of from c in
          let b = finished_over (lists_in f from c.nodes) q g c.nodes room r F e in
          let d : room_of f N.nodes < length (ended f N).built = omega (arith, room_is, ap (λ s. length s.built) (ended_is f from c)) in
          let z : pass_refusal f N ≡ 12 = refusal_room f N S.held.valid.nodes_few S.held.valid.ins_few places_few d in
          record { answer = rw z; holds = λ y. absurd (omega arith) }

      module _ (k : ℕ) (e : r ≡ Some k) where
        pub pass_ended : Ended f from q c k
        pass_ended =
            let gs = lists_in f from c.nodes in
            record {
              held = S.held;
              laid = rw (← S.lists.gates) (finished_laid gs q g c.nodes room r F k e);
              fits = rw (← er) (finished_le gs q g c.nodes room r F k e);
              state = rw (← S.lists.gates) (finished_state gs q g c.nodes room r F k e);
            }

        pub pass_grown : (u : List ℕ) (d : Counts) → Grows f from u c d → Passed f (network_of from c) u (Ok d)
        pass_grown u d G =
            let N = network_of from c in
            let E = pass_ended in
            let b : length (ended f N).built ≤ room_of f N.nodes = ended_fits f from q c k E in
            let z : pass_refusal f N ≡ 0 = refusal_none f N S.held.valid.nodes_few S.held.valid.ins_few places_few b in
            record { answer = rw z (ap Ok G.counts); holds = λ y. rw (← G.counts) G.holds }

pub pass_few : (o : List ℕ) (g t : ℕ) → t ≡ places_of (lists_of o g) → t ≤ 4096 → places_of (lists_of o g) ≤ 4096
pass_few o g t e h = omega arith
