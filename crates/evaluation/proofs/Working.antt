-- The work of evaluate: what was loaded, and its cycle.
use mathlib.Core.Path.{◌≡◌, refl}
use mathlib.Core.List.{List}
use Prim.Native.Nat.{ℕ, ◌≤◌}
use native.Mathlib.Omega.{arith}
use lib.ListN.{length}
use Rattle.model.specs.Answers.{Answer}
use Rattle.std.specs.Prelude.{Result, Ok, Err}
use Rattle.model.specs.Image.{sorted_refusal_of, net_of}
use Rattle.model.specs.Entries.{cycle_outcome}
use Rattle.shape.proofs.Accepted.{accepted_sorted}
use Rattle.load.specs.Images.{Read}
use Rattle.load.proofs.Loading.{refused_is, network_passes, network_holds, network_is}
use Rattle.refusals.specs.Numbers.{numbered}
use Rattle.refusals.specs.declared.Refusal.{Refusal}
use Rattle.tables.specs.Holding.{network_of}
use Rattle.tables.specs.Working.{Answered2}
use Rattle.tables.specs.declared.counts.Counts.{Counts}
use Rattle.evaluate.specs.Cycle.{Runs}
use Rattle.evaluation.specs.Works.{evaluate_work}

module _ (img l ins st out : List ℕ) where
  pub evaluate_refused : (e x : Refusal) (r : Result ℕ Refusal) → Read (sorted_refusal_of img) img l (Err e) → r ≡ Err x → x ≡ e
      → Answered2 (evaluate_work img ins st (length out)) out st (numbered r) out st
  unfolding evaluate_work
  evaluate_refused e x r R p q =
      let z = refused_is (sorted_refusal_of img) img l (Err e) R e refl (cycle_outcome (net_of img) ins st (length out)) in
      rw (p, q) (record { first = record { answer = rw z; result = rw z }; second_is = rw z })

  module _ (c : Counts) (R : Read (sorted_refusal_of img) img l (Ok c)) where
    pub evaluate_runs : (t : List ℕ) → 16384 ≤ length t → Runs l t c
    evaluate_runs t h =
        let H = network_holds (sorted_refusal_of img) img l (Ok c) R c refl in
        record { held = H.held; sorted = rw H.net (accepted_sorted img (network_passes (sorted_refusal_of img) img l (Ok c) R c refl)); room = omega arith }

    pub evaluate_cycled : (r : Answer) (out' st' : List ℕ) → Answered2 (cycle_outcome (network_of l c) ins st (length out)) out st r out' st'
        → Answered2 (evaluate_work img ins st (length out)) out st r out' st'
    unfolding evaluate_work
    evaluate_cycled r out' st' D =
        let z = network_is (sorted_refusal_of img) img l (Ok c) R c refl (cycle_outcome (net_of img) ins st (length out)) in
        let e : network_of l c ≡ net_of img = (network_holds (sorted_refusal_of img) img l (Ok c) R c refl).net in
        rw (z, ← e) D
