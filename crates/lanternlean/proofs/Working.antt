-- The work of read: what was loaded, and what was written.
use mathlib.Core.Path.{◌≡◌, refl}
use mathlib.Core.List.{List, []}
use Prim.Native.Nat.{ℕ}
use lib.ListN.{length}
use Rattle.model.specs.Answers.{Answer}
use Rattle.std.specs.Prelude.{Result, Ok, Err}
use Rattle.model.specs.Image.{refusal_of, net_of, image_of}
use Rattle.model.specs.Answers.{written, in_room}
use Rattle.load.specs.Images.{Read}
use Rattle.load.proofs.Loading.{refused_is, network_holds, network_is}
use Rattle.refusals.specs.Numbers.{numbered}
use Rattle.refusals.specs.declared.Refusal.{Refusal}
use Rattle.tables.specs.Holding.{network_of}
use Rattle.tables.specs.Working.{Answered}
use Rattle.tables.specs.declared.counts.Counts.{Counts}
use Rattle.lanternlean.specs.Works.{read_work}

module _ (img l : List ℕ) (out : List ℕ) where
  pub read_refused : (e x : Refusal) (r : Result ℕ Refusal) → Read (refusal_of img) img l (Err e) → r ≡ Err x → x ≡ e → Answered (read_work img (length out)) out (numbered r) out
  unfolding read_work
  read_refused e x r R p q =
      let z = refused_is (refusal_of img) img l (Err e) R e refl (written (image_of (net_of img)) []) in rw (p, q) (record { answer = rw z; result = rw z })

  pub read_written : (c : Counts) → Read (refusal_of img) img l (Ok c) → (r : Answer) (out' : List ℕ)
      → Answered (in_room (length out) 0 (written (image_of (network_of l c)) [])) out r out' → Answered (read_work img (length out)) out r out'
  unfolding read_work
  read_written c R r out' D =
      let z = network_is (refusal_of img) img l (Ok c) R c refl (written (image_of (net_of img)) []) in
      let e : network_of l c ≡ net_of img = (network_holds (refusal_of img) img l (Ok c) R c refl).net in
      rw (z, ← e) D
