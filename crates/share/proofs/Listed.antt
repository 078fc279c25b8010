-- What `load` answered, and the listing of what it loaded.
use mathlib.Core.Path.{◌≡◌, refl}
use mathlib.Core.List.{List, []}
use Prim.Native.Nat.{ℕ}
use lib.ListN.{length}
use Rattle.model.specs.Answers.{Answer}
use Rattle.std.specs.Prelude.{Result, Ok, Err}
use Rattle.model.specs.Answers.{written, in_room}
use Rattle.model.specs.Image.{refusal_of, net_of}
use Rattle.model.specs.Listing.{listing_of}
use Rattle.load.specs.Images.{Read}
use Rattle.refusals.specs.Numbers.{numbered}
use Rattle.refusals.specs.declared.Refusal.{Refusal}
use Rattle.tables.specs.Holding.{network_of}
use Rattle.tables.specs.Working.{Answered}
use Rattle.tables.specs.declared.counts.Counts.{Counts}
use Rattle.load.proofs.Loading.{refused_is, network_is, network_holds}
use Rattle.share.specs.Texts.{list_outcome}

module _ (img l text : List ℕ) where
  pub list_refused : (e : Refusal) → Read (refusal_of img) img l (Err e) → (r : Result ℕ Refusal) (x : Refusal) → r ≡ Err x → x ≡ e
      → Answered (list_outcome img (length text)) text (numbered r) text
  unfolding list_outcome
  list_refused e R r x p q =
      let z = refused_is (refusal_of img) img l (Err e) R e refl (written (listing_of (net_of img)) []) in rw (p, q) (record { answer = rw z; result = rw z })

  pub list_written : (c : Counts) → Read (refusal_of img) img l (Ok c) → (r : Answer) (text' : List ℕ)
      → Answered (in_room (length text) 0 (written (listing_of (network_of l c)) [])) text r text' → Answered (list_outcome img (length text)) text r text'
  unfolding list_outcome
  list_written c R r text' D =
      let z = network_is (refusal_of img) img l (Ok c) R c refl (written (listing_of (net_of img)) []) in
      let e : network_of l c ≡ net_of img = (network_holds (refusal_of img) img l (Ok c) R c refl).net in
      rw (z, ← e) D
