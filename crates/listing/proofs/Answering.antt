-- What the length of a listing tells: 13, or the bytes.
use mathlib.Core.Path.{◌≡◌, ◌∙◌}
use Prim.Native.Nat.{ℕ, ◌≤◌, ◌<◌}
use native.Mathlib.Omega.{arith}
use mathlib.Core.List.{List, []}
use lib.ListN.{length}
use borrow.Author.Tests.{le-leb, lt-leb}
use Rattle.std.specs.Prelude.{Ok, Err}
use Rattle.model.specs.Answers.{written, in_room}
use Rattle.model.specs.Listing.{listing_of}
use Rattle.tables.specs.Holding.{network_of, Held}
use Rattle.tables.specs.Working.{Answered}
use Rattle.tables.specs.declared.counts.Counts.{Counts}
use Rattle.text_parts.specs.Putting.{Put}
use Rattle.text_parts.proofs.Puts.{put_text_laid}
use Rattle.listing.proofs.Lengths.{listing_short}

pub listing_whole : (l : List ℕ) (c : Counts) → Held l c → (b b' : List ℕ) (n : ℕ) → Put b 0 (listing_of (network_of l c)) b' n → n ≡ length (listing_of (network_of l c))
listing_whole l c H b b' n P = omega (arith, P.behind, listing_short (network_of l c) H.valid)

module _ (l : List ℕ) (c : Counts) (n : ℕ) (whole : n ≡ length (listing_of (network_of l c))) (out : List ℕ) where
  pub listing_refused : length out < n → Answered (in_room (length out) 0 (written (listing_of (network_of l c)) [])) out (Err 13) out
  listing_refused h =
      let z = lt-leb (length (listing_of (network_of l c))) (length out) (rw (← whole) h) in
      record { answer = rw z; result = rw z }

  pub listing_done : n ≤ length out → (out' : List ℕ) (r : ℕ) → Put out 0 (listing_of (network_of l c)) out' r
      → Answered (in_room (length out) 0 (written (listing_of (network_of l c)) [])) out (Ok n) out'
  listing_done h out' r Q =
      let k : length (listing_of (network_of l c)) ≤ length out = rw (← whole) h in
      let z = le-leb (length (listing_of (network_of l c))) (length out) k in
      record { answer = rw (z, whole); result = rw z (Q.bytes ∙ put_text_laid out (listing_of (network_of l c)) k) }

pub ruleset answering = (listing_refused, listing_done)
