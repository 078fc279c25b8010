-- What is printed of the image of a valid network is its listing: a buffer of 32,768 bytes has room.
use mathlib.Core.Path.{◌≡◌}
use Prim.Native.Nat.{ℕ, ◌≤◌}
use native.Mathlib.Omega.{arith}
use mathlib.Core.List.{List}
use lib.ListN.{length}
use borrow.Author.Tests.{le-leb}
use Rattle.model.specs.Gate.{Net, Valid}
use Rattle.model.specs.Answers.{written, unless}
use Rattle.model.specs.Image.{image_of}
use Rattle.model.specs.Listing.{listing_of}
use Rattle.shape.proofs.Accepts.{refusal_of_image}
use Rattle.shape.proofs.Written.{net_of_image}
use Rattle.listing.proofs.Lengths.{listing_short}
use Rattle.share.specs.Texts.{list_outcome, printed_for}

pub printed_image : (N : Net) → Valid N → (mapping : List ℕ) (room : ℕ) → 32768 ≤ room → printed_for (written (image_of N) mapping) room ≡ listing_of N
unfolding list_outcome unless
printed_image N ok mapping room h =
    let k : length (listing_of N) ≤ room = omega (arith, listing_short N ok) in
    rw (refusal_of_image N ok, net_of_image N ok.gates_shaped, le-leb (length (listing_of N)) room k)
