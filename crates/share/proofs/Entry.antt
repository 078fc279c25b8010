-- The entry that the program calls: its outcome is no cycle's, and decides what is printed.
use mathlib.Core.Path.{◌≡◌}
use Prim.Native.Nat.{ℕ, ◌-◌, ◌≤◌}
use native.Mathlib.Omega.{arith}
use mathlib.Core.List.{List, []}
use lib.ListN.{length, take, drop, length-drop}
use lib.Seq.{take_all}
use borrow.Author.Tests.{le-ltb}
use Rattle.model.specs.Entries.{share_outcome}
use Rattle.model.specs.Image.{word_at, sorted_refusal_of, net_of, image_of}
use Rattle.model.specs.Sharing.{share_logic}
use Rattle.share.specs.Texts.{printed_for, printed_of}
use Rattle.share.proofs.Shows.{Plain, plain_written, plain_unless, plain_room, plain_areas}

pub entry_plain : (img out a b : List ℕ) (limit : ℕ) → Plain (share_outcome img out a b limit)
unfolding share_outcome
entry_plain img out a b limit =
    plain_areas a b _
    (plain_room (length out) 0 _
    (plain_unless (sorted_refusal_of img) _ (plain_unless _ _ (plain_unless _ _ (plain_written (image_of (share_logic (net_of img) limit)) [])))))

pub entry_printed : (input out a b : List ℕ) (limit room : ℕ) → 4 ≤ length input → length input ≤ 16384 → limit ≡ word_at input 0
    → printed_of input out a b room ≡ printed_for (share_outcome (take (length input - 4) (drop 4 input)) out a b limit) room
unfolding printed_of
entry_printed input out a b limit room h k w =
    let e : take (length input - 4) (drop 4 input) ≡ drop 4 input = take_all (length input - 4) (drop 4 input) (omega (arith, length-drop 4 input)) in
    rw (le-ltb (length input) 4 h, le-ltb 16384 (length input) k, e, w)

pub ruleset entry = (entry_plain, entry_printed)
