-- What the lengths tell: 13, or what is written.
use mathlib.Core.Path.{◌≡◌}
use mathlib.Core.Bool.{true}
use mathlib.Core.List.{List, []}
use Prim.Native.Nat.{ℕ, ◌≤◌, ◌<◌}
use native.Mathlib.Omega.{arith}
use lib.ListN.{length}
use lib.Dec.{leb}
use borrow.Author.Tests.{le-leb, lt-leb}
use Rattle.std.specs.Prelude.{Ok, Err}
use Rattle.laws.proofs.Tabs.{length_tab}
use Rattle.model.specs.Image.{net_words, image_of}
use Rattle.model.specs.Answers.{written, laid_over, in_room}
use Rattle.model.proofs.Bytes.{length_bytes}
use Rattle.tables.specs.Layout.{cell, tr_base}
use Rattle.tables.specs.Holding.{network_of, Held}
use Rattle.tables.specs.Working.{Answered, Answered2}
use Rattle.tables.specs.declared.counts.Counts.{Counts}
use Rattle.write_image.specs.Writing.{mapping_in, Room, Mapped}
use Rattle.write.specs.Mapping.{HeldMapped}

pub mapped_room : (l : List ℕ) (c : Counts) (old : ℕ) (map : List ℕ) → HeldMapped l c old → old ≤ length map → Mapped l old map
mapped_room l c old map M k = record { inside = M.inside; room = k }

module _ (l : List ℕ) (c : Counts) (out : List ℕ) (n : ℕ) (e : n ≡ length (image_of (network_of l c))) where
  pub write_short : length out < n → Answered (in_room (length out) 0 (written (image_of (network_of l c)) [])) out (Err 13) out
  write_short h = let z = lt-leb (length (image_of (network_of l c))) (length out) (rw (← e) h) in record { answer = rw z; result = rw z }

  pub write_done : n ≤ length out → (out' : List ℕ) → out' ≡ laid_over (image_of (network_of l c)) out
      → Answered (in_room (length out) 0 (written (image_of (network_of l c)) [])) out (Ok n) out'
  write_done h out' q = let z = le-leb (length (image_of (network_of l c))) (length out) (rw (← e) h) in record { answer = rw (z, e); result = rw z q }

  pub write_room : Held l c → n ≤ length out → Room l c (net_words (network_of l c)) out
  unfolding image_of
  write_room H h = record { held = H; room = omega (arith, length_bytes (net_words (network_of l c))) }

  -- with a mapping: m is the length lent for it
  module _ (old : ℕ) (map : List ℕ) (M : HeldMapped l c old) where
    length_mapping : length (mapping_in l old) ≡ old
    unfolding mapping_in
    length_mapping = length_tab (cell l tr_base) old

    pub mapped_short : length out < n
        → Answered2 (in_room (length out) (length map) (written (image_of (network_of l c)) (mapping_in l old))) out map (Err 13) out map
    mapped_short h =
        let z = lt-leb (length (image_of (network_of l c))) (length out) (rw (← e) h) in
        record { first = record { answer = rw z; result = rw z }; second_is = rw z }

    module _ (h : n ≤ length out) where
      fits : leb (length (image_of (network_of l c))) (length out) ≡ true
      fits = le-leb (length (image_of (network_of l c))) (length out) (rw (← e) h)

      pub map_short : length map < old
          → Answered2 (in_room (length out) (length map) (written (image_of (network_of l c)) (mapping_in l old))) out map (Err 13) out map
      map_short k =
          let z = lt-leb (length (mapping_in l old)) (length map) (rw length_mapping k) in
          record { first = record { answer = rw (fits, z); result = rw (fits, z) }; second_is = rw (fits, z) }

      pub mapped_done : old ≤ length map → (out' map' : List ℕ) → out' ≡ laid_over (image_of (network_of l c)) out → map' ≡ laid_over (mapping_in l old) map
          → Answered2 (in_room (length out) (length map) (written (image_of (network_of l c)) (mapping_in l old))) out map (Ok n) out' map'
      mapped_done k out' map' p q =
          let z = le-leb (length (mapping_in l old)) (length map) (rw length_mapping k) in
          record { first = record { answer = rw (fits, z, e); result = rw (fits, z) p }; second_is = rw (fits, z) q }
