-- The work of dedup and canonical: what was loaded is merged into the other area and written with its mapping.
use mathlib.Core.Path.{◌≡◌, refl}
use mathlib.Core.Bool.{Bool}
use mathlib.Core.List.{List}
use Prim.Native.Nat.{ℕ, ◌≤◌}
use native.Mathlib.Omega.{arith}
use lib.ListN.{length}
use Rattle.model.specs.Answers.{Answer}
use Rattle.std.specs.Prelude.{Ok}
use Rattle.model.specs.Image.{sorted_refusal_of, image_of}
use Rattle.model.specs.Answers.{written, in_room}
use Rattle.model.specs.Network.{dedup_with, dedup_map}
use Rattle.shape.proofs.Accepted.{accepted_sorted}
use Rattle.load.specs.Images.{Read}
use Rattle.tables.specs.Holding.{network_of}
use Rattle.tables.specs.Working.{Answered2}
use Rattle.tables.specs.declared.counts.Counts.{Counts}
use Rattle.tables.proofs.Holding.{nodes_few}
use Rattle.write_image.specs.Writing.{mapping_in}
use Rattle.write.specs.Mapping.{HeldMapped}
use Rattle.placing.specs.Lists.{norm_of}
use Rattle.dedup.specs.States.{Dedupable, Deduped}
use Rattle.network_passes.specs.Passes.{passed}
use Rattle.network_passes.proofs.Passing.{mapping_is}
use Rattle.network_work.specs.Works.{dedup_pass}
use Rattle.load.proofs.Loading.{network_passes, network_holds}

-- ---- the pass

module _ (can : Bool) (from to : List ℕ) (c : Counts) (P : Dedupable from to c) (l : List ℕ) (d : Counts) (D : Deduped from l c can d) where
  pub dedup_held : (n : ℕ) → length l ≡ length to → n ≡ c.nodes → HeldMapped l d n
  dedup_held n k e =
      let f = nodes_few from c P.held in
      let g : 16384 ≤ length l = rw k P.long in
      record { held = D.holds.held; inside = rw e (omega arith) }

  pub dedup_written : (out second : List ℕ) (r : Answer) (out' second' : List ℕ)
      → Answered2 (in_room (length out) (length second) (written (image_of (network_of l d)) (mapping_in l c.nodes))) out second r out' second'
      → Answered2 (passed (dedup_pass can) (network_of from c) (length out) (length second)) out second r out' second'
  unfolding dedup_pass
  dedup_written out second r out' second' A =
      let n : network_of l d ≡ dedup_with (norm_of can) (network_of from c) = D.holds.net in
      let m = mapping_is from l c (dedup_map (norm_of can) (network_of from c)) D.mapping in
      rw (← n, ← m) A

pub ruleset merges = (dedup_held, dedup_written)

-- ---- behind the loading of the image

pub dedup_asks : (img l : List ℕ) (c : Counts) → Read (sorted_refusal_of img) img l (Ok c) → (b : List ℕ) → 16384 ≤ length b → Dedupable l b c
dedup_asks img l c R b h =
    let H = network_holds (sorted_refusal_of img) img l (Ok c) R c refl in
    record { held = H.held; sorted = rw H.net (accepted_sorted img (network_passes (sorted_refusal_of img) img l (Ok c) R c refl)); long = h }
