-- The entries that write a mapping, from their contracts: the image that each wrote has the same outputs, and its mapping the old values.
use mathlib.Core.Path.{◌≡◌}
use mathlib.Core.Logic.{◌↔◌}
use Prim.Native.Nat.{ℕ, ◌<◌}
use native.Mathlib.Omega.{arith}
use mathlib.Core.Bool.{Bool, true, false, ◌&&◌}
use mathlib.Core.List.{List}
use lib.ListN.{length, get_or, take}
use lib.Dec.{leb}
use Rattle.model.specs.Answers.{Answer}
use Rattle.std.specs.Prelude.{Ok, Err}
use Rattle.laws.proofs.Choices.{by_bool}
use Rattle.model.specs.Gate.{Gate, Net, is_topo_sorted, size}
use Rattle.model.specs.Normal.{Norm, make_canonical}
use Rattle.model.specs.Network.{Reach, as_is, dedup_map, dedup_with, mapping_of, sorts, topo_order, topo_sort, translation}
use Rattle.model.specs.Image.{image_of, net_of, refusal_of, sorted_refusal_of}
use Rattle.model.specs.Evaluate.{Eval, Solves, after, after_by, all_zero, at, evaluate, run_by, run_from_zero, signal_value}
use Rattle.model.specs.Answers.{Outcome, Kept2, answer_of, areas_short, in_areas, in_room, unless, written}
use Rattle.model.specs.Entries.{canonical_outcome, cleanup_outcome, dedup_outcome, sort_outcome}
use Rattle.shape.proofs.Cleanup.{cleanup_sorted}
use Rattle.shape.proofs.Dedup.{dedup_sorted}
use Rattle.shape.proofs.DedupNormal.{NormLaw, as_is_law, canonical_law}
use Rattle.shape.proofs.Sort.{sort_sorted}
use Rattle.meaning.proofs.CleanupRuns.{cleanup_probe, cleanup_runs_from}
use Rattle.meaning.proofs.DedupRuns.{NormValues, as_is_values, canonical_values, dedup_probe, dedup_runs}
use Rattle.meaning.proofs.SortRuns.{sort_probe, sort_runs_from}
use Rattle.meaning.proofs.PromisedImages.{WroteMapped, canonical_wrote, cleanup_wrote, dedup_wrote, reach_inside, sort_wrote, source_sorted}

-- in the cycle with inputs i, after cycles with inputs `is` from the states st: the value of signal s, and of node n
abbrev pub signal_in : Net → (ℕ → Bool) → List (List Bool) → List Bool → ℕ → Bool
signal_in N st is i s = signal_value (at i) (evaluate N (at i) (after N st is)) s

abbrev pub node_in : Net → (ℕ → Bool) → List (List Bool) → List Bool → ℕ → Bool
node_in N st is i n = evaluate N (at i) (after N st is) n

-- of an image img, its nodes' values given by ev: the image img' is accepted and has the same outputs in every cycle from zero, and each
-- node v that K speaks of has the value of the signal that is word v of map'
pub record Carried (img : List ℕ) (ev : Eval) (K : ℕ → Type 0) (img' map' : List ℕ) : Type 0 where
  pub accepted : sorted_refusal_of img' ≡ 0
  pub same_outputs : (is : List (List Bool)) → run_by (net_of img) ev all_zero is ≡ run_from_zero (net_of img') is
  pub mapping : (is : List (List Bool)) (i : List Bool) (v : ℕ) → K v → signal_in (net_of img') all_zero is i (get_or map' v 0) ≡ ev (at i) (after_by (net_of img) ev all_zero is) v

carried : (img : List ℕ) (k : ℕ) (C : Type 0) (N' : Net) (τ : ℕ → ℕ) (n : ℕ) (out' map' : List ℕ) → WroteMapped img k C N' τ n out' map'
    → (ev : Eval) (K : ℕ → Type 0) → is_topo_sorted N' ≡ true → ((v : ℕ) → K v → v < size (net_of img))
    → ((is : List (List Bool)) → run_by (net_of img) ev all_zero is ≡ run_from_zero N' is)
    → ((is : List (List Bool)) (i : List Bool) (v : ℕ) → K v → signal_in N' all_zero is i (τ v) ≡ ev (at i) (after_by (net_of img) ev all_zero is) v)
    → Carried img ev K (take n out') map'
carried img k C N' τ n out' map' w ev K sorted inside runs values = record {
  accepted = w.holds.sorted sorted;
  same_outputs = λ is. rw w.holds.net (runs is);
  mapping = λ is i v h. rw (w.holds.net, w.words v (inside v h)) (values is i v h);
}

-- an entry was called with img, out, map, a and b, and accepted with length n
module _ (img out map a b : List ℕ) (r : Answer) (out' map' a' b' : List ℕ) (n : ℕ) (accepts : r ≡ Ok n) where
  abbrev N : Net
  N = net_of img

  abbrev Called : Outcome → Type 0
  Called o = Kept2 o out map a b r out' map' a' b'

  -- canonical and dedup are one, over the normalization
  merged_carried : (norm : Gate → Norm) → NormLaw norm → NormValues norm → WroteMapped img (sorted_refusal_of img) Unit (dedup_with norm N) (dedup_map norm N) n out' map'
      → Carried img (evaluate N) (λ v. v < size N) (take n out') map'
  merged_carried norm law values w =
      let s = source_sorted img w.source in
      carried img _ _ _ _ n out' map' w (evaluate N) (λ v. v < size N) (dedup_sorted norm law N w.valid s) (λ v h. h)
      (dedup_runs norm law values N w.valid s) (dedup_probe norm law values N w.valid s)

  pub canonical_carried : Called (canonical_outcome img out map a b) → Carried img (evaluate N) (λ v. v < size N) (take n out') map'
  canonical_carried call = merged_carried make_canonical canonical_law canonical_values (canonical_wrote img out map a b r out' map' a' b' n accepts call)

  pub dedup_carried : Called (dedup_outcome img out map a b) → Carried img (evaluate N) (λ v. v < size N) (take n out') map'
  dedup_carried call = merged_carried as_is as_is_law as_is_values (dedup_wrote img out map a b r out' map' a' b' n accepts call)

  pub cleanup_carried : Called (cleanup_outcome img out map a b) → is_topo_sorted N ≡ true → Carried img (evaluate N) (Reach N) (take n out') map'
  cleanup_carried call s =
      let w = cleanup_wrote img out map a b r out' map' a' b' n accepts call in
      carried img _ _ _ _ n out' map' w (evaluate N) (Reach N) (cleanup_sorted N w.valid s) (reach_inside N w.valid)
      (cleanup_runs_from N w.valid s all_zero) (cleanup_probe N w.valid s all_zero)

  pub sort_carried : Called (sort_outcome img out map a b) → (ev : Eval) → Solves N ev → Carried img ev (λ v. v < size N) (take n out') map'
  sort_carried call ev agrees =
      let w = sort_wrote img out map a b r out' map' a' b' n accepts call in
      carried img _ _ _ _ n out' map' w ev (λ v. v < size N) (sort_sorted N w.valid w.pass) (λ v h. h)
      (sort_runs_from N w.valid w.pass ev agrees all_zero) (sort_probe N w.valid w.pass ev agrees all_zero)

-- ---- 8, from sort's contract

-- in room or not, what is written is not refused with 8
written_not_8 : {X : Type 0} (room map-room : ℕ) (image mapping : List ℕ) → answer_of (in_room room map-room (written image mapping)) ≡ Err 8 → X
written_not_8 room map-room image mapping e = by_bool (leb (length image) room && leb (length mapping) map-room)
    (λ t. let q : Ok (length image) ≡ Err 8 = rw t at e in let z : ◌≡◌ {A = ℕ} 0 1 = cc in absurd (omega arith))
    (λ t. let q : Err 13 ≡ Err 8 = rw t at e in let z : ◌≡◌ {A = ℕ} 13 8 = cc in absurd (omega arith))

pub sort_8 : (img out map a b : List ℕ) → areas_short a b ≡ false → refusal_of img ≡ 0 → (answer_of (sort_outcome img out map a b) ≡ Err 8) ↔ (sorts (net_of img) ≡ false)
unfolding sort_outcome in_areas unless
sort_8 img out map a b long sound =
    let N = net_of img in
    let mapping = mapping_of (size N) (translation (size N) (topo_order N)) in (
      λ e. by_bool (sorts N) (λ s. written_not_8 (length out) (length map) (image_of (topo_sort N)) mapping (rw (long, sound, s) at e)) (λ s. s),
      λ s. rw (long, sound, s),
    )
