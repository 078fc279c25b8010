-- What each entry that accepts wrote: the image of the pass's result, where the pass was not refused, and accepted in turn.
use mathlib.Core.Path.{◌≡◌, refl, sym, ap, ◌∙◌}
use Prim.Native.Nat.{ℕ, suc, ◌≤◌, ◌<◌}
use native.Mathlib.Omega.{arith}
use mathlib.Core.Bool.{Bool, true, false, cond}
use mathlib.Core.List.{List, []}
use lib.ListN.{length, get_or, take}
use lib.Seq.{get_or-take}
use lib.Dec.{ltb}
use borrow.Author.Tests.{ltb-false, le-ltb}
use Rattle.model.specs.Answers.{Answer}
use Rattle.std.specs.Prelude.{Ok}
use Rattle.laws.proofs.Tabs.{length_tab, get_or_tab}
use Rattle.model.specs.Gate.{Gate, Net, Valid, is_topo_sorted, size}
use Rattle.model.specs.Normal.{Norm, make_canonical}
use Rattle.model.specs.Network.{Reach, translation, mapping_of, deduplicate, canonical, dedup_with, dedup_map, as_is, cleanup_order, cleanup, topo_order, topo_sort, sorts}
use Rattle.model.specs.Sharing.{flatten_nary, flattened_inputs, factor_nary, factor_refusal, any_repeats, share_logic}
use Rattle.model.specs.Image.{refusal_of, sorted_refusal_of, net_of, image_of}
use Rattle.model.specs.Answers.{Outcome, written, in_areas, in_room, unless, Kept, Kept2}
use Rattle.model.specs.Entries.{read_outcome, canonical_outcome, dedup_outcome, cleanup_outcome, sort_outcome, flatten_outcome, factor_outcome, share_outcome}
use Rattle.shape.proofs.RoundTrips.{read_written}
use Rattle.shape.proofs.Accepted.{accepted_sorted}
use Rattle.shape.proofs.Valids.{valid_net}
use Rattle.shape.proofs.Ladder.{sorted_at0}
use Rattle.shape.proofs.DedupNormal.{as_is_law, canonical_law}
use Rattle.shape.proofs.Dedup.{dedup_valid}
use Rattle.shape.proofs.Cleanup.{cleanup_order_lem, cleanup_valid, reach_kept}
use Rattle.shape.proofs.Remap.{kept_inside}
use Rattle.shape.proofs.Sort.{sort_valid}
use Rattle.shape.proofs.Flatten.{flatten_valid, flatten_sorted}
use Rattle.shape.proofs.FactoringPass.{factor_valid, factor_sorted}
use Rattle.meaning.proofs.Accepted.{Writes, Passes, Found, kept_found, kept2_found, writes_written, writes_unless, writes_if, writes_entry}

-- ---- the outcomes, each with what it takes to accept

-- the same claim in other words
writes_also : {o : Outcome} {image mapping : List ℕ} {C D : Type 0} → (C → D) → (D → C) → Writes o image mapping C → Writes o image mapping D
writes_also f g w = record { asks = λ n e. f (w.asks n e); gives = λ d. w.gives (g d) }

-- a refusal that a test gives
unless_test : (t : Bool) (k : ℕ) → cond t (suc k) 0 ≡ 0 → t ≡ false
unless_test true k e = absurd (omega arith)
unless_test false k e = refl

module _ (o : Outcome) (image : List ℕ) (C : Type 0) (w : Writes o image [] C) where
  -- 9, and 10
  writes_unless_test : (t : Bool) (k : ℕ) → Writes (unless (cond t (suc k) 0) o) image [] ((t ≡ false) × C)
  writes_unless_test t k =
      writes_also (λ c. (unless_test t k c.0, c.1)) (λ c. (rw c.0, c.1)) (writes_unless o image [] C w (cond t (suc k) 0))

  writes_flat : (inputs : ℕ) → Writes (unless (cond (ltb 2048 inputs) 10 0) o) image [] ((inputs ≤ 2048) × C)
  writes_flat inputs = writes_also (λ c. (ltb-false 2048 inputs c.0, c.1)) (λ c. (le-ltb 2048 inputs c.0, c.1)) (writes_unless_test (ltb 2048 inputs) 9)

-- the entries that write an image alone
module _ (img out a b : List ℕ) where
  abbrev N : Net
  N = net_of img

  -- the areas are long enough, the image is sound and sorted, C holds, and there is room for the image of N'
  abbrev pub Imaged : Type 0 → Net → Type 0
  Imaged C N' = Passes a b (sorted_refusal_of img) C (image_of N') [] (length out) 0

  imaged : (C : Type 0) (N' : Net) (o : Outcome) → Writes o (image_of N') [] C
      → Writes (in_areas a b (in_room (length out) 0 (unless (sorted_refusal_of img) o))) (image_of N') [] (Imaged C N')
  imaged C N' o w = writes_entry o (image_of N') [] C w a b (sorted_refusal_of img) (length out) 0

  -- read, whose image need not be sorted
  pub read_writes : Writes (read_outcome img out a b) (image_of N) [] (Passes a b (refusal_of img) Unit (image_of N) [] (length out) 0)
  unfolding read_outcome
  read_writes = writes_entry _ (image_of N) [] Unit (writes_written (image_of N) []) a b (refusal_of img) (length out) 0

  plain : (N' : Net) → Writes (written (image_of N') []) (image_of N') [] Unit
  plain N' = writes_written (image_of N') []

  pub flatten_writes : (limit : ℕ) → Writes (flatten_outcome img out a b limit) (image_of (flatten_nary N limit)) [] (Imaged (flattened_inputs N limit ≤ 2048) (flatten_nary N limit))
  unfolding flatten_outcome
  flatten_writes limit =
      let N' = flatten_nary N limit in
      imaged _ N' _ (writes_also (λ c. c.0) (λ c. (c, tt)) (writes_flat _ (image_of N') Unit (plain N') (flattened_inputs N limit)))

  pub factor_writes : Writes (factor_outcome img out a b) (image_of (factor_nary N)) [] (Imaged ((any_repeats N.nodes ≡ false) × (factor_refusal N ≡ 0)) (factor_nary N))
  unfolding factor_outcome
  factor_writes =
      let I = image_of (factor_nary N) in
      imaged _ (factor_nary N) _
      (writes_also (λ c. (c.0, c.1.0)) (λ c. (c.0, (c.1, tt)))
      (writes_unless_test _ I _ (writes_unless _ I [] Unit (plain (factor_nary N)) (factor_refusal N)) (any_repeats N.nodes) 8))

  pub share_writes : (limit : ℕ) → Writes (share_outcome img out a b limit) (image_of (share_logic N limit)) [] (Imaged ((flattened_inputs N limit ≤ 2048) × (factor_refusal (flatten_nary N limit) ≡ 0)) (share_logic N limit))
  unfolding share_outcome
  share_writes limit =
      let I = image_of (share_logic N limit) in
      imaged _ (share_logic N limit) _
      (writes_also (λ c. (c.0, c.1.0)) (λ c. (c.0, (c.1, tt)))
      (writes_flat _ I _ (writes_unless _ I [] Unit (plain (share_logic N limit)) (factor_refusal (flatten_nary N limit))) (flattened_inputs N limit)))

-- the entries that write a mapping too
module _ (img out map a b : List ℕ) where
  -- the same with the image's numbers k, and room for the mapping of N's nodes by τ
  abbrev pub Mapped : ℕ → Type 0 → Net → (ℕ → ℕ) → Type 0
  Mapped k C N' τ = Passes a b k C (image_of N') (mapping_of (size (net_of img)) τ) (length out) (length map)

  mapped : (k : ℕ) (C : Type 0) (N' : Net) (τ : ℕ → ℕ) (o : Outcome) → Writes o (image_of N') (mapping_of (size (net_of img)) τ) C
      → Writes (in_areas a b (in_room (length out) (length map) (unless k o))) (image_of N') (mapping_of (size (net_of img)) τ) (Mapped k C N' τ)
  mapped k C N' τ o w = writes_entry o (image_of N') (mapping_of (size (net_of img)) τ) C w a b k (length out) (length map)

  with_map : (N' : Net) (τ : ℕ → ℕ) → Writes (written (image_of N') (mapping_of (size (net_of img)) τ)) (image_of N') (mapping_of (size (net_of img)) τ) Unit
  with_map N' τ = writes_written (image_of N') (mapping_of (size (net_of img)) τ)

  abbrev SortedTo : Outcome → Net → (ℕ → ℕ) → Type 0
  SortedTo o N' τ = Writes o (image_of N') (mapping_of (size (net_of img)) τ) (Mapped (sorted_refusal_of img) Unit N' τ)

  pub canonical_writes : SortedTo (canonical_outcome img out map a b) (canonical (net_of img)) (dedup_map make_canonical (net_of img))
  unfolding canonical_outcome
  canonical_writes = mapped (sorted_refusal_of img) Unit _ _ _ (with_map (canonical (net_of img)) (dedup_map make_canonical (net_of img)))

  pub dedup_writes : SortedTo (dedup_outcome img out map a b) (deduplicate (net_of img)) (dedup_map as_is (net_of img))
  unfolding dedup_outcome
  dedup_writes = mapped (sorted_refusal_of img) Unit _ _ _ (with_map (deduplicate (net_of img)) (dedup_map as_is (net_of img)))

  abbrev pub cleanup_map : ℕ → ℕ
  cleanup_map = translation (size (net_of img)) (cleanup_order (net_of img))

  pub cleanup_writes : Writes (cleanup_outcome img out map a b) (image_of (cleanup (net_of img))) (mapping_of (size (net_of img)) cleanup_map) (Mapped (refusal_of img) Unit (cleanup (net_of img)) cleanup_map)
  unfolding cleanup_outcome
  cleanup_writes = mapped (refusal_of img) Unit _ _ _ (with_map (cleanup (net_of img)) cleanup_map)

  abbrev pub sort_map : ℕ → ℕ
  sort_map = translation (size (net_of img)) (topo_order (net_of img))

  pub sort_writes : Writes (sort_outcome img out map a b) (image_of (topo_sort (net_of img))) (mapping_of (size (net_of img)) sort_map) (Mapped (refusal_of img) (sorts (net_of img) ≡ true) (topo_sort (net_of img)) sort_map)
  unfolding sort_outcome
  sort_writes =
      mapped (refusal_of img) _ _ _ _
      (writes_also (λ c. c.0) (λ c. (c, tt))
      (writes_if _ (image_of (topo_sort (net_of img))) (mapping_of (size (net_of img)) sort_map) Unit (with_map (topo_sort (net_of img)) sort_map) (sorts (net_of img)) 8))

-- ---- share's result

module _ (N : Net) (limit : ℕ) (ok : Valid N) (srt : is_topo_sorted N ≡ true) (few : flattened_inputs N limit ≤ 2048) (none : factor_refusal (flatten_nary N limit) ≡ 0) where
  pub share_valid : Valid (share_logic N limit)
  unfolding share_logic
  share_valid = factor_valid (flatten_nary N limit) (flatten_valid N limit ok srt few) (flatten_sorted N limit ok srt few) none

  pub share_sorted : is_topo_sorted (share_logic N limit) ≡ true
  unfolding share_logic
  share_sorted = factor_sorted (flatten_nary N limit) (flatten_valid N limit ok srt few) (flatten_sorted N limit ok srt few) none

-- ---- read again

-- img' is accepted, and holds the network N'
pub record Holds (img' : List ℕ) (N' : Net) : Type 0 where
  pub accepted : refusal_of img' ≡ 0
  pub sorted : is_topo_sorted N' ≡ true → sorted_refusal_of img' ≡ 0
  pub net : net_of img' ≡ N'

pub image_holds : (img' : List ℕ) (N' : Net) → Valid N' → img' ≡ image_of N' → Holds img' N'
image_holds img' N' v e =
    let t = read_written N' v in
    record { accepted = rw e t.accepted; sorted = λ s. rw e (t.sorted s); net = rw e t.same }

pub source_valid : (img : List ℕ) → sorted_refusal_of img ≡ 0 → Valid (net_of img)
source_valid img e = valid_net img ((sorted_at0 img).0 e).0

pub source_sorted : (img : List ℕ) → sorted_refusal_of img ≡ 0 → is_topo_sorted (net_of img) ≡ true
source_sorted img e = accepted_sorted img e

-- of an entry over sorted images: what it took, and the image of N' that it wrote
pub record Wrote (img : List ℕ) (C : Type 0) (N' : Net) (n : ℕ) (out' : List ℕ) : Type 0 where
  pub valid : Valid (net_of img)
  pub sorted : is_topo_sorted (net_of img) ≡ true
  pub pass : C
  pub image : take n out' ≡ image_of N'
  pub long : n ≡ length (image_of N')
  pub accepted : sorted_refusal_of (take n out') ≡ 0
  pub net : net_of (take n out') ≡ N'

module _ (img : List ℕ) (C : Type 0) (N' : Net) (good : Valid (net_of img) → is_topo_sorted (net_of img) ≡ true → C → Valid N' × (is_topo_sorted N' ≡ true)) where
  pub found_wrote : (a b mapping : List ℕ) (room map-room n : ℕ) (out' : List ℕ)
      → Found (Passes a b (sorted_refusal_of img) C (image_of N') mapping room map-room) (image_of N') n out' → Wrote img C N' n out'
  found_wrote a b mapping room map-room n out' f =
      let p = f.held in
      let v = source_valid img p.source in
      let s = source_sorted img p.source in
      let g = good v s p.pass in
      let h = image_holds (take n out') N' g.0 f.there in
      record { valid = v; sorted = s; pass = p.pass; image = f.there; long = f.long; accepted = h.sorted g.1; net = h.net }

-- ---- flatten, factor and share, from their contracts

module _ (img out a b : List ℕ) (r : Answer) (out' a' b' : List ℕ) (n : ℕ) (e : r ≡ Ok n) where
  pub flatten_wrote : (limit : ℕ) → Kept (flatten_outcome img out a b limit) out a b r out' a' b'
      → Wrote img (flattened_inputs (net_of img) limit ≤ 2048) (flatten_nary (net_of img) limit) n out'
  flatten_wrote limit k =
      found_wrote img _ _ (λ v s c. (flatten_valid (net_of img) limit v s c, flatten_sorted (net_of img) limit v s c)) a b [] (length out) 0 n out'
      (kept_found _ _ [] _ (flatten_writes img out a b limit) out a b r out' a' b' k n e)

  pub factor_wrote : Kept (factor_outcome img out a b) out a b r out' a' b'
      → Wrote img ((any_repeats (net_of img).nodes ≡ false) × (factor_refusal (net_of img) ≡ 0)) (factor_nary (net_of img)) n out'
  factor_wrote k =
      found_wrote img _ _ (λ v s c. (factor_valid (net_of img) v s c.1, factor_sorted (net_of img) v s c.1)) a b [] (length out) 0 n out'
      (kept_found _ _ [] _ (factor_writes img out a b) out a b r out' a' b' k n e)

  pub share_wrote : (limit : ℕ) → Kept (share_outcome img out a b limit) out a b r out' a' b'
      → Wrote img ((flattened_inputs (net_of img) limit ≤ 2048) × (factor_refusal (flatten_nary (net_of img) limit) ≡ 0)) (share_logic (net_of img) limit) n out'
  share_wrote limit k =
      found_wrote img _ _ (λ v s c. (share_valid (net_of img) limit v s c.0 c.1, share_sorted (net_of img) limit v s c.0 c.1)) a b [] (length out) 0 n out'
      (kept_found _ _ [] _ (share_writes img out a b limit) out a b r out' a' b' k n e)

-- ---- the entries that write a mapping, from their contracts

-- the words of a mapping that was written
pub map_word : (k : ℕ) (τ : ℕ → ℕ) (map' : List ℕ) → take (length (mapping_of k τ)) map' ≡ mapping_of k τ → (v : ℕ) → v < k → get_or map' v 0 ≡ τ v
map_word k τ map' e v h =
    let l : length (mapping_of k τ) ≡ k = length_tab τ k in
    sym (get_or-take (length (mapping_of k τ)) map' v 0 (omega arith)) ∙ ap (λ (m : List ℕ). get_or m v 0) e ∙ get_or_tab τ k v 0 h

-- what outputs reach is one of the nodes
pub reach_inside : (N : Net) → Valid N → (v : ℕ) → Reach N v → v < size N
reach_inside N A v r = kept_inside N (cleanup_order N) (cleanup_order_lem N A.signals) v (reach_kept N A.signals v r)

-- what it took, the image of N' that it wrote, and the mapping's words
pub record WroteMapped (img : List ℕ) (k : ℕ) (C : Type 0) (N' : Net) (τ : ℕ → ℕ) (n : ℕ) (out' map' : List ℕ) : Type 0 where
  pub source : k ≡ 0
  pub valid : Valid (net_of img)
  pub pass : C
  pub holds : Holds (take n out') N'
  pub words : (v : ℕ) → v < size (net_of img) → get_or map' v 0 ≡ τ v

module _ (img out map a b : List ℕ) (r : Answer) (out' map' a' b' : List ℕ) (n : ℕ) (e : r ≡ Ok n) where
  -- an entry with the outcome o, the image's numbers k, the result N' and the mapping τ
  found_mapped : (o : Outcome) (k : ℕ) (C : Type 0) (N' : Net) (τ : ℕ → ℕ)
      → Writes o (image_of N') (mapping_of (size (net_of img)) τ) (Mapped img out map a b k C N' τ)
      → (k ≡ 0 → Valid (net_of img)) → (k ≡ 0 → Valid (net_of img) → C → Valid N') → Kept2 o out map a b r out' map' a' b' → WroteMapped img k C N' τ n out' map'
  found_mapped o k C N' τ w ok good c =
      let f = kept2_found o _ _ _ w out a b r out' a' b' map map' c n e in
      let p = f.0.held in
      let v = ok p.source in
      record {
        source = p.source;
        valid = v;
        pass = p.pass;
        holds = image_holds (take n out') N' (good p.source v p.pass) f.0.there;
        words = map_word (size (net_of img)) τ map' f.1;
      }

  abbrev WroteDedup : (Gate → Norm) → Type 0
  WroteDedup norm = WroteMapped img (sorted_refusal_of img) Unit (dedup_with norm (net_of img)) (dedup_map norm (net_of img)) n out' map'

  pub canonical_wrote : Kept2 (canonical_outcome img out map a b) out map a b r out' map' a' b' → WroteDedup make_canonical
  canonical_wrote =
      found_mapped _ _ _ _ _ (canonical_writes img out map a b) (source_valid img)
      (λ z v c. dedup_valid make_canonical canonical_law (net_of img) v (source_sorted img z))

  pub dedup_wrote : Kept2 (dedup_outcome img out map a b) out map a b r out' map' a' b' → WroteDedup as_is
  dedup_wrote =
      found_mapped _ _ _ _ _ (dedup_writes img out map a b) (source_valid img)
      (λ z v c. dedup_valid as_is as_is_law (net_of img) v (source_sorted img z))

  pub cleanup_wrote : Kept2 (cleanup_outcome img out map a b) out map a b r out' map' a' b'
      → WroteMapped img (refusal_of img) Unit (cleanup (net_of img)) (translation (size (net_of img)) (cleanup_order (net_of img))) n out' map'
  cleanup_wrote = found_mapped _ _ _ _ _ (cleanup_writes img out map a b) (valid_net img) (λ z v c. cleanup_valid (net_of img) v)

  pub sort_wrote : Kept2 (sort_outcome img out map a b) out map a b r out' map' a' b'
      → WroteMapped img (refusal_of img) (sorts (net_of img) ≡ true) (topo_sort (net_of img)) (translation (size (net_of img)) (topo_order (net_of img))) n out' map'
  sort_wrote = found_mapped _ _ _ _ _ (sort_writes img out map a b) (valid_net img) (λ z v c. sort_valid (net_of img) v c)
