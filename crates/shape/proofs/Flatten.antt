-- Flattening: what each gate becomes, and that the result is valid and sorted; then after cleanup and canonical.
use mathlib.Core.Path.{◌≡◌, refl, sym, ap, ◌∙◌, subst}
use Prim.Native.Nat.{ℕ, zero, suc, ◌+◌, ◌≤◌, ◌<◌}
use native.Mathlib.Nat.{le_refl, not-suc-le-zero}
use native.Mathlib.Omega.{arith}
use native.Mathlib.Decide.{ℕ_discrete}
use mathlib.Core.Bool.{true, false, not, ◌&&◌}
use mathlib.Core.List.{List, [], ◌∷◌, ◌++◌}
use lib.ListN.{length, get_or, length-append, get_or-append}
use lib.Seq.{get_or_at}
use lib.Dec.{leb}
use Rattle.laws.specs.Lists.{All}
use Rattle.laws.proofs.Bools.{and_left, and_right, true_false}
use Rattle.laws.proofs.Choices.{by_bool, clash}
use Rattle.laws.proofs.Lists.{all_append, all_map}
use Rattle.kinds.specs.Kinds.{kind_of, in_family, is_flip_flop, wide_of}
use Rattle.kinds.specs.declared.Kind.{Kind}
use Rattle.kinds.specs.declared.Kind.TheVariants.{And2, Xor2, And3, Xor3, Maj, Mux, AndN, OrN, NandN, NorN, XorN, XnorN, Buf, Dff, Lut}
use Rattle.kinds.specs.declared.Family.{Family}
use Rattle.kinds.specs.declared.Family.TheVariants.{And, Xor}
use Rattle.model.specs.Signal.{Ref, rzero, rnode, rinput, ref, is_inverted}
use Rattle.model.specs.Gate.{Gate, Net, is_dff, no_gate, gate_at, size, fits_code, fits_table, shaped, is_topo_sorted, Valid}
use Rattle.model.specs.Normal.{gate_of, make_canonical}
use Rattle.model.specs.Network.{cleanup}
use Rattle.model.specs.Sharing.{inside, opened, merge_dependencies, flat_by, flat_gate, flats, merged, flatten_nary, flattened_inputs}
use Rattle.shape.proofs.Named.{Here, here_node, here_more, shaped_at, shaped_all, wired_ins, wired_outs, wired_all, sorted_ins, sorted_all}
use Rattle.shape.proofs.Cleanup.{cleanup_valid, cleanup_sorted}
use Rattle.shape.proofs.DedupNormal.{canonical_law}
use Rattle.shape.proofs.Dedup.{dedup_valid, dedup_sorted}

-- ---- what merging puts into a list

-- P holds of a signal and, where it names a gate of the family, of that gate's inputs
abbrev pub Opens : (ℕ → Type 0) → Family → (ℕ → Gate) → ℕ → Type 0
Opens P f G s = P s × ((w : ℕ) → ref s ≡ rnode w → inside f (G w) ≡ true → All P (G w).ins)

module _ (P : ℕ → Type 0) (f : Family) (G : ℕ → Gate) (limit : ℕ) where
  opened_all : (s used : ℕ) → Opens P f G s → All P (opened f G limit used s (ref s))
  opened_all s used h = go (ref s) refl
    where
      go : (r : Ref) → ref s ≡ r → All P (opened f G limit used s r)
      go rzero e = (h.0, tt)
      go (rnode w) e =
          let room = leb (used + length (G w).ins) limit in
          by_bool (not (is_inverted s) && (inside f (G w) && room))
          (λ t. rw t (h.1 w e (and_left (inside f (G w)) room (and_right (not (is_inverted s)) (inside f (G w) && room) t))))
          (λ t. rw t (h.0, tt))
      go (rinput k) e = (h.0, tt)

  pub merge_all : (l ret : List ℕ) → All (Opens P f G) l → All P ret → All P (merge_dependencies f G limit l ret)
  unfolding merge_dependencies
  merge_all [] ret h a = a
  merge_all (s ∷ l) ret h a = merge_all l _ h.1 (all_append P ret _ a (opened_all s (length ret + length l) h.0))

-- the list only grows
pub merge_grows : (f : Family) (G : ℕ → Gate) (limit : ℕ) (l ret : List ℕ) → length ret ≤ length (merge_dependencies f G limit l ret)
unfolding merge_dependencies
merge_grows f G limit [] ret = le_refl _
merge_grows f G limit (s ∷ l) ret =
    let o = opened f G limit (length ret + length l) s (ref s) in
    omega (arith, length-append ret o, merge_grows f G limit l (ret ++ o))

-- ---- what a gate becomes

family_comb : (k : Kind) (f : Family) → in_family k f ≡ true → is_flip_flop k ≡ false
family_comb And2 f h = refl
family_comb Xor2 f h = refl
family_comb And3 f h = refl
family_comb Xor3 f h = refl
family_comb Maj f h = refl
family_comb Mux f h = refl
family_comb AndN f h = refl
family_comb OrN f h = refl
family_comb NandN f h = refl
family_comb NorN f h = refl
family_comb XorN f h = refl
family_comb XnorN f h = refl
family_comb Buf f h = refl
family_comb Dff f h = true_false (sym h)
family_comb Lut f h = refl

pub inside_comb : (f : Family) (g : Gate) → inside f g ≡ true → is_dff g ≡ false
inside_comb f g h = family_comb (kind_of g.kind) f h

-- an And or Xor is merged; any other gate stays
pub data Flat (G : ℕ → Gate) (limit : ℕ) (g : Gate) : Type 0 where
  is_merged : (f : Family) → inside f g ≡ true → flat_gate G limit g ≡ flat_by f G limit g → Flat G limit g
  is_kept : inside And g ≡ false → inside Xor g ≡ false → flat_gate G limit g ≡ g → Flat G limit g

pub flat : (G : ℕ → Gate) (limit : ℕ) (g : Gate) → Flat G limit g
unfolding flat_gate
flat G limit g = by_bool (inside And g)
    (λ a. is_merged And a (rw a))
    (λ a. by_bool (inside Xor g) (λ x. is_merged Xor x (rw (a, x))) (λ x. is_kept a x (rw (a, x))))

wide_shaped : (f : Family) (l : List ℕ) → shaped (gate_of (wide_of f) l) ≡ true
unfolding shaped fits_code kind_of fits_table
wide_shaped And l = refl
wide_shaped Xor l = refl

wide_comb : (f : Family) (l : List ℕ) → is_dff (gate_of (wide_of f) l) ≡ false
unfolding kind_of
wide_comb And l = refl
wide_comb Xor l = refl

flat_dff : (G : ℕ → Gate) (limit : ℕ) (g : Gate) → is_dff (flat_gate G limit g) ≡ is_dff g
flat_dff G limit g = go (flat G limit g)
  where
    go : Flat G limit g → is_dff (flat_gate G limit g) ≡ is_dff g
    go (is_merged f h e) = ap is_dff e ∙ wide_comb f (merge_dependencies f G limit g.ins []) ∙ sym (inside_comb f g h)
    go (is_kept a x e) = ap is_dff e

flat_shaped : (G : ℕ → Gate) (limit : ℕ) (g : Gate) → shaped g ≡ true → shaped (flat_gate G limit g) ≡ true
flat_shaped G limit g s = go (flat G limit g)
  where
    go : Flat G limit g → shaped (flat_gate G limit g) ≡ true
    go (is_merged f h e) = ap shaped e ∙ wide_shaped f (merge_dependencies f G limit g.ins [])
    go (is_kept a x e) = ap shaped e ∙ s

flat_cell : (G : ℕ → Gate) (limit : ℕ) (g : Gate) → is_dff g ≡ true → flat_gate G limit g ≡ g
flat_cell G limit g d = go (flat G limit g)
  where
    go : Flat G limit g → flat_gate G limit g ≡ g
    go (is_merged f h e) = clash d (inside_comb f g h)
    go (is_kept a x e) = e

-- P holds of the inputs of what a gate becomes
pub flat_all : (P : ℕ → Type 0) (G : ℕ → Gate) (limit : ℕ) (g : Gate) → All P g.ins
    → ((f : Family) → inside f g ≡ true → All (Opens P f G) g.ins) → All P (flat_gate G limit g).ins
flat_all P G limit g a h = go (flat G limit g)
  where
    go : Flat G limit g → All P (flat_gate G limit g).ins
    go (is_merged f i e) = subst (λ (x : Gate). All P x.ins) (sym e) (merge_all P f G limit g.ins [] (h f i) tt)
    go (is_kept b x e) = subst (λ (x : Gate). All P x.ins) (sym e) a

-- ---- the gates of the flattened network

module _ (N : Net) (limit : ℕ) where
  pub length_flats : (k : ℕ) → length (flats N limit k) ≡ k
  unfolding flats
  length_flats zero = refl
  length_flats (suc k) = length-append (flats N limit k) _ ∙ ap (λ x. x + 1) (length_flats k) ∙ omega arith

  -- what gate n becomes, over those before it
  abbrev pub flat_at : ℕ → Gate
  flat_at n = flat_gate (λ w. get_or (flats N limit n) w no_gate) limit (gate_at N n)

  pub flats_next : (k : ℕ) → flats N limit (suc k) ≡ flats N limit k ++ (flat_at k ∷ [])
  unfolding flats
  flats_next k = refl

  pub flats_gate : (k n : ℕ) → n < k → get_or (flats N limit k) n no_gate ≡ flat_at n
  flats_gate zero n h = absurd (not-suc-le-zero h)
  flats_gate (suc k) n h = elim (ℕ_discrete n k) [
    | yes e ↦ rw (flats_next k, e) (get_or_at (flats N limit k) (flat_at k) [] no_gate k (length_flats k))
    | no e ↦
        rw (flats_next k)
        (get_or-append (flats N limit k) (flat_at k ∷ []) no_gate n (omega (arith, length_flats k)) ∙ flats_gate k n (omega arith))
  ]

  pub merged_size : size (merged N limit) ≡ size N
  unfolding merged
  merged_size = length_flats (size N)

  pub merged_inputs : (merged N limit).inputs ≡ N.inputs
  unfolding merged
  merged_inputs = refl

  pub merged_outs : (merged N limit).outs ≡ N.outs
  unfolding merged
  merged_outs = refl

  pub merged_nodes : (merged N limit).nodes ≡ flats N limit (size N)
  unfolding merged
  merged_nodes = refl

  pub merged_gate : (n : ℕ) → n < size N → gate_at (merged N limit) n ≡ flat_at n
  unfolding merged
  merged_gate n h = flats_gate (size N) n h

  -- the gates that gate n is merged over are the result's own
  pub merged_before : (n w : ℕ) → n ≤ size N → w < n → get_or (flats N limit n) w no_gate ≡ gate_at (merged N limit) w
  merged_before n w h l = flats_gate n w l ∙ sym (merged_gate w (omega arith))

  merged_dff : (n : ℕ) → n < size N → is_dff (gate_at (merged N limit) n) ≡ is_dff (gate_at N n)
  merged_dff n h = ap is_dff (merged_gate n h) ∙ flat_dff _ limit (gate_at N n)

-- ---- FORM OF THE RESULT

module _ (N : Net) (limit : ℕ) (ok : Valid N) (srt : is_topo_sorted N ≡ true) where
  -- the gates that gate n is merged over name what stands before it, if each names what stands before itself
  before : (n : ℕ) → n < size N → ((m : ℕ) → m < n → is_dff (gate_at N m) ≡ false → All (Here N.inputs m) (gate_at (merged N limit) m).ins)
      → (f : Family) (w : ℕ) → w < n → inside f (get_or (flats N limit n) w no_gate) ≡ true → All (Here N.inputs n) (get_or (flats N limit n) w no_gate).ins
  before n h ih f w q j =
      let e = merged_before N limit n w (omega arith) q in
      let c : is_dff (gate_at N w) ≡ false = sym (merged_dff N limit w (omega arith)) ∙ sym (ap is_dff e) ∙ inside_comb f (get_or (flats N limit n) w no_gate) j in
      subst (λ (x : Gate). All (Here N.inputs n) x.ins) (sym e)
      (all_map (gate_at (merged N limit) w).ins (λ s. here_more N.inputs w n s (omega arith)) (ih w q c))

  -- a combinational gate names what stands before it
  merged_below : (k n : ℕ) → n < k → n < size N → is_dff (gate_at N n) ≡ false → All (Here N.inputs n) (gate_at (merged N limit) n).ins
  merged_below zero n l h d = absurd (not-suc-le-zero l)
  merged_below (suc k) n l h d =
      let P = Here N.inputs n in
      let own : All P (gate_at N n).ins = sorted_ins N ok.signals srt n h d in
      subst (λ (x : Gate). All P x.ins) (sym (merged_gate N limit n h))
      (flat_all P (λ w. get_or (flats N limit n) w no_gate) limit (gate_at N n) own
      (λ f i. all_map (gate_at N n).ins (λ s p. (p, λ w e j. before n h (λ m q c. merged_below k m (omega arith) (omega arith) c) f w (here_node N.inputs n s w p e) j)) own))

  merged_here : (n : ℕ) → n < size N → All (Here N.inputs (size N)) (gate_at (merged N limit) n).ins
  merged_here n h = by_bool (is_dff (gate_at N n))
      (λ d.
      subst (λ (x : Gate). All (Here N.inputs (size N)) x.ins) (sym (merged_gate N limit n h ∙ flat_cell _ limit (gate_at N n) d))
      (wired_ins N ok.signals n h))
      (λ d.
      all_map (gate_at (merged N limit) n).ins (λ s. here_more N.inputs n (size N) s (omega arith))
      (merged_below (suc n) n (le_refl _) h d))

  pub merged_sorted : is_topo_sorted (merged N limit) ≡ true
  merged_sorted =
      let e = merged_size N limit in
      sorted_all (merged N limit) (λ v h d. rw (merged_inputs N limit) (merged_below (suc v) v (le_refl _) (omega arith) (sym (merged_dff N limit v (omega arith)) ∙ d)))

  module _ (few : flattened_inputs N limit ≤ 2048) where
    pub merged_valid : Valid (merged N limit)
    unfolding flattened_inputs
    merged_valid =
        let e = merged_size N limit in
        record {
          inputs_few = rw (merged_inputs N limit) ok.inputs_few;
          nodes_few = omega (arith, ok.nodes_few);
          outs_few = rw (merged_outs N limit) ok.outs_few;
          gates_shaped = shaped_all (merged N limit).nodes (λ v h.
              ap shaped (merged_gate N limit v (omega arith)) ∙ flat_shaped _ limit (gate_at N v) (shaped_at N.nodes ok.gates_shaped v (omega arith)));
          ins_few = few;
          signals = wired_all (merged N limit)
              (λ v h. rw (merged_inputs N limit, e) (merged_here v (omega arith)))
              (rw (merged_inputs N limit, e, merged_outs N limit) (wired_outs N ok.signals));
        }

    pub flatten_valid : Valid (flatten_nary N limit)
    unfolding flatten_nary
    flatten_valid = dedup_valid make_canonical canonical_law (cleanup (merged N limit)) (cleanup_valid (merged N limit) merged_valid) (cleanup_sorted (merged N limit) merged_valid merged_sorted)

    pub flatten_sorted : is_topo_sorted (flatten_nary N limit) ≡ true
    unfolding flatten_nary
    flatten_sorted = dedup_sorted make_canonical canonical_law (cleanup (merged N limit)) (cleanup_valid (merged N limit) merged_valid) (cleanup_sorted (merged N limit) merged_valid merged_sorted)
