-- flatten: the same outputs in every cycle.
use mathlib.Core.Path.{◌≡◌, refl, sym, ap, ◌∙◌}
use Prim.Native.Nat.{ℕ, ◌+◌, ◌≤◌, ◌<◌}
use native.Mathlib.Omega.{arith}
use mathlib.Core.Bool.{Bool, true, false, ◌&&◌}
use mathlib.Core.List.{List, [], ◌∷◌, ◌++◌, append-nil}
use lib.ListN.{length, get_or}
use lib.Dec.{leb}
use Rattle.kinds.specs.Kinds.{wide_of}
use Rattle.kinds.specs.declared.Family.{Family}
use Rattle.laws.specs.Lists.{All}
use Rattle.laws.proofs.Bools.{and_left}
use Rattle.laws.proofs.Choices.{by_bool, clash}
use Rattle.laws.proofs.Lists.{all_map}
use Rattle.model.specs.Signal.{Ref, rzero, rnode, rinput, is_inverted, ref}
use Rattle.model.specs.Gate.{Gate, Net, Valid, is_dff, no_gate, gate_at, size, is_topo_sorted}
use Rattle.model.specs.Normal.{gate_of}
use Rattle.model.specs.Network.{cleanup}
use Rattle.model.specs.Evaluate.{signal_value, gate_value, shows, Consistent, evaluate, run, all_zero, run_from_zero}
use Rattle.model.specs.Sharing.{inside, opened, merge_dependencies, flats, merged, flatten_nary, flattened_inputs}
use Rattle.model.proofs.Names.{sorted}
use Rattle.model.proofs.Forward.{shows_comb, evaluate_sorted}
use Rattle.shape.proofs.Cleanup.{cleanup_valid, cleanup_sorted}
use Rattle.shape.proofs.Flatten.{inside_comb, Flat, is_merged, is_kept, flat, merged_size, merged_outs, merged_gate, merged_before, merged_sorted, merged_valid}
use Rattle.meaning.proofs.NaryValues.{val, unit_right}
use Rattle.meaning.proofs.CleanupRuns.{cleanup_runs}
use Rattle.meaning.proofs.DedupRuns.{canonical_runs}
use Rattle.meaning.proofs.FamilyValues.{monoid_of, val_append, value_of_family, wide_inside, numbers_run}

-- ---- merging keeps the value

value_plain : (i v : ℕ → Bool) (s w : ℕ) → ref s ≡ rnode w → is_inverted s ≡ false → signal_value i v s ≡ v w
unfolding signal_value
value_plain i v s w e f = rw (e, f)

-- each gate of the family that s names shows its value
abbrev Right : Family → (ℕ → Bool) → (ℕ → Bool) → (ℕ → Gate) → ℕ → Type 0
Right f i v G s = (w : ℕ) → ref s ≡ rnode w → inside f (G w) ≡ true → v w ≡ val (monoid_of f) (signal_value i v) (G w).ins

module _ (f : Family) (i v : ℕ → Bool) (G : ℕ → Gate) (limit : ℕ) where
  opened_val : (s used : ℕ) → Right f i v G s → val (monoid_of f) (signal_value i v) (opened f G limit used s (ref s)) ≡ signal_value i v s
  opened_val s used h = go (ref s) refl
    where
      alone : val (monoid_of f) (signal_value i v) (s ∷ []) ≡ signal_value i v s
      alone = unit_right (monoid_of f) (signal_value i v s)

      go : (r : Ref) → ref s ≡ r → val (monoid_of f) (signal_value i v) (opened f G limit used s r) ≡ signal_value i v s
      go rzero e = alone
      go (rinput k) e = alone
      go (rnode w) e =
          by_bool (is_inverted s)
          (λ b. rw b alone)
          (λ b. rw b
          (by_bool (inside f (G w) && leb (used + length (G w).ins) limit)
          (λ t. rw t (sym (h w e (and_left (inside f (G w)) _ t)) ∙ sym (value_plain i v s w e b)))
          (λ t. rw t alone)))

  merge_val : (l ret : List ℕ) → All (Right f i v G) l
      → val (monoid_of f) (signal_value i v) (merge_dependencies f G limit l ret) ≡ val (monoid_of f) (signal_value i v) (ret ++ l)
  unfolding merge_dependencies
  merge_val [] ret h = ap (val (monoid_of f) (signal_value i v)) (sym (append-nil ret))
  merge_val (s ∷ l) ret h =
      let F = monoid_of f in
      let ρ = signal_value i v in
      let o = opened f G limit (length ret + length l) s (ref s) in
      merge_val l (ret ++ o) h.1
      ∙ val_append F ρ (ret ++ o) l
      ∙ ap (λ x. F.op x (val F ρ l)) (val_append F ρ ret o)
      ∙ F.assoc (val F ρ ret) (val F ρ o) (val F ρ l)
      ∙ ap (λ x. F.op (val F ρ ret) (F.op x (val F ρ l))) (opened_val s (length ret + length l) h.0)
      ∙ sym (val_append F ρ ret (s ∷ l))

-- ---- the flattened network, before cleanup

module _ (N : Net) (limit : ℕ) (ok : Valid N) (srt : is_topo_sorted N ≡ true) where
  abbrev before : ℕ → ℕ → Gate
  before n w = get_or (flats N limit n) w no_gate

  module _ (i st v : ℕ → Bool) (c : Consistent (merged N limit) i st v) where
    here : (n : ℕ) → n < size N → n < size (merged N limit)
    here n h = omega (arith, merged_size N limit)

    -- the gates that gate n is merged over show their values
    right : (f : Family) (n w : ℕ) → n < size N → w < n → inside f (before n w) ≡ true → v w ≡ val (monoid_of f) (signal_value i v) (before n w).ins
    right f n w h l t =
        c w (here w (omega arith))
        ∙ ap (λ (g : Gate). shows i v g (st w)) (sym (merged_before N limit n w (omega arith) l))
        ∙ shows_comb i v (before n w) (st w) (inside_comb f (before n w) t)
        ∙ value_of_family f i v (before n w) t

    old_value : (n : ℕ) → n < size N → is_dff (gate_at N n) ≡ false → v n ≡ gate_value i v (gate_at N n)
    old_value n h e = c n (here n h) ∙ go (flat (before n) limit (gate_at N n))
      where
        go : Flat (before n) limit (gate_at N n) → shows i v (gate_at (merged N limit) n) (st n) ≡ gate_value i v (gate_at N n)
        go (is_merged f t q) =
            let l = merge_dependencies f (before n) limit (gate_at N n).ins [] in
            let g = gate_of (wide_of f) l in
            ap (λ (g : Gate). shows i v g (st n)) (merged_gate N limit n h ∙ q)
            ∙ shows_comb i v g (st n) (inside_comb f g (wide_inside f l))
            ∙ value_of_family f i v g (wide_inside f l)
            ∙ merge_val f i v (before n) limit (gate_at N n).ins [] (all_map (gate_at N n).ins (λ s b w r. right f n w h (b w r)) (sorted N srt n h e))
            ∙ sym (value_of_family f i v (gate_at N n) t)
        go (is_kept a x q) = ap (λ (g : Gate). shows i v g (st n)) (merged_gate N limit n h ∙ q) ∙ shows_comb i v (gate_at N n) (st n) e

  old_cell : (n : ℕ) → n < size N → is_dff (gate_at N n) ≡ true → gate_at (merged N limit) n ≡ gate_at N n
  old_cell n h e = go (flat (before n) limit (gate_at N n))
    where
      go : Flat (before n) limit (gate_at N n) → gate_at (merged N limit) n ≡ gate_at N n
      go (is_merged f t q) = clash e (inside_comb f (gate_at N n) t)
      go (is_kept a x q) = merged_gate N limit n h ∙ q

  -- from any state: every node keeps its number
  pub flatten_merged_runs_from : (st : ℕ → Bool) (is : List (List Bool)) → run N st is ≡ run (merged N limit) st is
  flatten_merged_runs_from =
      let few = ok.nodes_few in
      let e = merged_size N limit in
      numbers_run N (merged N limit) ok (omega arith) (omega arith) (merged_outs N limit) (λ n h e i st v c. old_value i st v c n h e) old_cell srt
      (evaluate (merged N limit)) (evaluate_sorted (merged N limit) (merged_sorted N limit ok srt))

  pub flatten_merged_runs : (is : List (List Bool)) → run_from_zero N is ≡ run_from_zero (merged N limit) is
  flatten_merged_runs = flatten_merged_runs_from all_zero

  -- THE SAME OUTPUTS in every cycle
  pub flatten_runs : flattened_inputs N limit ≤ 2048 → (is : List (List Bool)) → run_from_zero N is ≡ run_from_zero (flatten_nary N limit) is
  unfolding flatten_nary
  flatten_runs few is =
      let M = merged N limit in
      let A = merged_valid N limit ok srt few in
      let S = merged_sorted N limit ok srt in
      flatten_merged_runs is ∙ cleanup_runs M A S is ∙ canonical_runs (cleanup M) (cleanup_valid M A) (cleanup_sorted M A S) is
