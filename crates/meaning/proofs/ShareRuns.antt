-- factor and share: the same outputs in every cycle.
use mathlib.Core.Path.{◌≡◌, ◌∙◌}
use Prim.Native.Nat.{ℕ, ◌≤◌}
use mathlib.Core.Bool.{Bool, true, false, ◌&&◌}
use mathlib.Core.List.{List, [], ◌∷◌}
use Rattle.kinds.specs.declared.Family.{Family}
use Rattle.kinds.specs.declared.Family.TheVariants.{And, Xor}
use Rattle.laws.specs.Lists.{All, Distinct}
use Rattle.laws.proofs.Bools.{and_both, or_left, or_right}
use Rattle.laws.proofs.Choices.{by_bool, clash}
use Rattle.model.specs.Gate.{Gate, Net, Valid, is_topo_sorted}
use Rattle.model.specs.Network.{has, cleanup, topo_sort}
use Rattle.model.specs.Evaluate.{run_from_zero}
use Rattle.model.specs.Sharing.{any_repeats, factor_gates, factor_nary, factor_refusal, flatten_nary, flattened_inputs, grown, merged, pass_refusal, repeats, share_logic, takes}
use Rattle.shape.proofs.Members.{fresh_of}
use Rattle.shape.proofs.Sort.{sort_sorted}
use Rattle.shape.proofs.Cleanup.{cleanup_valid, cleanup_sorted}
use Rattle.shape.proofs.Flatten.{merged_sorted, merged_valid, flatten_valid, flatten_sorted}
use Rattle.shape.proofs.FactoringPass.{factor_refusals, pass_grown, pass_source, pass_sorted, pass_sorts, pass_valid}
use Rattle.meaning.proofs.Tidy.{Tidy}
use Rattle.meaning.proofs.TidyCanonical.{canonical_tidy}
use Rattle.meaning.proofs.FlattenRuns.{flatten_runs}
use Rattle.meaning.proofs.FactorRuns.{pass_runs}

-- ---- what 9 lets in

distinct_of : (l : List ℕ) → repeats l ≡ false → Distinct l
unfolding repeats
distinct_of [] h = tt
distinct_of (x ∷ l) h = (fresh_of x l (or_left (has x l) (repeats l) h), distinct_of l (or_right (has x l) (repeats l) h))

gates_tidy : (gs : List Gate) → any_repeats gs ≡ false → All (λ (g : Gate). takes And g ≡ true → Distinct g.ins) gs
unfolding any_repeats
gates_tidy [] h = tt
gates_tidy (g ∷ gs) h = (
  λ t. distinct_of g.ins (by_bool (repeats g.ins) (λ r. clash (and_both (takes And g) (repeats g.ins) t r) (or_left _ (any_repeats gs) h)) (λ r. r)),
  gates_tidy gs (or_right (takes And g && repeats g.ins) (any_repeats gs) h),
)

pub repeats_tidy : (N : Net) → any_repeats N.nodes ≡ false → Tidy And N
repeats_tidy N h = gates_tidy N.nodes h

-- ---- what the passes leave is tidy

pub pass_tidy : (e f : Family) (N : Net) → Valid N → is_topo_sorted N ≡ true → pass_refusal f N ≡ 0 → Tidy e (factor_gates f N)
unfolding factor_gates
pass_tidy e f N ok srt none =
    canonical_tidy e (topo_sort (grown f N)) (pass_source f N ok srt none) (sort_sorted (grown f N) (pass_grown f N ok srt none) (pass_sorts f N ok srt none))

pub flatten_tidy : (f : Family) (N : Net) (limit : ℕ) → Valid N → is_topo_sorted N ≡ true → flattened_inputs N limit ≤ 2048 → Tidy f (flatten_nary N limit)
unfolding flatten_nary
flatten_tidy f N limit ok srt few =
    let A = merged_valid N limit ok srt few in
    canonical_tidy f (cleanup (merged N limit)) (cleanup_valid (merged N limit) A) (cleanup_sorted (merged N limit) A (merged_sorted N limit ok srt))

-- ---- THE SAME OUTPUTS in every cycle

module _ (N : Net) (ok : Valid N) (srt : is_topo_sorted N ≡ true) where
  pub tidy_factor_runs : Tidy And N → factor_refusal N ≡ 0 → (is : List (List Bool)) → run_from_zero N is ≡ run_from_zero (factor_nary N) is
  unfolding factor_nary
  tidy_factor_runs tidy none is =
      let r = factor_refusals N none in
      pass_runs And N ok srt r.0 tidy is
      ∙ pass_runs Xor (factor_gates And N) (pass_valid And N ok srt r.0) (pass_sorted And N ok srt r.0) r.1 (pass_tidy Xor And N ok srt r.0) is

  pub factor_runs : any_repeats N.nodes ≡ false → factor_refusal N ≡ 0 → (is : List (List Bool)) → run_from_zero N is ≡ run_from_zero (factor_nary N) is
  factor_runs h = tidy_factor_runs (repeats_tidy N h)

module _ (N : Net) (limit : ℕ) (ok : Valid N) (srt : is_topo_sorted N ≡ true) (few : flattened_inputs N limit ≤ 2048) (none : factor_refusal (flatten_nary N limit) ≡ 0) where
  pub share_runs : (is : List (List Bool)) → run_from_zero N is ≡ run_from_zero (share_logic N limit) is
  unfolding share_logic
  share_runs is =
      flatten_runs N limit ok srt few is
      ∙ tidy_factor_runs (flatten_nary N limit) (flatten_valid N limit ok srt few) (flatten_sorted N limit ok srt few) (flatten_tidy And N limit ok srt few) none is
