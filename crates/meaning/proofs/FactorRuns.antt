-- A factoring pass has the same outputs in every cycle: the grown network carries every old node, then sort and canonical.
use mathlib.Core.Path.{◌≡◌, refl, sym, ap, ◌∙◌}
use Prim.Native.Nat.{ℕ, zero, suc, ◌+◌, ◌≤◌, ◌<◌}
use native.Mathlib.Nat.{add-zero}
use native.Mathlib.Omega.{arith}
use mathlib.Core.Bool.{Bool, true, false}
use mathlib.Core.List.{List, [], ◌∷◌, ◌++◌, map}
use lib.ListN.{length, get_or, get_or-append}
use lib.Seq.{get_or-append-add}
use Rattle.kinds.specs.Kinds.{kind_of}
use Rattle.kinds.specs.declared.Family.{Family}
use Rattle.kinds.specs.declared.Kind.TheVariants.{Buf}
use Rattle.laws.specs.Lists.{All, Distinct}
use Rattle.laws.proofs.Bools.{and_left}
use Rattle.laws.proofs.Choices.{by_bool, clash}
use Rattle.laws.proofs.Lists.{all_map, all_of, length_map, get_or_map_in}
use Rattle.model.specs.Signal.{ref, from_var}
use Rattle.model.specs.Gate.{Gate, Net, Valid, is_dff, no_gate, gate_at, size, is_topo_sorted}
use Rattle.model.specs.Normal.{gate_of}
use Rattle.model.specs.Network.{topo_sort}
use Rattle.model.specs.Evaluate.{value_of, signal_value, gate_value, shows, Consistent, Eval, Solves, run_by, run, all_zero, run_from_zero}
use Rattle.model.specs.Sharing.{Pair, factor_gates, grown, inside, pair_gate, pass_refusal, replaced, taken, takes}
use Rattle.model.proofs.Words.{node_ref}
use Rattle.model.proofs.Names.{Names, wired_ins}
use Rattle.model.proofs.Forward.{shows_comb}
use Rattle.shape.specs.Room.{room_of}
use Rattle.shape.proofs.Sort.{sort_sorted}
use Rattle.shape.proofs.FactoringEnds.{One}
use Rattle.shape.proofs.FactoringGrown.{taken_all, ended, grown_nodes, ended_one, length_replaced, size_grown, grown_sound, valid_grown}
use Rattle.shape.proofs.FactoringPass.{pass_room, pass_grown, pass_source, pass_sorts}
use Rattle.shape.proofs.Flatten.{inside_comb}
use Rattle.meaning.proofs.NaryValues.{Monoid, val, unit_right}
use Rattle.meaning.proofs.Valuations.{value_node}
use Rattle.meaning.proofs.SortRuns.{sort_solves, sort_runs}
use Rattle.meaning.proofs.DedupRuns.{canonical_runs}
use Rattle.meaning.proofs.Tidy.{Tidy}
use Rattle.meaning.proofs.FamilyValues.{monoid_of, value_of_family, value_of_pair, pair_inside, numbers_run}
use Rattle.meaning.proofs.FactorValues.{Built, Low, Valued, factoring_valued}

-- ---- the gates that a pass takes

taken_some : (f : Family) (gs : List Gate) (n : ℕ) → n < length gs → takes f (get_or gs n no_gate) ≡ true → 0 < length (taken f gs)
unfolding taken
taken_some f [] n h t = absurd (omega arith)
taken_some f (g ∷ gs) zero h t = rw t (omega arith)
taken_some f (g ∷ gs) (suc n) h t = by_bool (takes f g) (λ e. rw e (omega arith)) (λ e. rw e (taken_some f gs n (omega arith) t))

-- what names nodes below n is none of n or above
names_low : (n x : ℕ) → Names (λ m. m < n) x → Low n x
names_low n x h v a b e = let k = h v (ap ref e ∙ node_ref v b) in omega arith

-- ---- what stands in their places

replaced_other : (f : Family) (gs : List Gate) (ls : List (List ℕ)) (n : ℕ) → takes f (get_or gs n no_gate) ≡ false
    → get_or (replaced f gs ls) n no_gate ≡ get_or gs n no_gate
unfolding replaced
replaced_other f [] ls n e = refl
replaced_other f (g ∷ gs) [] n e = refl
replaced_other f (g ∷ gs) (l ∷ ls) zero e = rw e
replaced_other f (g ∷ gs) (l ∷ ls) (suc n) e = by_bool (takes f g)
    (λ t. rw t (replaced_other f gs ls n e))
    (λ t. rw t (replaced_other f gs (l ∷ ls) n e))

-- what stands for a pair that is not there
abbrev no_pair : Pair
no_pair = record { fst = 0; snd = 0 }

module _ (F : Monoid) (ρ : ℕ → Bool) where
  -- a Buf of one signal that has the value of the gate's inputs
  abbrev BufOf : List ℕ → Gate → Type 0
  BufOf l g = (x : ℕ) × (g ≡ gate_of Buf (x ∷ [])) × (ρ x ≡ val F ρ l)

  buf_of : (l m : List ℕ) → One m → val F ρ m ≡ val F ρ l → BufOf l (gate_of Buf m)
  buf_of l [] o e = absurd (omega arith)
  buf_of l (x ∷ []) o e = (x, refl, sym (unit_right F (ρ x)) ∙ e)
  buf_of l (x ∷ y ∷ m) o e = absurd (omega arith)

  replaced_taken : (f : Family) (gs : List Gate) (ls : List (List ℕ)) → All One ls → map (val F ρ) ls ≡ map (val F ρ) (taken f gs)
      → (n : ℕ) → n < length gs → takes f (get_or gs n no_gate) ≡ true → BufOf (get_or gs n no_gate).ins (get_or (replaced f gs ls) n no_gate)
  unfolding replaced taken
  replaced_taken f [] ls o e n h t = absurd (omega arith)
  replaced_taken f (g ∷ gs) [] o e n h t =
      absurd (omega (arith, taken_some f (g ∷ gs) n h t, ap length e, length_map (val F ρ) (taken f (g ∷ gs))))
  replaced_taken f (g ∷ gs) (l ∷ ls) o e zero h t =
      let r : map (val F ρ) (l ∷ ls) ≡ map (val F ρ) (g.ins ∷ taken f gs) = rw t at e in
      rw t (buf_of g.ins l o.0 cc)
  replaced_taken f (g ∷ gs) (l ∷ ls) o e (suc n) h t = by_bool (takes f g)
      (λ q.
      let r : map (val F ρ) (l ∷ ls) ≡ map (val F ρ) (g.ins ∷ taken f gs) = rw q at e in
      let k : map (val F ρ) ls ≡ map (val F ρ) (taken f gs) = cc in
      rw q (replaced_taken f gs ls o.1 k n (omega arith) t))
      (λ q.
      let r : map (val F ρ) (l ∷ ls) ≡ map (val F ρ) (taken f gs) = rw q at e in
      rw q (replaced_taken f gs (l ∷ ls) o r n (omega arith) t))

  built_all : (b : ℕ) (ps : List Pair)
      → ((k : ℕ) → k < length ps → ρ (from_var (b + k)) ≡ F.op (ρ (get_or ps k no_pair).fst) (ρ (get_or ps k no_pair).snd)) → Built F ρ b ps
  built_all b [] h = tt
  built_all b (x ∷ ps) h = (
    ap (λ y. ρ (from_var y)) (sym (add-zero b)) ∙ h 0 (omega arith),
    built_all (suc b) ps (λ k l. ap (λ y. ρ (from_var y)) (omega arith) ∙ h (suc k) (omega arith)),
  )

-- ---- the grown network

module _ (f : Family) (N : Net) (ok : Valid N) (tidy : Tidy f N) (room : length (ended f N).built ≤ room_of f N.nodes) where
  abbrev G : Net
  G = grown f N

  valid : Valid G
  valid = valid_grown f N ok room

  -- its old places and its new ones
  old_gate : (n : ℕ) → n < size N → gate_at G n ≡ get_or (replaced f N.nodes (ended f N).lists) n no_gate
  old_gate n h =
      ap (λ (gs : List Gate). get_or gs n no_gate) (grown_nodes f N)
      ∙ get_or-append (replaced f N.nodes (ended f N).lists) (map (pair_gate f) (ended f N).built) no_gate n (rw length_replaced h)

  new_gate : (k : ℕ) → k < length (ended f N).built → gate_at G (size N + k) ≡ pair_gate f (get_or (ended f N).built k no_pair)
  new_gate k h =
      let olds = replaced f N.nodes (ended f N).lists in
      ap (λ (gs : List Gate). get_or gs (size N + k) no_gate) (grown_nodes f N)
      ∙ ap (λ x. get_or (olds ++ map (pair_gate f) (ended f N).built) (x + k) no_gate) (sym (length_replaced f N.nodes (ended f N).lists))
      ∙ get_or-append-add olds (map (pair_gate f) (ended f N).built) k no_gate
      ∙ get_or_map_in (pair_gate f) (ended f N).built no_pair no_gate k h

  valued : Valued (monoid_of f) (size N) (taken f N.nodes) (ended f N)
  unfolding ended
  valued =
      let few = valid.nodes_few in
      factoring_valued (monoid_of f) (size N) (taken f N.nodes) (taken_all Distinct f N.nodes tidy)
      (taken_all (All (Low (size N))) f N.nodes
      (all_of (λ (g : Gate). takes f g ≡ true → All (Low (size N)) g.ins) N.nodes no_gate
      (λ j h t. all_map (gate_at N j).ins (λ x. names_low (size N) x) (wired_ins N ok.signals j h))))
      (omega (arith, (grown_sound f N ok room).next_is, size_grown f N))

  module _ (i st v : ℕ → Bool) (c : Consistent G i st v) where
    -- each new node has its pair's value
    pairs_built : Built (monoid_of f) (signal_value i v) (size N) (ended f N).built
    pairs_built = built_all (monoid_of f) (signal_value i v) (size N) (ended f N).built (λ k h.
        let p = get_or (ended f N).built k no_pair in
        let few = valid.nodes_few in
        let here : size N + k < size G = omega (arith, size_grown f N) in
        value_node i v (size N + k) (omega arith)
        ∙ c (size N + k) here
        ∙ ap (λ (g : Gate). shows i v g (st (size N + k))) (new_gate k h)
        ∙ shows_comb i v (pair_gate f p) (st (size N + k)) (inside_comb f (pair_gate f p) (pair_inside f p))
        ∙ value_of_pair f i v p)

    old_value : (n : ℕ) → n < size N → is_dff (gate_at N n) ≡ false → v n ≡ gate_value i v (gate_at N n)
    unfolding gate_value value_of kind_of
    old_value n h e =
        c n (omega (arith, size_grown f N))
        ∙ by_bool (takes f (gate_at N n))
        (λ t.
        let r = replaced_taken (monoid_of f) (signal_value i v) f N.nodes (ended f N).lists (ended_one f N) (valued.values (signal_value i v) pairs_built) n h t in
        ap (λ (g : Gate). shows i v g (st n)) (old_gate n h ∙ r.1)
        ∙ shows_comb i v (gate_of Buf (r.0 ∷ [])) (st n) refl
        ∙ r.2
        ∙ sym (value_of_family f i v (gate_at N n) (and_left (inside f (gate_at N n)) _ t)))
        (λ t.
        ap (λ (g : Gate). shows i v g (st n)) (old_gate n h ∙ replaced_other f N.nodes (ended f N).lists n t)
        ∙ shows_comb i v (gate_at N n) (st n) e)

  old_cell : (n : ℕ) → n < size N → is_dff (gate_at N n) ≡ true → gate_at G n ≡ gate_at N n
  old_cell n h e = by_bool (takes f (gate_at N n))
      (λ t. clash e (inside_comb f (gate_at N n) (and_left (inside f (gate_at N n)) _ t)))
      (λ t. old_gate n h ∙ replaced_other f N.nodes (ended f N).lists n t)

  same_outs : G.outs ≡ N.outs
  unfolding grown
  same_outs = refl

  -- every old node keeps its number and its value: the same outputs in every cycle, from any state, by any valuation
  pub grown_runs : is_topo_sorted N ≡ true → (ev : Eval) → Solves G ev → (st : ℕ → Bool) (is : List (List Bool)) → run N st is ≡ run_by G ev st is
  grown_runs =
      let few = valid.nodes_few in
      let more = size_grown f N in
      numbers_run N G ok (omega arith) (omega arith) same_outs (λ n h e i st v c. old_value i st v c n h e) old_cell

-- ---- THE SAME OUTPUTS in every cycle

module _ (f : Family) (N : Net) (ok : Valid N) (srt : is_topo_sorted N ≡ true) (none : pass_refusal f N ≡ 0) (tidy : Tidy f N) where
  pub pass_runs : (is : List (List Bool)) → run_from_zero N is ≡ run_from_zero (factor_gates f N) is
  unfolding factor_gates
  pass_runs is =
      let A = pass_grown f N ok srt none in
      let S = pass_sorts f N ok srt none in
      let s = sort_solves (grown f N) A S in
      grown_runs f N ok tidy (pass_room f N ok none) srt _ s all_zero is
      ∙ sort_runs (grown f N) A S _ s is
      ∙ canonical_runs (topo_sort (grown f N)) (pass_source f N ok srt none) (sort_sorted (grown f N) A S) is
