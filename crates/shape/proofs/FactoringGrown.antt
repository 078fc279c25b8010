-- The grown network of a pass: its size, when 12 lets it in, and that it is valid.
use Prim.Native.Nat.{suc, zero-le, ℕ, ◌*◌, ◌+◌, ◌<◌, ◌≤◌}
use mathlib.Core.Path.{ap, refl, subst, sym, ◌≡◌}
use mathlib.Core.Logic.{inl, inr}
use mathlib.Core.Bool.{true}
use mathlib.Core.List.{List, [], map, ◌++◌, ◌∷◌}
use native.Mathlib.Omega.{arith}
use lib.ListN.{length, length-append}
use lib.Dec.{ltb}
use borrow.Author.Tests.{le-ltb, lt-ltb, ltb-false, ltb-true}
use Rattle.kinds.specs.Kinds.{kind_of}
use Rattle.laws.specs.Lists.{All}
use Rattle.model.specs.Gate.{Gate, Net, Valid, all_shaped, fanin, fits_code, fits_table, no_gate, shaped, size}
use Rattle.model.specs.Normal.{gate_of}
use Rattle.model.specs.Sharing.{Pair, State, factoring, grown, inside, pair_gate, pair_places, pass_refusal, replaced, taken, takes}
use Rattle.shape.specs.Room.{buf_inputs, room_of}
use Rattle.laws.proofs.Bools.{and_both, and_left, and_right}
use Rattle.laws.proofs.Choices.{by_bool}
use Rattle.laws.proofs.Lists.{all_append, all_at, all_each, all_map, all_of, length_map}
use Rattle.shape.proofs.FactoringEnds.{One, Some, lists_factoring, one_left}
use Rattle.shape.proofs.FactoringSound.{Known, Rising, Sound, factoring_sound}
use Rattle.shape.proofs.Named.{Here, here_more, here_var, wired_ins, wired_outs, wired_all}
use Rattle.kinds.specs.declared.Family.TheVariants.{And, Xor}
use Rattle.kinds.specs.declared.Kind.TheVariants.{Buf}
use Rattle.kinds.specs.declared.Family.{Family}

-- ---- the gates of the pass

pub taken_append : (f : Family) (a b : List Gate) → taken f (a ++ b) ≡ taken f a ++ taken f b
unfolding taken
taken_append f [] b = refl
taken_append f (g ∷ a) b = by_bool (takes f g) (λ e. rw e (ap (◌∷◌ g.ins) (taken_append f a b))) (λ e. rw e (taken_append f a b))

pub taken_all : (P : List ℕ → Type 0) (f : Family) (gs : List Gate) → All (λ (g : Gate). takes f g ≡ true → P g.ins) gs → All P (taken f gs)
unfolding taken
taken_all P f [] h = tt
taken_all P f (g ∷ gs) h = by_bool (takes f g) (λ e. rw e (h.0 e, taken_all P f gs h.1)) (λ e. rw e (taken_all P f gs h.1))

taken_some : (f : Family) (gs : List Gate) → All Some (taken f gs)
taken_some f gs =
    taken_all Some f gs
    (all_each (λ (g : Gate). takes f g ≡ true → Some g.ins) gs
    (λ g e. omega (arith, ltb-true 1 (length g.ins) (and_right (inside f g) (ltb 1 (length g.ins)) e))))

-- ---- its size

pub length_replaced : (f : Family) (gs : List Gate) (ls : List (List ℕ)) → length (replaced f gs ls) ≡ length gs
unfolding replaced
length_replaced f [] ls = refl
length_replaced f (g ∷ gs) [] = refl
length_replaced f (g ∷ gs) (l ∷ ls) = by_bool (takes f g) (λ e. rw e (ap suc (length_replaced f gs ls))) (λ e. rw e (ap suc (length_replaced f gs (l ∷ ls))))

taken_none : (f : Family) (gs : List Gate) → length (taken f gs) ≡ 0 → buf_inputs f gs ≡ fanin gs
unfolding taken buf_inputs fanin
taken_none f [] h = refl
taken_none f (g ∷ gs) h = by_bool (takes f g)
    (λ e. let z : suc (length (taken f gs)) ≡ 0 = rw e at h in absurd (omega arith))
    (λ e. let z : length (taken f gs) ≡ 0 = rw e at h in rw e (ap (λ x. length g.ins + x) (taken_none f gs z)))

fanin_replaced : (f : Family) (gs : List Gate) (ls : List (List ℕ)) → All One ls → length ls ≡ length (taken f gs) → fanin (replaced f gs ls) ≡ buf_inputs f gs
unfolding replaced fanin buf_inputs taken
fanin_replaced f [] ls a e = refl
fanin_replaced f (g ∷ gs) [] a e = sym (taken_none f (g ∷ gs) (sym e))
fanin_replaced f (g ∷ gs) (l ∷ ls) a e = by_bool (takes f g)
    (λ t. let z : suc (length ls) ≡ suc (length (taken f gs)) = rw t at e in rw t (omega (arith, a.0, fanin_replaced f gs ls a.1 (omega arith))))
    (λ t. let z : suc (length ls) ≡ length (taken f gs) = rw t at e in rw t (omega (arith, fanin_replaced f gs (l ∷ ls) a z)))

fanin_pairs : (f : Family) (ps : List Pair) → fanin (map (pair_gate f) ps) ≡ 2 * length ps
unfolding fanin
fanin_pairs f [] = refl
fanin_pairs f (x ∷ ps) = omega (arith, fanin_pairs f ps)

pub fanin_append : (gs hs : List Gate) → fanin (gs ++ hs) ≡ fanin gs + fanin hs
unfolding fanin
fanin_append [] hs = omega arith
fanin_append (g ∷ gs) hs = rw (fanin_append gs hs) (omega arith)

pub buf_le : (f : Family) (gs : List Gate) → buf_inputs f gs ≤ fanin gs
unfolding buf_inputs fanin
buf_le f [] = zero-le
buf_le f (g ∷ gs) = by_bool (takes f g)
    (λ e. rw e (omega (arith, buf_le f gs, ltb-true 1 (length g.ins) (and_right (inside f g) (ltb 1 (length g.ins)) e))))
    (λ e. rw e (omega (arith, buf_le f gs)))

module _ (f : Family) (N : Net) where
  -- the end of the pass over the network's gates
  unfoldable pub ended : State
  ended = factoring (taken f N.nodes) (size N)

  pub grown_nodes : (grown f N).nodes ≡ replaced f N.nodes ended.lists ++ map (pair_gate f) ended.built
  unfolding grown ended
  grown_nodes = refl

  pub ended_one : All One ended.lists
  unfolding ended
  ended_one = one_left (taken f N.nodes) (size N) (taken_some f N.nodes)

  pub length_ended : length ended.lists ≡ length (taken f N.nodes)
  unfolding ended
  length_ended = lists_factoring (taken f N.nodes) (size N)

  pub size_grown : size (grown f N) ≡ size N + length ended.built
  size_grown = rw (grown_nodes, length-append, length_replaced, length_map)

  pub fanin_grown : fanin (grown f N).nodes ≡ buf_inputs f N.nodes + 2 * length ended.built
  fanin_grown = rw (grown_nodes, fanin_append, fanin_pairs f ended.built, fanin_replaced f N.nodes ended.lists ended_one length_ended)

  -- ---- 12

  module _ (few : size N ≤ 512) (small : fanin N.nodes ≤ 2048) where
    pub room_fits : length ended.built ≤ room_of f N.nodes → (size (grown f N) ≤ 512) × (fanin (grown f N).nodes ≤ 2048)
    unfolding room_of
    room_fits h = (omega (arith, size_grown), omega (arith, fanin_grown, buf_le f N.nodes))

    pub fits_room : size (grown f N) ≤ 512 → fanin (grown f N).nodes ≤ 2048 → length ended.built ≤ room_of f N.nodes
    unfolding room_of
    fits_room a b = omega (arith, size_grown, fanin_grown)

    pub refusal_pairs : 4096 < pair_places f N → pass_refusal f N ≡ 11
    unfolding pass_refusal
    refusal_pairs h = rw (lt-ltb 4096 (pair_places f N) h)

    pub refusal_none : pair_places f N ≤ 4096 → length ended.built ≤ room_of f N.nodes → pass_refusal f N ≡ 0
    unfolding pass_refusal
    refusal_none h k =
        let r = room_fits k in
        simp (le-ltb 4096 (pair_places f N) h, le-ltb 512 (size (grown f N)) r.0, le-ltb 2048 (fanin (grown f N).nodes) r.1)

    pub refusal_room : pair_places f N ≤ 4096 → room_of f N.nodes < length ended.built → pass_refusal f N ≡ 12
    unfolding pass_refusal
    refusal_room h k =
        rw (le-ltb 4096 (pair_places f N) h)
        (by_bool (ltb 512 (size (grown f N)))
        (λ p. rw p)
        (λ p. rw p (by_bool (ltb 2048 (fanin (grown f N).nodes))
        (λ q. rw q)
        (λ q. absurd (omega (arith, fits_room (ltb-false _ _ p) (ltb-false _ _ q)))))))

-- ---- its gates

shaped_buf : (l : List ℕ) → One l → shaped (gate_of Buf l) ≡ true
unfolding shaped fits_code kind_of fits_table
shaped_buf l h = rw h

shaped_pair : (f : Family) (x : Pair) → shaped (pair_gate f x) ≡ true
unfolding shaped fits_code kind_of fits_table
shaped_pair And x = refl
shaped_pair Xor x = refl

shaped_append : (a b : List Gate) → all_shaped a ≡ true → all_shaped b ≡ true → all_shaped (a ++ b) ≡ true
unfolding all_shaped
shaped_append [] b h k = k
shaped_append (g ∷ a) b h k = and_both (shaped g) (all_shaped (a ++ b)) (and_left (shaped g) (all_shaped a) h) (shaped_append a b (and_right (shaped g) (all_shaped a) h) k)

shaped_replaced : (f : Family) (gs : List Gate) (ls : List (List ℕ)) → all_shaped gs ≡ true → All One ls → all_shaped (replaced f gs ls) ≡ true
unfolding all_shaped replaced
shaped_replaced f [] ls h a = refl
shaped_replaced f (g ∷ gs) [] h a = h
shaped_replaced f (g ∷ gs) (l ∷ ls) h a = by_bool (takes f g)
    (λ e. rw e (and_both (shaped (gate_of Buf l)) _ (shaped_buf l a.0) (shaped_replaced f gs ls (and_right (shaped g) (all_shaped gs) h) a.1)))
    (λ e. rw e (and_both (shaped g) _ (and_left (shaped g) (all_shaped gs) h) (shaped_replaced f gs (l ∷ ls) (and_right (shaped g) (all_shaped gs) h) a)))

shaped_pairs : (f : Family) (ps : List Pair) → all_shaped (map (pair_gate f) ps) ≡ true
unfolding all_shaped
shaped_pairs f [] = refl
shaped_pairs f (x ∷ ps) = and_both (shaped (pair_gate f x)) _ (shaped_pair f x) (shaped_pairs f ps)

-- ---- its signals

abbrev Wired : ℕ → ℕ → Gate → Type 0
Wired i n g = All (Here i n) g.ins

wired_replaced : (i n : ℕ) (f : Family) (gs : List Gate) (ls : List (List ℕ)) → All (Wired i n) gs → All (All (Here i n)) ls → All (Wired i n) (replaced f gs ls)
unfolding replaced
wired_replaced i n f [] ls h k = tt
wired_replaced i n f (g ∷ gs) [] h k = h
wired_replaced i n f (g ∷ gs) (l ∷ ls) h k = by_bool (takes f g)
    (λ e. rw e (k.0, wired_replaced i n f gs ls h.1 k.1))
    (λ e. rw e (h.0, wired_replaced i n f gs (l ∷ ls) h.1 k))

module _ (i n₀ n : ℕ) (few : n ≤ 512) (more : n₀ ≤ n) where
  known_here : (m x : ℕ) → m ≤ n → Known (Here i n₀) n₀ m x → Here i n x
  known_here m x h (inl p) = here_more i n₀ n x more p
  known_here m x h (inr (v, a, b, e)) = rw e (here_var i n v (omega arith) few)

  pairs_here : (f : Family) (m : ℕ) (ps : List Pair) → m + length ps ≤ n → Rising (Here i n₀) n₀ m ps → All (Wired i n) (map (pair_gate f) ps)
  pairs_here f m [] h r = tt
  pairs_here f m (x ∷ ps) h r =
      ((known_here m x.fst (omega arith) r.0.0, (known_here m x.snd (omega arith) r.0.1, tt)), pairs_here f (suc m) ps (omega arith) r.1)

-- ---- THE GROWN NETWORK IS VALID, where 12 lets it in

module _ (f : Family) (N : Net) (ok : Valid N) (fits : length (ended f N).built ≤ room_of f N.nodes) where
  old_wired : All (Wired N.inputs (size N)) N.nodes
  old_wired = all_of (Wired N.inputs (size N)) N.nodes no_gate (wired_ins N ok.signals)

  pub grown_sound : Sound (Here N.inputs (size N)) (size N) (ended f N)
  unfolding ended
  grown_sound =
      factoring_sound (Here N.inputs (size N)) (size N) (taken f N.nodes)
      (taken_all (All (Here N.inputs (size N))) f N.nodes (all_map N.nodes (λ g w t. w) old_wired))

  -- what 12 lets in
  few : (size (grown f N) ≤ 512) × (fanin (grown f N).nodes ≤ 2048)
  few = room_fits f N ok.nodes_few ok.ins_few fits

  grown_outs : All (Here N.inputs (size (grown f N))) (grown f N).outs
  unfolding grown
  grown_outs =
      let q = size_grown f N in
      all_map N.outs (λ x. here_more N.inputs (size N) (size (grown f N)) x (omega arith)) (wired_outs N ok.signals)

  grown_wired : All (Wired N.inputs (size (grown f N))) (grown f N).nodes
  grown_wired =
      let i = N.inputs in
      let n₀ = size N in
      let n = size (grown f N) in
      let q : n ≡ n₀ + length (ended f N).built = size_grown f N in
      let e = grown_sound.next_is in
      let more : n₀ ≤ n = omega arith in
      let r = grown_sound.pairs_known in
      subst (λ (gs : List Gate). All (Wired N.inputs (size (grown f N))) gs) (sym (grown_nodes f N))
      (all_append (Wired i n) (replaced f N.nodes (ended f N).lists) (map (pair_gate f) (ended f N).built)
      (wired_replaced i n f N.nodes (ended f N).lists
      (all_map N.nodes (λ g. all_map g.ins (λ x. here_more i n₀ n x more)) old_wired)
      (all_map (ended f N).lists (λ l. all_map l (λ x. known_here i n₀ n few.0 more (ended f N).next x (omega arith))) grown_sound.lists_known))
      (pairs_here i n₀ n few.0 more f n₀ (ended f N).built (omega arith) r))

  grown_inputs : (grown f N).inputs ≡ N.inputs
  unfolding grown
  grown_inputs = refl

  grown_outputs : (grown f N).outs ≡ N.outs
  unfolding grown
  grown_outputs = refl

  pub valid_grown : Valid (grown f N)
  valid_grown = record {
    inputs_few = rw grown_inputs ok.inputs_few;
    nodes_few = few.0;
    outs_few = rw grown_outputs ok.outs_few;
    gates_shaped =
        rw (grown_nodes f N)
        (shaped_append (replaced f N.nodes (ended f N).lists) (map (pair_gate f) (ended f N).built)
        (shaped_replaced f N.nodes (ended f N).lists ok.gates_shaped (ended_one f N))
        (shaped_pairs f (ended f N).built));
    ins_few = few.1;
    signals =
        wired_all (grown f N)
        (rw grown_inputs (all_at (Wired N.inputs (size (grown f N))) (grown f N).nodes no_gate grown_wired))
        (rw grown_inputs grown_outs);
  }
