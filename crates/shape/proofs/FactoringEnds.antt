-- What a pass leaves of its lists: as many as there were, none longer, one signal in each.
use Prim.Native.Nat.{suc, zero, zero-le, ℕ, ◌+◌, ◌<◌, ◌≤◌}
use mathlib.Core.Path.{ap, refl, ◌∙◌, ◌≡◌}
use mathlib.Core.Logic.{◌≢◌}
use mathlib.Core.Bool.{Bool, not}
use mathlib.Core.List.{List, [], map, ◌++◌, ◌∷◌}
use native.Mathlib.Omega.{arith}
use native.Mathlib.Nat.{le_refl}
use native.Mathlib.Decide.{dec_lt, ℕ_discrete}
use lib.ListN.{get_or, length, length-append, length-set}
use lib.Seq.{get_or-set_other, get_or-set_same}
use borrow.Author.Tests.{le-ltb, lt-ltb}
use Rattle.laws.specs.Lists.{All}
use Rattle.model.specs.Sharing.{State, all_pairs, consume_binary_gates, exclusive_signals, factoring, give_back, holds, join_gate, join_gates, join_round, once, replace_in, replace_pair, retain, round_left, rounds, shared_signals}
use Rattle.laws.proofs.Choices.{by_bool}
use Rattle.laws.proofs.Lists.{all_at, all_of, length_map}
use Rattle.shape.proofs.FactoringFuel.{in_le}
use Rattle.shape.proofs.FactoringSteps.{all_pairs_keeps, consume_keeps, joins_keep}

-- hs has as many lists as gs, none longer, and none is emptied
abbrev pub Shorter : List (List ℕ) → List (List ℕ) → Type 0
Shorter [] [] = Unit
Shorter [] (m ∷ hs) = ⊥
Shorter (l ∷ gs) [] = ⊥
Shorter (l ∷ gs) (m ∷ hs) = ((length m ≤ length l) × (0 < length l → 0 < length m)) × Shorter gs hs

shorter_same : (gs : List (List ℕ)) → Shorter gs gs
shorter_same [] = tt
shorter_same (l ∷ gs) = ((le_refl _, λ h. h), shorter_same gs)

in_some : (p q z : ℕ) (l : List ℕ) → 0 < length l → 0 < length (replace_in p q z l)
unfolding replace_in
in_some p q z l h = by_bool (holds p q l) (λ e. rw (e, length-append) (omega arith)) (λ e. rw e h)

shorter_replaced : (p q z : ℕ) (gs hs : List (List ℕ)) → Shorter gs hs → Shorter gs (map (replace_in p q z) hs)
shorter_replaced p q z [] [] h = tt
shorter_replaced p q z [] (m ∷ hs) h = absurd h
shorter_replaced p q z (l ∷ gs) [] h = absurd h
shorter_replaced p q z (l ∷ gs) (m ∷ hs) h =
    ((omega (arith, in_le p q z m, h.0.0), (λ k. in_some p q z m (h.0.1 k))), shorter_replaced p q z gs hs h.1)

pub shorter_pairs : (s : State) (g : ℕ) → Shorter s.lists (all_pairs (consume_binary_gates s g)).lists
unfolding replace_pair
shorter_pairs s g =
    all_pairs_keeps (λ t. Shorter s.lists t.lists) (λ t a b x h. shorter_replaced a b _ s.lists t.lists h) (consume_binary_gates s g)
    (consume_keeps (λ t. Shorter s.lists t.lists) (λ t a b x h. shorter_replaced a b _ s.lists t.lists h) s g (shorter_same s.lists))

pub shorter_length : (gs hs : List (List ℕ)) → Shorter gs hs → length hs ≡ length gs
shorter_length [] [] h = refl
shorter_length [] (m ∷ hs) h = absurd h
shorter_length (l ∷ gs) [] h = absurd h
shorter_length (l ∷ gs) (m ∷ hs) h = ap suc (shorter_length gs hs h.1)

pub shorter_at : (gs hs : List (List ℕ)) → Shorter gs hs → (i : ℕ) → length (get_or hs i []) ≤ length (get_or gs i [])
shorter_at [] [] h i = le_refl _
shorter_at [] (m ∷ hs) h i = absurd h
shorter_at (l ∷ gs) [] h i = absurd h
shorter_at (l ∷ gs) (m ∷ hs) h zero = h.0.0
shorter_at (l ∷ gs) (m ∷ hs) h (suc i) = shorter_at gs hs h.1 i

-- ---- what is set aside and what is not

pub split_length : (p : ℕ → Bool) (l : List ℕ) → length (retain (λ x. not (p x)) l) + length (retain p l) ≡ length l
unfolding retain
split_length p [] = refl
split_length p (x ∷ l) = by_bool (p x) (λ e. rw e (omega (arith, split_length p l))) (λ e. rw e (omega (arith, split_length p l)))

pub get_or_given : (gs os : List (List ℕ)) (i : ℕ) → i < length gs → length os ≡ length gs → get_or (give_back gs os) i [] ≡ get_or gs i [] ++ get_or os i []
unfolding give_back
get_or_given [] os i h e = absurd (omega arith)
get_or_given (l ∷ gs) [] i h e = absurd (omega arith)
get_or_given (l ∷ gs) (o ∷ os) zero h e = refl
get_or_given (l ∷ gs) (o ∷ os) (suc i) h e = get_or_given gs os i (omega arith) (omega arith)

pub length_given : (gs os : List (List ℕ)) → length (give_back gs os) ≡ length gs
unfolding give_back
length_given [] os = refl
length_given (l ∷ gs) [] = refl
length_given (l ∷ gs) (o ∷ os) = ap suc (length_given gs os)

-- given back, no list is empty that was not
abbrev pub Some : List ℕ → Type 0
Some l = 0 < length l

given_some : (p : ℕ → Bool) (gs hs : List (List ℕ)) → All Some gs → Shorter (map (retain (λ x. not (p x))) gs) hs → All Some (give_back hs (map (retain p) gs))
unfolding give_back
given_some p [] [] a h = tt
given_some p [] (m ∷ hs) a h = absurd h
given_some p (l ∷ gs) [] a h = absurd h
given_some p (l ∷ gs) (m ∷ hs) a h = (some, given_some p gs hs a.1 h.1)
  where
    some : 0 < length (m ++ retain p l)
    some = elim (dec_lt 0 (length (retain (λ x. not (p x)) l))) [
      | yes k ↦ rw length-append (omega (arith, h.0.1 k))
      | no k ↦ rw length-append (omega (arith, split_length p l, a.0))
    ]

-- ---- joins: what is left of each gate is one signal

abbrev pub One : List ℕ → Type 0
One l = length l ≡ 1

left_some : (b : ℕ) (l : List ℕ) → 0 < length l → 0 < length (round_left b l)
unfolding round_left
left_some b [] h = h
left_some b (x ∷ []) h = h
left_some b (x ∷ y ∷ l) h = omega arith

left_le : (b : ℕ) (l : List ℕ) → length (round_left b l) ≤ length l
unfolding round_left
left_le b [] = zero-le
left_le b (x ∷ []) = le_refl _
left_le b (x ∷ y ∷ l) = omega (arith, left_le (suc b) l)

pub left_lt : (b : ℕ) (l : List ℕ) → 1 < length l → length (round_left b l) < length l
unfolding round_left
left_lt b [] h = absurd (omega arith)
left_lt b (x ∷ []) h = absurd (omega arith)
left_lt b (x ∷ y ∷ l) h = omega (arith, left_le (suc b) l)

pub lists_round : (s : State) (i : ℕ) → length (join_round s i).lists ≡ length s.lists
unfolding join_round
lists_round s i = length-set s.lists i _

module _ (s : State) (i : ℕ) where
  round_same : i < length s.lists → get_or (join_round s i).lists i [] ≡ round_left s.next (get_or s.lists i [])
  unfolding join_round
  round_same h = get_or-set_same s.lists i _ [] h

  round_other : (j : ℕ) → j ≢ i → get_or (join_round s i).lists j [] ≡ get_or s.lists j []
  unfolding join_round
  round_other j d = get_or-set_other s.lists i j _ [] d

pub rounds_zero : (s : State) (i : ℕ) → rounds 0 s i ≡ s
unfolding rounds
rounds_zero s i = refl

pub rounds_stop : (f : ℕ) (s : State) (i : ℕ) → length (get_or s.lists i []) ≤ 1 → rounds f s i ≡ s
unfolding rounds
rounds_stop zero s i h = refl
rounds_stop (suc f) s i h = rw (le-ltb 1 (length (get_or s.lists i [])) h)

pub rounds_go : (f : ℕ) (s : State) (i : ℕ) → 1 < length (get_or s.lists i []) → rounds (suc f) s i ≡ rounds f (join_round s i) i
unfolding rounds
rounds_go f s i h = rw (lt-ltb 1 (length (get_or s.lists i [])) h)

-- as many rounds as signals are enough
rounds_end : (f : ℕ) (s : State) (i : ℕ) → i < length s.lists → length (get_or s.lists i []) ≤ f → 0 < length (get_or s.lists i []) → One (get_or (rounds f s i).lists i [])
rounds_end zero s i h k some = absurd (omega arith)
rounds_end (suc f) s i h k some = elim (dec_lt 1 (length (get_or s.lists i []))) [
  | yes q ↦
      (let e = round_same s i h in
      rw (rounds_go f s i q)
      (rounds_end f (join_round s i) i (rw lists_round h) (rw e (omega (arith, left_lt s.next (get_or s.lists i []) q))) (rw e (left_some s.next (get_or s.lists i []) some))))
  | no q ↦ rw (rounds_stop (suc f) s i (omega arith)) (omega arith)
]

rounds_other : (f : ℕ) (s : State) (i j : ℕ) → j ≢ i → get_or (rounds f s i).lists j [] ≡ get_or s.lists j []
rounds_other zero s i j d = rw (rounds_zero s i)
rounds_other (suc f) s i j d = elim (dec_lt 1 (length (get_or s.lists i []))) [
  | yes q ↦ rw (rounds_go f s i q) (rounds_other f (join_round s i) i j d ∙ round_other s i j d)
  | no q ↦ rw (rounds_stop (suc f) s i (omega arith))
]

pub lists_joins : (s : State) (g : ℕ) → length (join_gates s g).lists ≡ length s.lists
lists_joins s g = joins_keep (λ t. length t.lists ≡ length s.lists) (λ t i h. lists_round t i ∙ h) s g refl

joins_suc : (s : State) (i : ℕ) → join_gates s (suc i) ≡ rounds (length (get_or (join_gates s i).lists i [])) (join_gates s i) i
unfolding join_gates join_gate
joins_suc s i = refl

joins_zero : (s : State) → join_gates s 0 ≡ s
unfolding join_gates
joins_zero s = refl

joins_later : (s : State) (i j : ℕ) → i ≤ j → get_or (join_gates s i).lists j [] ≡ get_or s.lists j []
joins_later s zero j h = rw (joins_zero s)
joins_later s (suc i) j h = rw (joins_suc s i) (rounds_other _ (join_gates s i) i j (omega arith) ∙ joins_later s i j (omega arith))

joins_done : (s : State) (i : ℕ) → All Some s.lists → i ≤ length s.lists → (j : ℕ) → j < i → One (get_or (join_gates s i).lists j [])
joins_done s zero a h j k = absurd (omega arith)
joins_done s (suc i) a h j k = elim (ℕ_discrete j i) [
  | yes e ↦
      (let later = joins_later s i i (le_refl _) in
      rw (e, joins_suc s i)
      (rounds_end _ (join_gates s i) i (rw lists_joins h) (le_refl _) (rw later (all_at Some s.lists [] a i h))))
  | no e ↦ rw (joins_suc s i) (rw (rounds_other (length (get_or (join_gates s i).lists i [])) (join_gates s i) i j e) (joins_done s i a (omega arith) j (omega arith)))
]

pub joins_one : (s : State) (g : ℕ) → All Some s.lists → length s.lists ≡ g → All One (join_gates s g).lists
joins_one s g a e = all_of One (join_gates s g).lists [] (λ j h. joins_done s g a (omega arith) j (omega (arith, lists_joins s g)))

-- ---- the whole pass

module _ (gs : List (List ℕ)) (next : ℕ) where
  -- after the pairs
  unfoldable pub paired : State
  paired = all_pairs (consume_binary_gates (record { lists = shared_signals gs; next = next; built = [] }) (length gs))

  -- with what was set aside
  unfoldable pub given : State
  unfolding paired
  given = record { lists = give_back paired.lists (exclusive_signals gs); next = paired.next; built = paired.built }

  pub factoring_parts : factoring gs next ≡ join_gates given (length gs)
  unfolding factoring given paired
  factoring_parts = refl

  pub paired_shorter : Shorter (shared_signals gs) paired.lists
  unfolding paired
  paired_shorter = shorter_pairs (record { lists = shared_signals gs; next = next; built = [] }) (length gs)

  pub length_paired : length paired.lists ≡ length gs
  unfolding shared_signals
  length_paired = shorter_length (shared_signals gs) paired.lists paired_shorter ∙ length_map (retain (λ x. not (once gs x))) gs

  pub length_givens : length given.lists ≡ length gs
  unfolding given
  length_givens = length_given paired.lists (exclusive_signals gs) ∙ length_paired

  given_nonempty : All Some gs → All Some given.lists
  unfolding given shared_signals exclusive_signals
  given_nonempty a = given_some (once gs) gs paired.lists a paired_shorter

  pub one_left : All Some gs → All One (factoring gs next).lists
  one_left a = rw factoring_parts (joins_one given (length gs) (given_nonempty a) length_givens)

  pub lists_factoring : length (factoring gs next).lists ≡ length gs
  lists_factoring = rw factoring_parts (lists_joins given (length gs) ∙ length_givens)
