-- What the pairs and the lists of a pass name: signals of the gates that it began with, and new nodes below.
use Prim.Native.Nat.{suc, zero, ℕ, ◌+◌, ◌<◌, ◌≤◌}
use mathlib.Core.Path.{refl, ◌≡◌}
use mathlib.Core.Logic.{inl, inr, ◌⊎◌}
use mathlib.Core.Bool.{Bool, not}
use mathlib.Core.List.{List, [], map, ◌++◌, ◌∷◌}
use native.Mathlib.Omega.{arith}
use native.Mathlib.Nat.{add-zero}
use lib.ListN.{get_or, length, length-append}
use Rattle.laws.specs.Lists.{All}
use Rattle.model.specs.Network.{has}
use Rattle.model.specs.Sharing.{Pair, State, exclusive_signals, factoring, give_back, holds, join_round, once, replace_in, replace_pair, retain, round_left, round_pairs, shared_signals}
use Rattle.model.specs.Signal.{from_var}
use Rattle.laws.proofs.Bools.{and_left, and_right}
use Rattle.laws.proofs.Lists.{all_append, all_map, map_all, set_all}
use Rattle.shape.proofs.FactoringEnds.{factoring_parts, given, paired}
use Rattle.shape.proofs.FactoringFuel.{TwoIn}
use Rattle.shape.proofs.FactoringLists.{replace_in_all, retain_all}
use Rattle.shape.proofs.FactoringSteps.{all_pairs_keeps, consume_keeps, joins_keep}
use Rattle.shape.proofs.Members.{all_has}

-- an old signal, of which P holds, or a new node below n; the new ones start at n₀
abbrev pub Known : (ℕ → Type 0) → ℕ → ℕ → ℕ → Type 0
Known P n₀ n x = P x ⊎ ((v : ℕ) × (n₀ ≤ v) × (v < n) × (x ≡ from_var v))

-- each pair names what is known before it
abbrev pub Rising : (ℕ → Type 0) → ℕ → ℕ → List Pair → Type 0
Rising P n₀ n [] = Unit
Rising P n₀ n (x ∷ ps) = (Known P n₀ n x.fst × Known P n₀ n x.snd) × Rising P n₀ (suc n) ps

pub record Sound (P : ℕ → Type 0) (n₀ : ℕ) (s : State) : Type 0 where
  pub next_is : s.next ≡ n₀ + length s.built
  pub lists_known : All (All (Known P n₀ s.next)) s.lists
  pub pairs_known : Rising P n₀ n₀ s.built

-- ---- lists of what P holds of

retains_all : (P : ℕ → Type 0) (t : ℕ → Bool) (gs : List (List ℕ)) → All (All P) gs → All (All P) (map (retain t) gs)
retains_all P t gs h = map_all (All P) (retain t) gs (λ l. retain_all P t l) h

given_all : (P : ℕ → Type 0) (gs os : List (List ℕ)) → All (All P) gs → All (All P) os → All (All P) (give_back gs os)
unfolding give_back
given_all P [] os h k = tt
given_all P (l ∷ gs) [] h k = h
given_all P (l ∷ gs) (o ∷ os) h k = (all_append P l o h.0 k.0, given_all P gs os h.1 k.1)

module _ (P : ℕ → Type 0) (n₀ : ℕ) where
  pub known_more : (m n x : ℕ) → m ≤ n → Known P n₀ m x → Known P n₀ n x
  known_more m n x h (inl p) = inl p
  known_more m n x h (inr (v, a, b, e)) = inr (v, a, omega arith, e)

  known_all : (m n : ℕ) (l : List ℕ) → m ≤ n → All (Known P n₀ m) l → All (Known P n₀ n) l
  known_all m n l h k = all_map l (λ x. known_more m n x h) k

  known_lists : (m n : ℕ) (gs : List (List ℕ)) → m ≤ n → All (All (Known P n₀ m)) gs → All (All (Known P n₀ n)) gs
  known_lists m n gs h k = all_map gs (λ l. known_all m n l h) k

  known_new : (n : ℕ) → n₀ ≤ n → Known P n₀ (suc n) (from_var n)
  known_new n h = inr (n, h, omega arith, refl)

  rising_append : (n : ℕ) (ps qs : List Pair) → Rising P n₀ n ps → Rising P n₀ (n + length ps) qs → Rising P n₀ n (ps ++ qs)
  rising_append n [] qs h k = rw add-zero at k
  rising_append n (x ∷ ps) qs h k =
      let e : n + suc (length ps) ≡ suc n + length ps = omega arith in
      (h.0, rising_append (suc n) ps qs h.1 (rw e at k))

  -- ---- a pair replaced

  two_known : (Q : ℕ → Type 0) (a b : ℕ) (gs : List (List ℕ)) → TwoIn a b gs → All (All Q) gs → Q a × Q b
  unfolding holds
  two_known Q a b [] t h = absurd t
  two_known Q a b (l ∷ gs) (inl t) h = (all_has Q l a h.0 (and_left (has a l) (has b l) t.both), all_has Q l b h.0 (and_right (has a l) (has b l) t.both))
  two_known Q a b (l ∷ gs) (inr t) h = two_known Q a b gs t h.1

  sound_replace : (s : State) (a b : ℕ) → TwoIn a b s.lists → Sound P n₀ s → Sound P n₀ (replace_pair s a b)
  unfolding replace_pair
  sound_replace s a b t h =
      let k = two_known (Known P n₀ s.next) a b s.lists t h.lists_known in
      let e = h.next_is in
      record {
        next_is = rw length-append (omega arith);
        lists_known =
            map_all (All (Known P n₀ (suc s.next))) (replace_in a b (from_var s.next)) s.lists
            (λ l m. replace_in_all (Known P n₀ (suc s.next)) a b (from_var s.next) l (known_new s.next (omega arith)) (known_all s.next (suc s.next) l (omega arith) m))
            h.lists_known;
        pairs_known = rising_append n₀ s.built _ h.pairs_known (rw (← e) (k, tt));
      }

  -- ---- a round of joins

  left_all : (Q : ℕ → Type 0) (b : ℕ) (l : List ℕ) → ((v : ℕ) → b ≤ v → v < b + length (round_pairs l) → Q (from_var v)) → All Q l → All Q (round_left b l)
  unfolding round_left round_pairs
  left_all Q b [] f h = tt
  left_all Q b (x ∷ []) f h = h
  left_all Q b (x ∷ y ∷ l) f h = (f b (omega arith) (omega arith), left_all Q (suc b) l (λ v p q. f v (omega arith) (omega arith)) h.1.1)

  rising_round : (n : ℕ) (l : List ℕ) → All (Known P n₀ n) l → Rising P n₀ n (round_pairs l)
  unfolding round_pairs
  rising_round n [] h = tt
  rising_round n (x ∷ []) h = tt
  rising_round n (x ∷ y ∷ l) h = ((h.0, h.1.0), rising_round (suc n) l (known_all n (suc n) l (omega arith) h.1.1))

  list_at_lem : (Q : ℕ → Type 0) (gs : List (List ℕ)) (i : ℕ) → All (All Q) gs → All Q (get_or gs i [])
  list_at_lem Q [] i h = tt
  list_at_lem Q (l ∷ gs) zero h = h.0
  list_at_lem Q (l ∷ gs) (suc i) h = list_at_lem Q gs i h.1

  sound_round : (s : State) (i : ℕ) → Sound P n₀ s → Sound P n₀ (join_round s i)
  unfolding join_round
  sound_round s i h =
      let l = get_or s.lists i [] in
      let n = s.next in
      let m = n + length (round_pairs l) in
      let e = h.next_is in
      let k = list_at_lem (Known P n₀ n) s.lists i h.lists_known in
      record {
        next_is = rw length-append (omega arith);
        lists_known =
            set_all (All (Known P n₀ m)) s.lists i (round_left n l) (known_lists n m s.lists (omega arith) h.lists_known)
            (left_all (Known P n₀ m) n l (λ v p q. inr (v, omega arith, q, refl)) (known_all n m l (omega arith) k));
        pairs_known = rising_append n₀ s.built (round_pairs l) h.pairs_known (rw (← e) (rising_round n l k));
      }

  -- ---- the whole pass

  module _ (gs : List (List ℕ)) (old : All (All P) gs) where
    known_old : All (All (Known P n₀ n₀)) gs
    known_old = all_map gs (λ l. all_map l (λ x p. inl p)) old

    paired_sound : Sound P n₀ (paired gs n₀)
    unfolding paired shared_signals
    paired_sound =
        all_pairs_keeps (Sound P n₀) sound_replace _
        (consume_keeps (Sound P n₀) sound_replace _ (length gs)
        (record { next_is = omega arith; lists_known = retains_all (Known P n₀ n₀) (λ x. not (once gs x)) gs known_old; pairs_known = tt }))

    given_sound : Sound P n₀ (given gs n₀)
    unfolding given exclusive_signals
    given_sound =
        let s = paired gs n₀ in
        let h = paired_sound in
        let e = h.next_is in
        record {
          next_is = e;
          lists_known =
              given_all (Known P n₀ s.next) s.lists (map (retain (once gs)) gs) h.lists_known
              (known_lists n₀ s.next (map (retain (once gs)) gs) (omega arith) (retains_all (Known P n₀ n₀) (once gs) gs known_old));
          pairs_known = h.pairs_known;
        }

    pub factoring_sound : Sound P n₀ (factoring gs n₀)
    factoring_sound = rw (factoring_parts gs n₀) (joins_keep (Sound P n₀) sound_round (given gs n₀) (length gs) given_sound)
