-- Every pair that a pass builds stands in one of its lists at the time: what each such replacement keeps, the two-left passes and the
-- greedy loop keep.
use Prim.Native.Nat.{max, min, suc, zero, ℕ}
use mathlib.Core.Path.{refl, ◌≡◌}
use mathlib.Core.Logic.{inl, inr}
use mathlib.Core.List.{List, [], ◌∷◌}
use native.Mathlib.Omega.{arith}
use lib.ListN.{get_or, length}
use lib.Dec.{eqb, ltb}
use borrow.Author.Tests.{eq-eqb, eqb-false, eqb-true}
use Rattle.model.specs.Sharing.{State, all_pairs, binaries, consume_binary_gates, find_best_pair, greedy, join_gate, join_gates, join_round, on_two, replace_pair, rounds, total}
use Rattle.laws.proofs.Choices.{by_bool, by_test}
use Rattle.shape.proofs.FactoringFuel.{Two, TwoIn, none_stays, none_turn, some_steps, two_best, two_here, two_ordered}

two_of_lem : (a b : ℕ) → Two (min a b) (max a b) (a ∷ b ∷ [])
two_of_lem a b = two_ordered a b (a ∷ b ∷ []) (two_here a b (b ∷ []) (rw (eq-eqb b b refl)))

two_at : (p q : ℕ) (gs : List (List ℕ)) (i : ℕ) → Two p q (get_or gs i []) → TwoIn p q gs
two_at p q [] i t = absurd (omega (arith, t.fewer))
two_at p q (l ∷ gs) zero t = inl t
two_at p q (l ∷ gs) (suc i) t = inr (two_at p q gs i t)

module _ {ℓ} (P : State → Type ℓ) (step : (s : State) (a b : ℕ) → TwoIn a b s.lists → P s → P (replace_pair s a b)) where
  two_keeps : (s : State) (i : ℕ) (l : List ℕ) → get_or s.lists i [] ≡ l → P s → P (on_two s l)
  two_keeps s i [] e h = h
  two_keeps s i (a ∷ []) e h = h
  two_keeps s i (a ∷ b ∷ []) e h = step s (min a b) (max a b) (two_at (min a b) (max a b) s.lists i (rw e (two_of_lem a b))) h
  two_keeps s i (a ∷ b ∷ c ∷ l) e h = h

  binaries_keep : (s : State) (i : ℕ) → P s → P (binaries s i)
  unfolding binaries
  binaries_keep s zero h = h
  binaries_keep s (suc i) h = two_keeps (binaries s i) i (get_or (binaries s i).lists i []) refl (binaries_keep s i h)

  pub consume_keeps : (s : State) (g : ℕ) → P s → P (consume_binary_gates s g)
  unfolding consume_binary_gates
  consume_keeps s g h = binaries_keep (binaries s g) g (binaries_keep s g h)

  greedy_keeps : (f : ℕ) (s : State) → P s → P (greedy f s)
  greedy_keeps zero s h = rw (none_turn s) h
  greedy_keeps (suc f) s h = by_bool (eqb (find_best_pair s.lists).count 0)
      (λ q. rw (none_stays (suc f) s (eqb-true _ _ q)) h)
      (λ q.
      let d = eqb-false _ _ q in
      rw (some_steps f s d)
      (greedy_keeps f (replace_pair s (find_best_pair s.lists).a (find_best_pair s.lists).b) (step s (find_best_pair s.lists).a (find_best_pair s.lists).b (two_best s.lists d) h)))

  pub all_pairs_keeps : (s : State) → P s → P (all_pairs s)
  unfolding all_pairs
  all_pairs_keeps s h = greedy_keeps (total s.lists) s h

-- and the joins, gate after gate
module _ {ℓ} (P : State → Type ℓ) (step : (s : State) (i : ℕ) → P s → P (join_round s i)) where
  rounds_keep : (f : ℕ) (s : State) (i : ℕ) → P s → P (rounds f s i)
  unfolding rounds
  rounds_keep zero s i h = h
  rounds_keep (suc f) s i h = by_test P (ltb 1 (length (get_or s.lists i []))) (λ e. rounds_keep f (join_round s i) i (step s i h)) (λ e. h)

  pub joins_keep : (s : State) (g : ℕ) → P s → P (join_gates s g)
  unfolding join_gates join_gate
  joins_keep s zero h = h
  joins_keep s (suc i) h = rounds_keep _ (join_gates s i) i (joins_keep s i h)
