-- What replacing a pair does to the lists, gate by gate.
use Prim.Native.Nat.{suc, zero, ℕ, ◌+◌, ◌<◌, ◌≤◌}
use mathlib.Core.Path.{ap, refl, sym, ◌∙◌, ◌≡◌}
use mathlib.Core.Logic.{◌≢◌}
use mathlib.Core.Bool.{true}
use mathlib.Core.List.{List, [], map, ◌++◌, ◌∷◌}
use native.Mathlib.Omega.{arith}
use native.Mathlib.Numerals.{add-one}
use native.Mathlib.Decide.{ℕ_discrete}
use lib.ListN.{length, length-append}
use Rattle.model.specs.Sharing.{holds, replace_in, take_out}
use Rattle.pairs.specs.Lists.{Laid, left_at, list_at, lists_of, start_at}
use Rattle.replacing.specs.Swapped.{replaced_all}
use Rattle.replace_in.specs.Words.{replaced_in}
use Rattle.laws.proofs.Bools.{and_left}
use Rattle.laws.proofs.Choices.{by_bool}
use Rattle.laws.proofs.Tabs.{map_tab, tab_ext}
use Rattle.pairs.proofs.Gates.{laid_set_list, left_at_set_list_other, length_list, length_set_list, list_at_set_list, list_at_set_list_other, start_at_set_list}
use Rattle.shape.proofs.FactoringLists.{take_out_lt}

-- replaced_in
module _ (l : List ℕ) (g i p q z : ℕ) (h : Laid l g) (k : i < g) where
  shorter : holds p q (list_at l i) ≡ true → length (take_out p q (list_at l i) ++ (z ∷ [])) ≤ left_at l i
  unfolding holds
  shorter e = rw length-append (omega (arith, take_out_lt p q (list_at l i) (and_left _ _ e), length_list l i))

  pub laid_replaced_in : Laid (replaced_in l i p q z) g
  unfolding replaced_in
  laid_replaced_in = by_bool (holds p q (list_at l i)) (λ e. rw e (laid_set_list l g i _ h k (shorter e))) (λ e. rw e h)

  pub list_at_replaced_in : list_at (replaced_in l i p q z) i ≡ replace_in p q z (list_at l i)
  unfolding replaced_in replace_in
  list_at_replaced_in = by_bool (holds p q (list_at l i)) (λ e. rw e (list_at_set_list l g i _ h k (shorter e))) (λ e. rw e)

  pub list_at_replaced_in_other : (w : ℕ) → w < g → w ≢ i → list_at (replaced_in l i p q z) w ≡ list_at l w
  unfolding replaced_in
  list_at_replaced_in_other w v n = by_bool (holds p q (list_at l i)) (λ e. rw e (list_at_set_list_other l g i _ h k (shorter e) w v n)) (λ e. rw e)

  pub left_at_replaced_in_other : (w : ℕ) → w ≢ i → left_at (replaced_in l i p q z) w ≡ left_at l w
  unfolding replaced_in
  left_at_replaced_in_other w n = by_bool (holds p q (list_at l i)) (λ e. rw e (left_at_set_list_other l g i _ h k (shorter e) w n)) (λ e. rw e)

  pub start_at_replaced_in : (w : ℕ) → w < 512 → start_at (replaced_in l i p q z) w ≡ start_at l w
  unfolding replaced_in
  start_at_replaced_in w n = by_bool (holds p q (list_at l i)) (λ e. rw e (start_at_set_list l g i _ h k (shorter e) w n)) (λ e. rw e)

  pub length_replaced_in : length (replaced_in l i p q z) ≡ length l
  unfolding replaced_in
  length_replaced_in = by_bool (holds p q (list_at l i)) (λ e. rw e (length_set_list l g i _ h k (shorter e))) (λ e. rw e)

-- replaced_all
module _ (l : List ℕ) (g p q z : ℕ) (h : Laid l g) where
  pub laid_replaced_all : (i : ℕ) → i ≤ g → Laid (replaced_all l i p q z) g
  unfolding replaced_all
  laid_replaced_all zero k = h
  laid_replaced_all (suc i) k = laid_replaced_in _ g i p q z (laid_replaced_all i (omega arith)) k

  pub length_replaced_all : (i : ℕ) → i ≤ g → length (replaced_all l i p q z) ≡ length l
  unfolding replaced_all
  length_replaced_all zero k = refl
  length_replaced_all (suc i) k = length_replaced_in _ g i p q z (laid_replaced_all i (omega arith)) k ∙ length_replaced_all i (omega arith)

  pub list_later : (i : ℕ) → i ≤ g → (w : ℕ) → i ≤ w → w < g → list_at (replaced_all l i p q z) w ≡ list_at l w
  unfolding replaced_all
  list_later zero k w a v = refl
  list_later (suc i) k w a v =
      list_at_replaced_in_other _ g i p q z (laid_replaced_all i (omega arith)) k w v (omega arith) ∙ list_later i (omega arith) w (omega arith) v

  pub list_done : (i : ℕ) → i ≤ g → (w : ℕ) → w < i → list_at (replaced_all l i p q z) w ≡ replace_in p q z (list_at l w)
  unfolding replaced_all
  list_done zero k w a = absurd (omega arith)
  list_done (suc i) k w a = elim (ℕ_discrete w i) [
    | yes e ↦ rw e (list_at_replaced_in _ g i p q z (laid_replaced_all i (omega arith)) k ∙ ap (replace_in p q z) (list_later i (omega arith) i (omega arith) k))
    | no e ↦ list_at_replaced_in_other _ g i p q z (laid_replaced_all i (omega arith)) k w (omega arith) e ∙ list_done i (omega arith) w (omega arith)
  ]

  pub lists_replaced_all : lists_of (replaced_all l g p q z) g ≡ map (replace_in p q z) (lists_of l g)
  unfolding lists_of
  lists_replaced_all = tab_ext _ _ g (λ w v. list_done g (omega arith) w v) ∙ sym (map_tab (replace_in p q z) (list_at l) g)

  pub left_kept : (i : ℕ) → i ≤ g → (w : ℕ) → g ≤ w → left_at (replaced_all l i p q z) w ≡ left_at l w
  unfolding replaced_all
  left_kept zero k w a = refl
  left_kept (suc i) k w a = left_at_replaced_in_other _ g i p q z (laid_replaced_all i (omega arith)) k w (omega arith) ∙ left_kept i (omega arith) w a

  pub start_kept : (i : ℕ) → i ≤ g → (w : ℕ) → w < 512 → start_at (replaced_all l i p q z) w ≡ start_at l w
  unfolding replaced_all
  start_kept zero k w a = refl
  start_kept (suc i) k w a = start_at_replaced_in _ g i p q z (laid_replaced_all i (omega arith)) k w a ∙ start_kept i (omega arith) w a

-- swap_all
pub swap_start : (l : List ℕ) (p q z : ℕ) → l ≡ replaced_all l 0 p q z
unfolding replaced_all
swap_start l p q z = refl

module _ (l : List ℕ) (g p q z i : ℕ) (m : List ℕ) (em : m ≡ replaced_all l i p q z) (n : List ℕ) (en : n ≡ replaced_in m i p q z) where
  pub swap_step : n ≡ replaced_all l (i + 1) p q z
  unfolding replaced_all
  swap_step = rw (add-one i) (en ∙ rw em)

pub swap_laid : (m n : List ℕ) (g i p q z : ℕ) → n ≡ replaced_in m i p q z → Laid m g → i < g → Laid n g
swap_laid m n g i p q z e h k = rw e (laid_replaced_in m g i p q z h k)

pub swap_end : (l m : List ℕ) (g p q z i : ℕ) → m ≡ replaced_all l i p q z → i ≤ g → g ≤ i → m ≡ replaced_all l g p q z
swap_end l m g p q z i e a b = let q : i ≡ g = omega arith in rw (← q) e

pub ruleset swaps = (swap_start, swap_step, swap_laid, swap_end)
