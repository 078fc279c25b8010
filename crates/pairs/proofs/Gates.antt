-- What storing a gate's list does to the lists that the words hold. Knows no place of a word.
use Prim.Native.Nat.{suc, ℕ, ◌+◌, ◌<◌, ◌≤◌}
use mathlib.Core.Path.{ap, refl, sym, ◌∙◌, ◌≡◌}
use mathlib.Core.Logic.{◌≢◌}
use mathlib.Core.List.{List, [], ◌++◌, ◌∷◌}
use native.Mathlib.Omega.{arith}
use native.Mathlib.Nat.{add_assoc}
use native.Mathlib.Decide.{dec_lt, ℕ_discrete}
use lib.ListN.{get_or, length}
use lib.Seq.{ext_get_or}
use Rattle.laws.specs.Lists.{tab}
use Rattle.pairs.specs.Lists.{Laid, front, left_at, list_at, lists_of, set_list, sig_at, start_at}
use Rattle.laws.proofs.Tabs.{get_or_tab, length_tab, tab_append, tab_ext}
use Rattle.pairs.proofs.Places.{left_at_put_left, left_at_put_left_other, left_at_put_list, length_put_left, length_put_list, sig_at_put_left, sig_at_put_list, sig_at_put_list_after, sig_at_put_list_before, start_at_put_left, start_at_put_list}

pub front_suc : (l : List ℕ) (f j : ℕ) → front l f (suc j) ≡ front l f j ++ (sig_at l (f + j) ∷ [])
unfolding front tab
front_suc l f j = refl

pub length_front : (l : List ℕ) (f j : ℕ) → length (front l f j) ≡ j
unfolding front
length_front l f j = length_tab _ j

pub front_ext : (l m : List ℕ) (f n : ℕ) → ((j : ℕ) → j < n → sig_at l (f + j) ≡ sig_at m (f + j)) → front l f n ≡ front m f n
unfolding front
front_ext l m f n h = tab_ext _ _ n h

pub front_is : (l : List ℕ) (f : ℕ) (m : List ℕ) → ((j : ℕ) → j < length m → sig_at l (f + j) ≡ get_or m j 0) → front l f (length m) ≡ m
unfolding front
front_is l f m h =
    ext_get_or 0 (tab (λ k. sig_at l (f + k)) (length m)) m (length_tab _ (length m))
    (λ i k. let q : i < length m = rw length_tab at k in get_or_tab _ (length m) i 0 q ∙ h i q)

pub front_append : (l : List ℕ) (f n m : ℕ) → front l f (n + m) ≡ front l f n ++ front l (f + n) m
unfolding front
front_append l f n m = tab_append (λ k. sig_at l (f + k)) n m ∙ ap (◌++◌ (tab (λ k. sig_at l (f + k)) n)) (tab_ext _ _ m (λ j h. ap (sig_at l) (sym (add_assoc f n j))))

pub get_or_lists : (l : List ℕ) (g i : ℕ) → i < g → get_or (lists_of l g) i [] ≡ list_at l i
unfolding lists_of
get_or_lists l g i h = get_or_tab (list_at l) g i [] h

pub length_lists : (l : List ℕ) (g : ℕ) → length (lists_of l g) ≡ g
unfolding lists_of
length_lists l g = length_tab (list_at l) g

module _ (l : List ℕ) (g i : ℕ) (m : List ℕ) (h : Laid l g) (k : i < g) (r : length m ≤ left_at l i) where
  room : start_at l i + length m ≤ 2048
  room = omega (arith, h.ends i k)

  small : i < 512
  small = omega (arith, h.few)

  pub length_set_list : length (set_list l i m) ≡ length l
  unfolding set_list
  length_set_list = length_put_left _ i (length m) ∙ length_put_list l (start_at l i) m

  pub left_at_set_list : left_at (set_list l i m) i ≡ length m
  unfolding set_list
  left_at_set_list = left_at_put_left _ i (length m) small (rw length_put_list h.long)

  pub left_at_set_list_other : (w : ℕ) → w ≢ i → left_at (set_list l i m) w ≡ left_at l w
  unfolding set_list
  left_at_set_list_other w n = left_at_put_left_other _ i (length m) w n ∙ left_at_put_list l (start_at l i) m w room

  pub start_at_set_list : (w : ℕ) → w < 512 → start_at (set_list l i m) w ≡ start_at l w
  unfolding set_list
  start_at_set_list w n = start_at_put_left _ i (length m) w n ∙ start_at_put_list l (start_at l i) m w room

  pub list_at_set_list : list_at (set_list l i m) i ≡ m
  unfolding list_at set_list
  list_at_set_list =
      let a = left_at_set_list in
      let b = start_at_set_list i small in
      rw (a, b)
      (front_is _ (start_at l i) m (λ j q.
      sig_at_put_left _ i (length m) (start_at l i + j) (omega (arith, room)) ∙ sig_at_put_list l (start_at l i) m j h.long room q))

  sig_apart : (w : ℕ) → w < g → w ≢ i → (j : ℕ) → j < left_at l w → sig_at (set_list l i m) (start_at l w + j) ≡ sig_at l (start_at l w + j)
  unfolding set_list
  sig_apart w v n j q =
      sig_at_put_left _ i (length m) (start_at l w + j) (omega (arith, h.ends w v))
      ∙ elim (dec_lt w i) [
        | yes a ↦ sig_at_put_list_before l (start_at l i) m (start_at l w + j) (omega (arith, h.apart w i a k))
        | no a ↦ sig_at_put_list_after l (start_at l i) m (start_at l w + j) (omega (arith, h.apart i w (omega arith) v))
      ]

  pub list_at_set_list_other : (w : ℕ) → w < g → w ≢ i → list_at (set_list l i m) w ≡ list_at l w
  unfolding list_at
  list_at_set_list_other w v n =
      let a = left_at_set_list_other w n in
      let b = start_at_set_list w (omega (arith, h.few)) in
      rw (a, b) (front_ext _ _ (start_at l w) (left_at l w) (sig_apart w v n))

  left_less : (w : ℕ) → left_at (set_list l i m) w ≤ left_at l w
  left_less w = elim (ℕ_discrete w i) [
    | yes e ↦ rw e (omega (arith, left_at_set_list))
    | no e ↦ omega (arith, left_at_set_list_other w e)
  ]

  pub laid_set_list : Laid (set_list l i m) g
  laid_set_list = record {
    long = omega (arith, length_set_list, h.long);
    few = h.few;
    ends = λ w v. omega (arith, h.ends w v, left_less w, start_at_set_list w (omega (arith, h.few)), h.few);
    apart = λ w x a v. omega (arith, h.apart w x a v, left_less w, start_at_set_list w (omega (arith, h.few)), start_at_set_list x (omega (arith, h.few)), h.few);
  }

pub length_list : (l : List ℕ) (i : ℕ) → length (list_at l i) ≡ left_at l i
unfolding list_at
length_list l i = length_front l (start_at l i) (left_at l i)
