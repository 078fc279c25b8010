-- Laws of take_out and replace_pair.
use Prim.Native.Nat.{ℕ, ◌+◌, ◌<◌, ◌≤◌}
use mathlib.Core.Path.{ap, refl, sym, ◌∙◌, ◌≡◌}
use mathlib.Core.Logic.{◌≢◌}
use mathlib.Core.Bool.{Bool, false, true, ◌||◌}
use mathlib.Core.List.{List, [], ◌++◌, ◌∷◌}
use native.Mathlib.Omega.{arith}
use native.Mathlib.Numerals.{add-one}
use mir.Syntax.{w64}
use mir.Val.{Fits}
use lib.ListN.{length, length-append}
use lib.Dec.{eqb}
use borrow.Author.Tests.{eq-eqb, ne_eqb}
use Rattle.laws.specs.Lists.{tab}
use Rattle.model.specs.Sharing.{holds, take_out}
use Rattle.pairs.specs.Lists.{Laid, front, left_at, list_at, put_left, put_list, put_sig, set_list, sig_at, start_at}
use Rattle.replace_in.specs.Words.{kept_one, replaced_in}
use Rattle.laws.proofs.Bools.{and_left, or-true}
use Rattle.laws.proofs.Choices.{by_bool}
use Rattle.pairs.proofs.Gates.{front_suc, length_front}
use Rattle.pairs.proofs.Places.{put_list_append, sig_at_put_list_after}
use Rattle.shape.proofs.FactoringLists.{take_out_le, take_out_lt}

-- ---- take_out

pub take_out_snoc : (p q : ℕ) (l : List ℕ) (s : ℕ) → take_out p q (l ++ (s ∷ [])) ≡ take_out p q l ++ kept_one p q s
unfolding take_out kept_one
take_out_snoc p q [] s = refl
take_out_snoc p q (x ∷ l) s = by_bool (eqb x p || eqb x q) (λ e. rw e (take_out_snoc p q l s)) (λ e. rw e (ap (◌∷◌ x) (take_out_snoc p q l s)))

-- ---- keep_one

module _ (l : List ℕ) (k s a b : ℕ) where
  pub one_a : s ≡ a → 0 ≡ length (kept_one a b s)
  unfolding kept_one take_out
  one_a e = rw (eq-eqb s a e)

  pub one_a' : s ≡ a → l ≡ put_list l k (kept_one a b s)
  unfolding kept_one take_out put_list
  one_a' e = rw (eq-eqb s a e)

  pub one_b : s ≡ b → 0 ≡ length (kept_one a b s)
  unfolding kept_one take_out
  one_b e = rw (eq-eqb s b e, or-true)

  pub one_b' : s ≡ b → l ≡ put_list l k (kept_one a b s)
  unfolding kept_one take_out put_list
  one_b' e = rw (eq-eqb s b e, or-true)

  pub one_s : s ≢ a → s ≢ b → 1 ≡ length (kept_one a b s)
  unfolding kept_one take_out
  one_s na nb = rw (ne_eqb s a na, ne_eqb s b nb)

  pub one_s' : (m : List ℕ) → s ≢ a → s ≢ b → m ≡ put_sig l k s → m ≡ put_list l k (kept_one a b s)
  unfolding kept_one take_out put_list
  one_s' m na nb e = rw (ne_eqb s a na, ne_eqb s b nb) e

pub ruleset ones = (one_a, one_a', one_b, one_b', one_s, one_s')

pub one_length : (a b s : ℕ) → length (kept_one a b s) ≤ 1
unfolding kept_one
one_length a b s = take_out_le a b (s ∷ [])

-- ---- take_out

module _ (l : List ℕ) (f a b : ℕ) where
  pub take_start : l ≡ put_list l f (take_out a b (front l f 0))
  unfolding front tab take_out put_list
  take_start = refl

  pub take_none : 0 ≡ length (take_out a b (front l f 0))
  unfolding front tab take_out
  take_none = refl

  module _ (j w : ℕ) (ew : w ≡ length (take_out a b (front l f j))) where
    pub take_w : w ≤ j
    take_w = omega (arith, take_out_le a b (front l f j), length_front l f j)

    module _ (m : List ℕ) (em : m ≡ put_list l f (take_out a b (front l f j))) (s : ℕ) (es : s ≡ sig_at m (f + j)) where
      take_sig : s ≡ sig_at l (f + j)
      take_sig =
          let h = take_w in
          es ∙ rw em (sig_at_put_list_after l f (take_out a b (front l f j)) (f + j) (omega arith))

      pub take_count : (r : ℕ) → r ≡ length (kept_one a b s) → w + r ≡ length (take_out a b (front l f (j + 1)))
      take_count r er =
          let q = take_sig in
          rw (add-one j, front_suc, ← q, take_out_snoc, length-append) (omega arith)

      pub take_step : (n : List ℕ) → n ≡ put_list m (f + w) (kept_one a b s) → n ≡ put_list l f (take_out a b (front l f (j + 1)))
      take_step n en =
          let q = take_sig in
          en ∙ rw (add-one j, front_suc, ← q, take_out_snoc, put_list_append, ← em, ← ew)

pub take_room : (l : List ℕ) (g i f n : ℕ) (h : Laid l g) (k : i < g) → f ≡ start_at l i → n ≡ left_at l i → f + n ≤ 2048
take_room l g i f n h k ef en = omega (arith, h.ends i k)

pub take_add : (n j w a b s r : ℕ) → w ≤ j → j < n → r ≡ length (kept_one a b s) → Fits w64 n → Fits w64 (w + r)
take_add n j w a b s r p q e f = record { fits = omega (arith, one_length a b s) }

pub take_le : (a b s r w j : ℕ) → r ≡ length (kept_one a b s) → w ≤ j → w + r ≤ j + 1
take_le a b s r w j e h = omega (arith, one_length a b s)

module _ (l : List ℕ) (i f n a b j : ℕ) (ef : f ≡ start_at l i) (en : n ≡ left_at l i) (h : j ≤ n) (k : n ≤ j) where
  take_all : front l f j ≡ list_at l i
  unfolding list_at
  take_all = let e : j ≡ left_at l i = omega arith in rw (e, ef)

  pub take_end : (w : ℕ) → w ≡ length (take_out a b (front l f j)) → w ≡ length (take_out a b (list_at l i))
  take_end w ew = let q = take_all in rw (← q) ew

  pub take_end' : (m : List ℕ) → m ≡ put_list l f (take_out a b (front l f j)) → m ≡ put_list l (start_at l i) (take_out a b (list_at l i))
  take_end' m em = let q = take_all in rw (← q, ← ef) em

pub ruleset take_outs = (take_start, take_none, take_count, take_step, take_room, take_add, take_le, take_end, take_end')

-- ---- replace_in

module _ (l : List ℕ) (i p q z : ℕ) (t : Bool) (et : t ≡ holds p q (list_at l i)) where
  pub repl_no : t ≡ false → l ≡ replaced_in l i p q z
  unfolding replaced_in
  repl_no h = rw (sym et ∙ h)

  module _ (yes : t ≡ true) (w : ℕ) (ew : w ≡ length (take_out p q (list_at l i))) where
    pub repl_lt : w < left_at l i
    unfolding holds list_at
    repl_lt =
        omega (arith, take_out_lt p q (list_at l i) (and_left _ _ (sym et ∙ yes)), length_front l (start_at l i) (left_at l i))

    module _ (f : ℕ) (ef : f ≡ start_at l i) where
      pub repl_room : (g : ℕ) → Laid l g → i < g → f + w < 2048
      repl_room g h k = let a = repl_lt in omega (arith, h.ends i k)

      pub repl_yes : (m1 m2 m3 : List ℕ) → m1 ≡ put_list l (start_at l i) (take_out p q (list_at l i)) → m2 ≡ put_sig m1 (f + w) z → m3 ≡ put_left m2 i (w + 1) → m3 ≡ replaced_in l i p q z
      unfolding replaced_in set_list put_list
      repl_yes m1 m2 m3 e1 e2 e3 =
          let a : put_list l (start_at l i) (take_out p q (list_at l i) ++ (z ∷ [])) ≡ m2 = put_list_append l (start_at l i) (take_out p q (list_at l i)) (z ∷ []) ∙ rw (← e1, ← ew, ← ef) (sym e2) in
          let b : length (take_out p q (list_at l i) ++ (z ∷ [])) ≡ w + 1 = rw (length-append, ← ew) in
          rw (sym et ∙ yes, a, b) e3
