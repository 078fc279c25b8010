-- Laws of the table of uses.
use Prim.Native.Nat.{suc, zero, ℕ, ◌+◌, ◌-◌, ◌<◌, ◌≤◌}
use mathlib.Core.Path.{refl, sym, ◌∙◌, ◌≡◌}
use mathlib.Core.Logic.{inl, inr, ◌≢◌}
use mathlib.Core.Bool.{cond}
use mathlib.Core.List.{List, [], ◌∷◌}
use native.Mathlib.Omega.{arith}
use native.Mathlib.Decide.{ℕ_discrete}
use lib.ListN.{length}
use lib.Dec.{eqb, ltb}
use borrow.Author.Tests.{eq-eqb, le-ltb, lt-ltb, ne_eqb}
use Rattle.laws.specs.Lists.{All}
use Rattle.model.specs.Sharing.{once, times, uses}
use Rattle.pairs.specs.Lists.{area_size, put_used, used_at, zeroed}
use Rattle.uses.specs.Loading.{Marked, SameLists}
use Rattle.uses.specs.Uses.{Named, bump, is_once, tally, tally_all, use_at, use_ix, use_room}
use Rattle.laws.proofs.Choices.{by_bool, by_test}
use Rattle.pairs.proofs.Places.{left_at_put_used, length_put_used, sig_at_put_used, start_at_put_used, used_at_put_used, used_at_put_used_other}

pub ix_low : (s : ℕ) → s < 2147483648 → use_ix s ≡ s
unfolding use_ix
ix_low s h = rw (lt-ltb s 2147483648 h)

pub ix_high : (s : ℕ) → 2147483648 ≤ s → use_ix s ≡ 1026 + (4294967295 - s)
unfolding use_ix
ix_high s h = rw (le-ltb s 2147483648 h)

pub ix_small : (s : ℕ) → Named s → use_ix s < use_room
ix_small s (inl h) = omega (arith, ix_low s (omega arith))
ix_small s (inr h) = omega (arith, ix_high s (omega arith))

pub ix_inj : (s t : ℕ) → Named s → Named t → use_ix s ≡ use_ix t → s ≡ t
ix_inj s t (inl a) (inl b) e = omega (arith, ix_low s (omega arith), ix_low t (omega arith))
ix_inj s t (inl a) (inr b) e = absurd (omega (arith, ix_low s (omega arith), ix_high t (omega arith)))
ix_inj s t (inr a) (inl b) e = absurd (omega (arith, ix_high s (omega arith), ix_low t (omega arith)))
ix_inj s t (inr a) (inr b) e = omega (arith, ix_high s (omega arith), ix_high t (omega arith))

-- use_ix
module _ (s r : ℕ) (n : Named s) where
  module _ (h : s < 2147483648) (e : r ≡ s) where
    pub ix_code_low : r ≡ use_ix s
    ix_code_low = e ∙ sym (ix_low s h)

    pub ix_small_low : r < use_room
    ix_small_low = omega (arith, ix_low s h, ix_small s n)

  module _ (h : 2147483648 ≤ s) (e : r ≡ 4294967295 - s) where
    pub ix_code_high : 1026 + r ≡ use_ix s
    ix_code_high = rw e (sym (ix_high s h))

    pub ix_small_high : 1026 + r < use_room
    ix_small_high = omega (arith, ix_high s h, ix_small s n)

-- note_use, is_once
module _ (l : List ℕ) (s i v : ℕ) (e : i ≡ use_ix s) (ev : v ≡ used_at l i) where
  pub note_yes : (m : List ℕ) → v < 2 → m ≡ put_used l i (v + 1) → m ≡ bump l s
  unfolding bump use_at
  note_yes m h q = rw (← e, ← ev, lt-ltb v 2 h) q

  pub note_no : 2 ≤ v → l ≡ bump l s
  unfolding bump use_at
  note_no h = rw (← e, ← ev, le-ltb v 2 h)

  pub once_code : eqb v 1 ≡ is_once l s
  unfolding is_once use_at
  once_code = rw (← e, ← ev)

pub ruleset notes = (ix_code_low, ix_small_low, ix_code_high, ix_small_high, note_yes, note_no, once_code)

-- ---- what counting leaves of the lists

pub lists_same : (l : List ℕ) → SameLists l l
lists_same l = record { long = refl; sigs = λ k h. refl; starts = λ i. refl; lefts = λ i. refl }

pub lists_on : (l m o : List ℕ) → SameLists l m → SameLists m o → SameLists l o
lists_on l m o a b = record {
  long = b.long ∙ a.long;
  sigs = λ k h. b.sigs k h ∙ a.sigs k h;
  starts = λ i. b.starts i ∙ a.starts i;
  lefts = λ i. b.lefts i ∙ a.lefts i;
}

lists_used : (l : List ℕ) (u x : ℕ) → u < 4096 → SameLists l (put_used l u x)
lists_used l u x h = record { long = length_put_used l u x; sigs = λ k q. sig_at_put_used l u x h k; starts = start_at_put_used l u x h; lefts = left_at_put_used l u x h }

lists_bump : (l : List ℕ) (s : ℕ) → Named s → SameLists l (bump l s)
unfolding bump
lists_bump l s n = by_test (SameLists l) (ltb (use_at l s) 2) (λ e. lists_used l (use_ix s) (use_at l s + 1) (omega (arith, ix_small s n))) (λ e. lists_same l)

lists_tally : (l m : List ℕ) → All Named m → SameLists l (tally l m)
unfolding tally
lists_tally l [] a = lists_same l
lists_tally l (x ∷ m) a = lists_on l (bump l x) (tally (bump l x) m) (lists_bump l x a.0) (lists_tally (bump l x) m a.1)

lists_tally_all : (l : List ℕ) (gs : List (List ℕ)) → All (All Named) gs → SameLists l (tally_all l gs)
unfolding tally_all
lists_tally_all l [] a = lists_same l
lists_tally_all l (m ∷ gs) a = lists_on l (tally l m) (tally_all (tally l m) gs) (lists_tally l m a.0) (lists_tally_all (tally l m) gs a.1)

lists_zeroed : (l : List ℕ) (k : ℕ) → k ≤ 4096 → SameLists l (zeroed l k)
unfolding zeroed
lists_zeroed l zero h = lists_same l
lists_zeroed l (suc k) h = lists_on l (zeroed l k) (put_used (zeroed l k) k 0) (lists_zeroed l k (omega arith)) (lists_used (zeroed l k) k 0 h)

-- ---- what the table says

pub length_bump : (l : List ℕ) (s : ℕ) → length (bump l s) ≡ length l
unfolding bump
length_bump l s = by_bool (ltb (use_at l s) 2) (λ e. rw e (length_put_used l _ _)) (λ e. rw e)

length_tally : (l m : List ℕ) → length (tally l m) ≡ length l
unfolding tally
length_tally l [] = refl
length_tally l (x ∷ m) = length_tally (bump l x) m ∙ length_bump l x

-- one more, up to two
unfoldable cap : ℕ → ℕ
cap v = cond (ltb v 2) (v + 1) v

module _ (l : List ℕ) (z : area_size ≤ length l) (x : ℕ) (n : Named x) where
  use_bump_same : use_at (bump l x) x ≡ cap (use_at l x)
  unfolding bump cap use_at
  use_bump_same = by_bool (ltb (used_at l (use_ix x)) 2) (λ e. rw e (used_at_put_used l (use_ix x) _ (omega (arith, ix_small x n)) z)) (λ e. rw e)

  use_bump_other : (s : ℕ) → Named s → s ≢ x → use_at (bump l s) x ≡ use_at l x
  unfolding bump use_at
  use_bump_other s ns d = by_bool (ltb (used_at l (use_ix s)) 2) (λ e. rw e (used_at_put_used_other l (use_ix s) _ (use_ix x) (λ q. d (ix_inj s x ns n (sym q))))) (λ e. rw e)

unfoldable caps : ℕ → ℕ → ℕ
unfolding cap
caps zero v = v
caps (suc k) v = caps k (cap v)

caps_none : (v : ℕ) → v ≡ caps 0 v
unfolding caps
caps_none v = refl

caps_add : (j k v : ℕ) → caps (j + k) v ≡ caps k (caps j v)
unfolding caps
caps_add zero k v = let e : 0 + k ≡ k = omega arith in rw e
caps_add (suc j) k v = let e : suc j + k ≡ suc (j + k) = omega arith in rw e (caps_add j k (cap v))

use_tally : (l m : List ℕ) (x : ℕ) → area_size ≤ length l → Named x → All Named m → use_at (tally l m) x ≡ caps (times x m) (use_at l x)
unfolding tally times caps
use_tally l [] x z n a = refl
use_tally l (y ∷ m) x z n a = elim (ℕ_discrete y x) [
  | yes e ↦
      (let q : 1 + times x m ≡ suc (times x m) = omega arith in
      rw (eq-eqb y x e) (use_tally (bump l y) m x (rw length_bump z) n a.1 ∙ rw (e, use_bump_same l z x n, q)))
  | no e ↦
      (let q : 0 + times x m ≡ times x m = omega arith in
      rw (ne_eqb y x e) (use_tally (bump l y) m x (rw length_bump z) n a.1 ∙ rw (use_bump_other l z x n y a.0 e, q)))
]

use_tally_all : (l : List ℕ) (gs : List (List ℕ)) (x : ℕ) → area_size ≤ length l → Named x → All (All Named) gs → use_at (tally_all l gs) x ≡ caps (uses x gs) (use_at l x)
unfolding tally_all uses
use_tally_all l [] x z n a = caps_none (use_at l x)
use_tally_all l (m ∷ gs) x z n a =
    use_tally_all (tally l m) gs x (rw length_tally z) n a.1 ∙ rw (use_tally l m x z n a.0) (sym (caps_add (times x m) (uses x gs) (use_at l x)))

caps_two : (k : ℕ) → caps k 2 ≡ 2
unfolding caps cap
caps_two zero = refl
caps_two (suc k) = caps_two k

caps_once : (k : ℕ) → eqb (caps k 0) 1 ≡ eqb k 1
unfolding caps cap
caps_once zero = refl
caps_once (suc zero) = refl
caps_once (suc (suc k)) = rw (caps_two k) (sym (ne_eqb (suc (suc k)) 1 (λ e. omega arith)))

used_zeroed : (l : List ℕ) (k u : ℕ) → area_size ≤ length l → k ≤ 4096 → u < k → used_at (zeroed l k) u ≡ 0
unfolding zeroed
used_zeroed l zero u z h q = absurd (omega arith)
used_zeroed l (suc k) u z h q = elim (ℕ_discrete u k) [
  | yes e ↦ rw e (used_at_put_used (zeroed l k) k 0 h (omega (arith, (lists_zeroed l k (omega arith)).long)))
  | no e ↦ used_at_put_used_other (zeroed l k) k 0 u e ∙ used_zeroed l k u z (omega arith) (omega arith)
]

-- counted afresh
pub marked : (l m o : List ℕ) (gs : List (List ℕ)) → area_size ≤ length l → All (All Named) gs → m ≡ zeroed l use_room → o ≡ tally_all m gs → Marked gs l o
unfolding is_once once use_at
marked l m o gs z a em eo =
    let zs = lists_zeroed l use_room (omega arith) in
    rw (eo, em)
    (record {
      same = lists_on l (zeroed l use_room) (tally_all (zeroed l use_room) gs) zs (lists_tally_all (zeroed l use_room) gs a);
      counted = record {
        says = λ x n.
            let e = use_tally_all (zeroed l use_room) gs x (omega (arith, zs.long)) n a in
            let q = used_zeroed l use_room (use_ix x) z (omega arith) (ix_small x n) in
            rw (e, q) (caps_once (uses x gs));
      };
    })
