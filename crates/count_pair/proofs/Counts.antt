-- Laws of has_signal, holds_both and count_pair.
use Prim.Native.Nat.{suc, ℕ, ◌+◌, ◌<◌, ◌≤◌}
use mathlib.Core.Path.{refl, sym, ◌∙◌, ◌≡◌}
use mathlib.Core.Logic.{◌≢◌}
use mathlib.Core.Bool.{Bool, false, true}
use mathlib.Core.List.{List}
use native.Mathlib.Omega.{arith}
use native.Mathlib.Numerals.{add-one}
use mir.Syntax.{w64}
use mir.Val.{Fits, bool_byte}
use lib.ListN.{drop}
use borrow.Author.Tests.{eq-eqb, ne_eqb}
use Rattle.laws.specs.Bools.{bit}
use Rattle.model.specs.Network.{has}
use Rattle.model.specs.Sharing.{holds, together}
use Rattle.pairs.specs.Lists.{Laid, left_at, list_at, lists_of, sig_at, start_at}
use Rattle.pairs.proofs.Walks.{drop_list, drop_lists, list_end, lists_end}

-- places of signals
module _ (area : List ℕ) (g i f n j : ℕ) (h : Laid area g) (l : i < g) (ef : f ≡ start_at area i) (en : n ≡ left_at area i) (lt : j < n) where
  pub sig_room : f + j < 2048
  sig_room = omega (arith, h.ends i l)

  pub sig_fits : Fits w64 (f + j)
  sig_fits = record { fits = omega (arith, h.ends i l) }

-- has_signal
module _ (area : List ℕ) (i x f n j : ℕ) (ef : f ≡ start_at area i) (en : n ≡ left_at area i) (inv : has x (drop j (list_at area i)) ≡ has x (list_at area i)) where
  pub has_hit : (s : ℕ) → s ≡ sig_at area (f + j) → j < n → s ≡ x → true ≡ has x (list_at area i)
  has_hit s es lt e = let q : sig_at area (start_at area i + j) ≡ x = cc in sym (sym inv ∙ rw (drop_list area i j (omega arith)) (rw (eq-eqb _ _ q)))

  pub has_miss : (s : ℕ) → s ≡ sig_at area (f + j) → j < n → s ≢ x → has x (drop (j + 1) (list_at area i)) ≡ has x (list_at area i)
  has_miss s es lt e =
      let k = drop_list area i j (omega arith) in
      let z : sig_at area (f + j) ≡ sig_at area (start_at area i + j) = cc in
      rw add-one (sym (rw k (rw (ne_eqb (sig_at area (start_at area i + j)) x (λ q. e (es ∙ z ∙ q))))) ∙ inv)

  pub has_end : n ≤ j → false ≡ has x (list_at area i)
  has_end h = sym (sym inv ∙ rw (list_end area i j (omega arith)))

pub ruleset hass = (sig_room, sig_fits, has_hit, has_miss, has_end)

-- holds_both
module _ (area : List ℕ) (i a b : ℕ) (t : Bool) (e : t ≡ has a (list_at area i)) where
  pub holds_yes : t ≡ true → (r : Bool) → r ≡ has b (list_at area i) → r ≡ holds a b (list_at area i)
  unfolding holds
  holds_yes h r q = rw (sym e ∙ h) q

  pub holds_no : t ≡ false → false ≡ holds a b (list_at area i)
  unfolding holds
  holds_no h = rw (sym e ∙ h)

pub ruleset holdss = (holds_yes, holds_no)

-- count_pair
bit_byte : (t : Bool) → bit t ≡ bool_byte t
bit_byte true = refl
bit_byte false = refl

pub count_start : (area : List ℕ) (g a b : ℕ) → 0 + together a b (drop 0 (lists_of area g)) ≡ together a b (lists_of area g)
count_start area g a b = omega arith

module _ (area : List ℕ) (g a b n i : ℕ) (inv : n + together a b (drop i (lists_of area g)) ≡ together a b (lists_of area g)) where
  pub count_step : (t : Bool) (r : ℕ) → i < g → t ≡ holds a b (list_at area i) → r ≡ bool_byte t → (n + r) + together a b (drop (i + 1) (lists_of area g)) ≡ together a b (lists_of area g)
  unfolding together
  count_step t r l e h =
      let k = drop_lists area g i l in
      let s : together a b (drop i (lists_of area g)) ≡ r + together a b (drop (suc i) (lists_of area g)) = rw (k, ← e, bit_byte t, ← h) in
      rw (add-one i) (omega arith)

  pub count_end : g ≤ i → n ≡ together a b (lists_of area g)
  unfolding together
  count_end h =
      let s : together a b (drop i (lists_of area g)) ≡ 0 = rw (lists_end area g i h) in
      omega arith

pub one_le : (t : Bool) (r n i : ℕ) → r ≡ bool_byte t → n ≤ i → n + r ≤ i + 1
one_le true r n i e h = omega arith
one_le false r n i e h = omega arith

pub one_fits : (t : Bool) (r n i g : ℕ) → r ≡ bool_byte t → n ≤ i → i < g → Fits w64 g → Fits w64 (n + r)
one_fits t r n i g e h l f = let q = one_le t r n i e h in record { fits = omega arith }

pub ruleset counts = (count_start, count_step, one_le, one_fits, count_end)
