-- The n-ary gates, return by return.
use mathlib.Core.Path.{◌≡◌, refl, sym, ap, ap₂, ◌∙◌, subst}
use mathlib.Core.Logic.{◌≢◌}
use Prim.Native.Nat.{ℕ, zero, suc, ◌≤◌, ◌<◌}
use native.Mathlib.Omega.{arith}
use native.Mathlib.Nat.{not-suc-le-zero}
use mathlib.Core.Bool.{Bool, true, false, not, beq}
use mathlib.Core.List.{List, [], ◌∷◌, ◌++◌, map}
use lib.ListN.{length, take, get_or, length-append}
use lib.Seq.{take-append-le}
use borrow.Author.Tests.{eq-eqb, ne_eqb}
use Rattle.kinds.specs.declared.Kind.TheVariants.{AndN, XorN}
use Rattle.signal.specs.declared.Signal.{Signal}
use Rattle.laws.specs.Bools.{xor}
use Rattle.laws.proofs.Bools.{xor_is}
use Rattle.model.specs.Signal.{flip, without_inversion, from_bool}
use Rattle.model.specs.Normal.{Norm, copied, made, gate_of, make_and, make_and3, make_xor, make_xor3, without, sorted, uniq, opposed, and_some, and_wide, and_tidy, make_and_n, parity, cancel, xor_some, make_xor_n}
use Rattle.neighbours.specs.Fronts.{Front}
use Rattle.gates.specs.Normals.{normal_of, Listed}
use Rattle.gates.specs.declared.Normalization.TheVariants.{Copy, Node}
use Rattle.gates.proofs.Fronts.{first1, first2, first3}

and_many : (n : ℕ) (l : List ℕ) (z : Bool) → n ≤ length l → 3 < n → get_or l 0 0 ≢ 0 → made (gate_of AndN (take n l)) z ≡ and_wide (take n l) z
unfolding and_wide and_some
and_many (suc (suc (suc (suc n)))) (a ∷ b ∷ c ∷ d ∷ l) z h k e = rw (ne_eqb a 0 e)
and_many (suc (suc (suc (suc n)))) [] z h k e = absurd (not-suc-le-zero h)
and_many (suc (suc (suc (suc n)))) (a ∷ []) z h k e = absurd (omega arith)
and_many (suc (suc (suc (suc n)))) (a ∷ b ∷ []) z h k e = absurd (omega arith)
and_many (suc (suc (suc (suc n)))) (a ∷ b ∷ c ∷ []) z h k e = absurd (omega arith)
and_many zero l z h k e = absurd (omega arith)
and_many (suc zero) l z h k e = absurd (omega arith)
and_many (suc (suc zero)) l z h k e = absurd (omega arith)
and_many (suc (suc (suc zero))) l z h k e = absurd (omega arith)

xor_many : (n : ℕ) (l : List ℕ) (z : Bool) → n ≤ length l → 3 < n → made (gate_of XorN (take n l)) z ≡ xor_some (take n l) z
unfolding xor_some
xor_many (suc (suc (suc (suc n)))) (a ∷ b ∷ c ∷ d ∷ l) z h k = refl
xor_many (suc (suc (suc (suc n)))) [] z h k = absurd (not-suc-le-zero h)
xor_many (suc (suc (suc (suc n)))) (a ∷ []) z h k = absurd (omega arith)
xor_many (suc (suc (suc (suc n)))) (a ∷ b ∷ []) z h k = absurd (omega arith)
xor_many (suc (suc (suc (suc n)))) (a ∷ b ∷ c ∷ []) z h k = absurd (omega arith)
xor_many zero l z h k = absurd (omega arith)
xor_many (suc zero) l z h k = absurd (omega arith)
xor_many (suc (suc zero)) l z h k = absurd (omega arith)
xor_many (suc (suc (suc zero))) l z h k = absurd (omega arith)

-- a list whose first is zero
and_first : (n : ℕ) (l : List ℕ) (z : Bool) → n ≢ 0 → n ≤ length l → get_or l 0 0 ≡ 0 → and_wide (take n l) z ≡ copied (from_bool z)
unfolding and_wide
and_first zero l z e h f = absurd (e refl)
and_first (suc n) [] z e h f = absurd (not-suc-le-zero h)
and_first (suc n) (a ∷ l) z e h f = rw (eq-eqb a 0 f)

-- ---- And

module _ (l : List ℕ) (n : ℕ) (z : Bool) where
  pub wide_none : (s : Signal) (m : List ℕ) → n ≡ 0 → s.a ≡ flip 1 z → normal_of (Copy s) m ≡ and_wide (take n l) z
  unfolding normal_of and_wide
  wide_none s m e f = rw e (ap copied f)

  module _ (p : Listed l n) where
    pub wide_zero : (s : Signal) (m : List ℕ) → n ≢ 0 → get_or l 0 0 ≡ 0 → s.a ≡ from_bool z → normal_of (Copy s) m ≡ and_wide (take n l) z
    unfolding normal_of
    wide_zero s m e g f = ap copied f ∙ sym (and_first n l z e p.count g)

    pub wide_one : (s : Signal) (m : List ℕ) → get_or l 0 0 ≢ 0 → n ≡ 1 → s.a ≡ flip (get_or l 0 0) z → normal_of (Copy s) m ≡ and_wide (take n l) z
    unfolding normal_of and_wide and_some
    wide_one s m g e f = rw (e, first1 l p.room, ne_eqb (get_or l 0 0) 0 g) (ap copied f)

    pub wide_two : (r : Norm) → get_or l 0 0 ≢ 0 → n ≡ 2 → r ≡ make_and (get_or l 0 0) (get_or l 1 0) z → r ≡ and_wide (take n l) z
    unfolding and_wide and_some
    wide_two r g e f = rw (e, first2 l p.room, ne_eqb (get_or l 0 0) 0 g) f

    pub wide_three : (r : Norm) → get_or l 0 0 ≢ 0 → n ≡ 3 → r ≡ make_and3 (get_or l 0 0) (get_or l 1 0) (get_or l 2 0) z → r ≡ and_wide (take n l) z
    unfolding and_wide and_some
    wide_three r g e f = rw (e, first3 l p.room, ne_eqb (get_or l 0 0) 0 g) f

    pub wide_more : n ≢ 0 → get_or l 0 0 ≢ 0 → n ≢ 1 → n ≢ 2 → n ≢ 3 → normal_of (Node AndN n z) l ≡ and_wide (take n l) z
    unfolding normal_of
    wide_more a g b c d = and_many n l z p.count (omega arith) g

pub ruleset wides = (wide_none, wide_zero, wide_one, wide_two, wide_three, wide_more)

-- what stands at the front of a part, stands at the front of the whole
pub front_whole : (q c r : List ℕ) (m : ℕ) → Front q c m → take m (c ++ r) ≡ q
front_whole q c r m h = take-append-le m c r h.count ∙ h.front

-- passes at the front: what retain left, in order, and then with fewer neighbours
pub front_pass : (F : List ℕ → List ℕ) (q a b c r : List ℕ) (k m : ℕ) → Front q a k → b ≡ sorted (take k a) → Front (F b) c m → Front (F (sorted q)) (c ++ r) m
front_pass F q a b c r k m f g h = record {
  front = front_whole (F b) c r m h ∙ ap F (g ∙ ap sorted f.front);
  count = simp length-append (omega (arith, h.count));
}

pub front_ands : (l a b c r : List ℕ) (k m : ℕ) → Front (without 1 l) a k → b ≡ sorted (take k a) → Front (uniq b) c m
    → Front (uniq (sorted (without 1 l))) (c ++ r) m
front_ands l a b c r k m f g h = front_pass uniq (without 1 l) a b c r k m f g h

pub front_xors : (l s a b c r : List ℕ) (k m : ℕ) → s ≡ map without_inversion l → Front (without 0 s) a k → b ≡ sorted (take k a) → Front (cancel b) c m
    → Front (cancel (sorted (without 0 (map without_inversion l)))) (c ++ r) m
front_xors l s a b c r k m e f g h = front_pass cancel (without 0 (map without_inversion l)) a b c r k m (subst (λ (v : List ℕ). Front (without 0 v) a k) e f) g h

pub ruleset fronts = (front_ands, front_xors)

module _ (l c r : List ℕ) (m n : ℕ) (z : Bool) (h : Front (uniq (sorted (without 1 l))) c m) where
  pub andn_none : (t : Bool) (s : Signal) (e : List ℕ) → t ≡ opposed (take m (c ++ r)) → t ≡ true → s.a ≡ from_bool z → normal_of (Copy s) e ≡ make_and_n l z
  unfolding make_and_n and_tidy normal_of
  andn_none t s e q v w = rw (← front_whole _ c r m h, ← q, v) (ap copied w)

  pub andn_some : (t : Bool) (x : Norm) → t ≡ opposed (take m (c ++ r)) → t ≡ false → x ≡ and_wide (take m (c ++ r)) z → x ≡ make_and_n l z
  unfolding make_and_n and_tidy
  andn_some t x q v w = rw (← front_whole _ c r m h, ← q, v) w

  -- and there is room for three, as there was
  pub andn_listed : length (c ++ r) ≡ n → 3 ≤ n → Listed (c ++ r) m
  andn_listed e k = record { count = simp length-append (omega (arith, h.count)); room = omega arith }

pub ruleset andns = (andn_none, andn_some, andn_listed)

-- ---- Xor

module _ (l : List ℕ) (n : ℕ) (z : Bool) where
  pub odd_none : (s : Signal) (m : List ℕ) → n ≡ 0 → s.a ≡ from_bool z → normal_of (Copy s) m ≡ xor_some (take n l) z
  unfolding normal_of xor_some
  odd_none s m e f = rw e (ap copied f)

  module _ (p : Listed l n) where
    pub odd_one : (s : Signal) (m : List ℕ) → n ≡ 1 → s.a ≡ flip (get_or l 0 0) z → normal_of (Copy s) m ≡ xor_some (take n l) z
    unfolding normal_of xor_some
    odd_one s m e f = rw (e, first1 l p.room) (ap copied f)

    pub odd_two : (r : Norm) → n ≡ 2 → r ≡ make_xor (get_or l 0 0) (get_or l 1 0) z → r ≡ xor_some (take n l) z
    unfolding xor_some
    odd_two r e f = rw (e, first2 l p.room) f

    pub odd_three : (r : Norm) → n ≡ 3 → r ≡ make_xor3 (get_or l 0 0) (get_or l 1 0) (get_or l 2 0) z → r ≡ xor_some (take n l) z
    unfolding xor_some
    odd_three r e f = rw (e, first3 l p.room) f

    pub odd_more : n ≢ 0 → n ≢ 1 → n ≢ 2 → n ≢ 3 → normal_of (Node XorN n z) l ≡ xor_some (take n l) z
    unfolding normal_of
    odd_more a b c d = xor_many n l z p.count (omega arith)

pub ruleset odds = (odd_none, odd_one, odd_two, odd_three, odd_more)

module _ (l c r : List ℕ) (m n : ℕ) (p z : Bool) (h : Front (cancel (sorted (without 0 (map without_inversion l)))) c m) where
  pub xorn_all : (x : Norm) → p ≡ parity l → x ≡ xor_some (take m (c ++ r)) (not (beq p z)) → x ≡ make_xor_n l z
  unfolding make_xor_n
  xorn_all x e j = j ∙ ap₂ xor_some (front_whole _ c r m h) (xor_is p z ∙ ap (λ t. xor t z) e)

  pub xorn_listed : length (c ++ r) ≡ n → 3 ≤ n → Listed (c ++ r) m
  xorn_listed e k = record { count = simp length-append (omega (arith, h.count)); room = omega arith }

pub ruleset xorns = (xorn_all, xorn_listed)
