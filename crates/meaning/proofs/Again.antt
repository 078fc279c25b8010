-- A canonical gate is its own normal form; so normalizing a normalization's gate again gives it back.
use mathlib.Core.Path.{◌≡◌, refl, sym, ap, ◌∙◌, subst}
use mathlib.Core.Logic.{◌≢◌}
use Prim.Native.Nat.{ℕ, ◌/◌, ◌≤◌, ◌<◌}
use native.Mathlib.Omega.{arith}
use mathlib.Core.Bool.{Bool, true, false, not, ◌&&◌, ◌||◌}
use mathlib.Core.List.{List, [], ◌∷◌, map}
use lib.ListN.{length, get_or}
use lib.Dec.{eqb, ltb}
use borrow.Author.Tests.{ne_eqb, ltb-true, eqb-true, eqb-false, not-true}
use Rattle.kinds.specs.Kinds.{kind_of, code_of}
use Rattle.kinds.specs.declared.Kind.{Kind}
use Rattle.kinds.specs.declared.Kind.TheVariants.{And2, Xor2, And3, Xor3, Maj, Mux, AndN, OrN, NandN, NorN, XorN, XnorN, Buf, Dff, Lut}
use Rattle.laws.specs.Lists.{All}
use Rattle.laws.proofs.Bools.{true_false, and_left, and_right}
use Rattle.laws.proofs.Lists.{all_map, by_two, by_three}
use Rattle.model.specs.Signal.{is_inverted, ind, neg, without_inversion, is_constant}
use Rattle.model.specs.Gate.{Gate, fits_kind, fits_table, shaped}
use Rattle.model.specs.Normal.{made, gate_of, made2, made3, and_sorted, make_and, xor_sorted, make_xor, and3_sorted, make_and3, xor3_sorted, make_xor3, mux_plain, mux_select, make_mux, maj_plain, maj_sorted, make_maj, make_dff, opposed, and_some, and_wide, and_tidy, make_and_n, parity, xor_some, make_xor_n, normal_k, make_canonical, rises, sorted_n, no_inv, proper, mux_canonical, dff_canonical, canonical_k, is_canonical}
use Rattle.model.proofs.Words.{flip_ind, plain_stays}
use Rattle.model.proofs.Order.{least_le, most_le, low_stays, mid_stays, high_stays}
use Rattle.model.proofs.Lists.{Up, up_asc, without_stays, sorted_stays, uniq_stays, cancel_stays}
use Rattle.meaning.proofs.Shapes.{gate_with, by_shape}
use Rattle.meaning.proofs.Canonical.{Canon, canon_of_canonical}

-- ---- what the tests of is_canonical say

-- each index below those after it
abbrev pub Rise : List ℕ → Type 0
Rise [] = Unit
Rise (x ∷ l) = All (λ y. x / 2 < y / 2) l × Rise l

rise : (l : List ℕ) → sorted_n l ≡ true → Rise l
unfolding sorted_n rises
rise [] h = tt
rise (x ∷ []) h = (tt, tt)
rise (x ∷ y ∷ l) h =
    let r = rise (y ∷ l) (and_right (rises x y) (sorted_n (y ∷ l)) h) in
    let k : x / 2 < y / 2 = ltb-true (x / 2) (y / 2) (and_left (rises x y) (sorted_n (y ∷ l)) h) in
    ((k, all_map l (λ z q. omega arith) r.0), r)

pub proper_rise : (l : List ℕ) → proper l ≡ true → Rise l
unfolding proper
proper_rise l h = rise l (and_left (sorted_n l) (not (is_constant (get_or l 0 0))) h)

proper_first : (x : ℕ) (l : List ℕ) → proper (x ∷ l) ≡ true → 2 ≤ x
unfolding proper
proper_first x l h =
    let d : x / 2 ≢ 0 = eqb-false (x / 2) 0 (not-true (is_constant x) (and_right (sorted_n (x ∷ l)) (not (is_constant x)) h)) in omega arith

plain_all : (l : List ℕ) → no_inv l ≡ true → All (λ s. is_inverted s ≡ false) l
unfolding no_inv
plain_all [] h = tt
plain_all (x ∷ l) h = (not-true (is_inverted x) (and_left (not (is_inverted x)) (no_inv l) h), plain_all l (and_right (not (is_inverted x)) (no_inv l) h))

-- signals of different index are not opposed
off : (x y : ℕ) → x / 2 < y / 2 → eqb x (neg y) ≡ false
off x y l = let q : neg y / 2 ≡ y / 2 = flip_ind y true in ne_eqb x (neg y) (λ e. let f : x / 2 ≡ neg y / 2 = ap (λ i. i / 2) e in omega arith)

off_up : (x y : ℕ) → x / 2 < y / 2 → eqb y (neg x) ≡ false
off_up x y l = let q : neg x / 2 ≡ x / 2 = flip_ind x true in ne_eqb y (neg x) (λ e. let f : y / 2 ≡ neg x / 2 = ap (λ i. i / 2) e in omega arith)

-- ---- two inputs

record Rise2 (x y : ℕ) : Type 0 where
  low : 2 ≤ x
  up : x / 2 < y / 2

rise2 : (x y : ℕ) → proper (x ∷ y ∷ []) ≡ true → Rise2 x y
rise2 x y h = record { low = proper_first x (y ∷ []) h; up = (proper_rise (x ∷ y ∷ []) h).0.0 }

and_stays : (x y : ℕ) → Rise2 x y → make_and x y false ≡ made (gate_of And2 (x ∷ y ∷ [])) false
unfolding make_and and_sorted made2
and_stays x y r =
    rw (← least_le x y (omega arith), ← most_le x y (omega arith), ne_eqb x 0 (omega arith), off x y r.up, ne_eqb x 1 (omega arith), ne_eqb x y (omega arith))

xor_stays : (x y : ℕ) → Rise2 x y → is_inverted x ≡ false → is_inverted y ≡ false → make_xor x y false ≡ made (gate_of Xor2 (x ∷ y ∷ [])) false
unfolding make_xor xor_sorted made2
xor_stays x y r p q =
    rw (plain_stays x p, plain_stays y q, p, q, ← least_le x y (omega arith), ← most_le x y (omega arith), ne_eqb x 0 (omega arith), ne_eqb x y (omega arith))

-- ---- three inputs

record Rise3 (x y w : ℕ) : Type 0 where
  low : 2 ≤ x
  up : x / 2 < y / 2
  top : y / 2 < w / 2

rise3 : (x y w : ℕ) → proper (x ∷ y ∷ w ∷ []) ≡ true → Rise3 x y w
rise3 x y w h = let r = proper_rise (x ∷ y ∷ w ∷ []) h in record { low = proper_first x (y ∷ w ∷ []) h; up = r.0.0; top = r.1.0.0 }

module _ (x y w : ℕ) (r : Rise3 x y w) where
  xy : x ≤ y
  xy = omega arith

  yw : y ≤ w
  yw = omega arith

  and3_stays : make_and3 x y w false ≡ made (gate_of And3 (x ∷ y ∷ w ∷ [])) false
  unfolding make_and3 and3_sorted made3
  and3_stays =
      rw (low_stays x y w xy yw, mid_stays x y w xy yw, high_stays x y w xy yw, ne_eqb x 0 (omega arith), off x y r.up, off_up y w r.top, ne_eqb x 1 (omega arith), ne_eqb x y (omega arith), ne_eqb y w (omega arith))

  xor3_stays : is_inverted x ≡ false → is_inverted y ≡ false → is_inverted w ≡ false → make_xor3 x y w false ≡ made (gate_of Xor3 (x ∷ y ∷ w ∷ [])) false
  unfolding make_xor3 xor3_sorted made3
  xor3_stays p q s =
      rw (plain_stays x p, plain_stays y q, plain_stays w s, p, q, s, low_stays x y w xy yw, mid_stays x y w xy yw, high_stays x y w xy yw, ne_eqb x 0 (omega arith), ne_eqb x y (omega arith), ne_eqb y w (omega arith))

  maj_stays : is_inverted x ≡ false → make_maj x y w false ≡ made (gate_of Maj (x ∷ y ∷ w ∷ [])) false
  unfolding make_maj maj_sorted maj_plain made3
  maj_stays p =
      rw (low_stays x y w xy yw, mid_stays x y w xy yw, high_stays x y w xy yw, off x y r.up, ne_eqb y w (omega arith), off y w r.top, ne_eqb x y (omega arith), p, ne_eqb x 0 (omega arith))

-- different indices: neither equal nor opposed
apart : (x y : ℕ) → not (eqb (ind x) (ind y)) ≡ true → eqb x y ≡ false
apart x y h = let d : x / 2 ≢ y / 2 = eqb-false (x / 2) (y / 2) (not-true _ h) in ne_eqb x y (λ e. d (ap (λ i. i / 2) e))

apart_neg : (x y : ℕ) → not (eqb (ind x) (ind y)) ≡ true → eqb x (neg y) ≡ false
apart_neg x y h =
    let d : x / 2 ≢ y / 2 = eqb-false (x / 2) (y / 2) (not-true _ h) in
    ne_eqb x (neg y) (λ e. d (ap (λ i. i / 2) e ∙ flip_ind y true))

not_zero : (x : ℕ) → not (is_constant x) ≡ true → eqb x 0 ≡ false
not_zero x h = let d : x / 2 ≢ 0 = eqb-false (x / 2) 0 (not-true _ h) in ne_eqb x 0 (omega arith)

not_one : (x : ℕ) → not (is_constant x) ≡ true → eqb x 1 ≡ false
not_one x h = let d : x / 2 ≢ 0 = eqb-false (x / 2) 0 (not-true _ h) in ne_eqb x 1 (omega arith)

-- what mux_canonical says, test by test
record MuxTests (s a b : ℕ) : Type 0 where
  sa : not (eqb (ind s) (ind a)) ≡ true
  sb : not (eqb (ind s) (ind b)) ≡ true
  ab : not (eqb (ind a) (ind b)) ≡ true
  s_plain : not (is_inverted s) ≡ true
  b_plain : not (is_inverted b) ≡ true
  a_some : not (is_constant a) ≡ true
  b_some : not (is_constant b) ≡ true
  s_some : not (is_constant s) ≡ true

mux_tests : (s a b : ℕ) → mux_canonical s a b ≡ true → MuxTests s a b
unfolding mux_canonical
mux_tests s a b h =
    let e =
    each (not (eqb (ind s) (ind a))) (not (eqb (ind s) (ind b))) (not (eqb (ind a) (ind b))) (not (is_inverted s)) (not (is_inverted b)) (not (is_constant a)) (not (is_constant b))
    (not (is_constant s)) h in
    record { sa = e.0; sb = e.1; ab = e.2; s_plain = e.3; b_plain = e.4; a_some = e.5; b_some = e.6; s_some = e.7 }
  where
    each : (p q r t u v w x : Bool) → (p && q && r && t && u && v && w && x) ≡ true
        → (p ≡ true) × (q ≡ true) × (r ≡ true) × (t ≡ true) × (u ≡ true) × (v ≡ true) × (w ≡ true) × (x ≡ true)
    each true true true true true true true true e = (refl, refl, refl, refl, refl, refl, refl, refl)
    each false q r t u v w x e = true_false (sym e)
    each true false r t u v w x e = true_false (sym e)
    each true true false t u v w x e = true_false (sym e)
    each true true true false u v w x e = true_false (sym e)
    each true true true true false v w x e = true_false (sym e)
    each true true true true true false w x e = true_false (sym e)
    each true true true true true true false x e = true_false (sym e)
    each true true true true true true true false e = true_false (sym e)

mux_stays : (s a b : ℕ) → MuxTests s a b → make_mux s a b false ≡ made (gate_of Mux (s ∷ a ∷ b ∷ [])) false
unfolding make_mux mux_select mux_plain made3
mux_stays s a b c =
    rw (not-true (is_inverted s) c.s_plain, not-true (is_inverted b) c.b_plain, not_zero s c.s_some, apart a b c.ab, apart s a c.sa, not_one a c.a_some, apart_neg s a c.sa, not_zero a c.a_some, apart s b c.sb, not_zero b c.b_some, apart_neg s b c.sb, not_one b c.b_some, apart_neg a b c.ab)

dff_stays : (d en res : ℕ) → dff_canonical d en res ≡ true → make_dff d en res false ≡ made (gate_of Dff (d ∷ en ∷ res ∷ [])) false
unfolding make_dff dff_canonical made3
dff_stays d en res h = rw (none (eqb d 0) (eqb en 0) (eqb res 1) h)
  where
    none : (p q r : Bool) → (not q && not p && not r) ≡ true → (p || q || r) ≡ false
    none false false false e = refl
    none true true r e = true_false (sym e)
    none true false r e = true_false (sym e)
    none false true r e = true_false (sym e)
    none false false true e = true_false (sym e)

-- ---- any number

rise_up : (l : List ℕ) → Rise l → Up l
rise_up [] h = tt
rise_up (x ∷ l) h = (all_map l (λ y k. omega arith) h.0, rise_up l h.1)

rise_unopposed : (l : List ℕ) → Rise l → opposed l ≡ false
unfolding opposed
rise_unopposed [] h = refl
rise_unopposed (x ∷ []) h = refl
rise_unopposed (x ∷ y ∷ l) h = rw (off x y h.0.0, rise_unopposed (y ∷ l) h.1)

-- none is a constant
some : (x : ℕ) (l : List ℕ) → 2 ≤ x → Rise (x ∷ l) → All (λ s. 2 ≤ s) (x ∷ l)
some x l a h = (a, all_map l (λ y k. omega arith) h.0)

many_and : (x : ℕ) (l : List ℕ) → ltb 3 (length (x ∷ l)) ≡ true → 2 ≤ x → and_wide (x ∷ l) false ≡ made (gate_of AndN (x ∷ l)) false
unfolding and_wide and_some
many_and x (y ∷ w ∷ u ∷ l) e a = rw (ne_eqb x 0 (omega arith))
many_and x [] e a = true_false (sym e)
many_and x (y ∷ []) e a = true_false (sym e)
many_and x (y ∷ w ∷ []) e a = true_false (sym e)

and_n_stays : (l : List ℕ) → proper l ≡ true → ltb 3 (length l) ≡ true → make_and_n l false ≡ made (gate_of AndN l) false
unfolding make_and_n and_tidy
and_n_stays [] h e = true_false (sym e)
and_n_stays (x ∷ l) h e =
    let m = x ∷ l in
    let r = proper_rise m h in
    let a = proper_first x l h in
    let up = rise_up m r in
    rw (without_stays 1 m (all_map m (λ s k. omega arith) (some x l a r)), sorted_stays m (up_asc m up), uniq_stays m up, rise_unopposed m r) (many_and x l e a)

plain_map : (l : List ℕ) → All (λ s. is_inverted s ≡ false) l → map without_inversion l ≡ l
plain_map [] h = refl
plain_map (x ∷ l) h = rw (plain_stays x h.0) (ap (λ m. x ∷ m) (plain_map l h.1))

plain_parity : (l : List ℕ) → All (λ s. is_inverted s ≡ false) l → parity l ≡ false
unfolding parity
plain_parity [] h = refl
plain_parity (x ∷ l) h = rw (h.0, plain_parity l h.1)

many_xor : (l : List ℕ) → ltb 3 (length l) ≡ true → xor_some l false ≡ made (gate_of XorN l) false
unfolding xor_some
many_xor (x ∷ y ∷ w ∷ u ∷ l) e = refl
many_xor [] e = true_false (sym e)
many_xor (x ∷ []) e = true_false (sym e)
many_xor (x ∷ y ∷ []) e = true_false (sym e)
many_xor (x ∷ y ∷ w ∷ []) e = true_false (sym e)

xor_n_stays : (l : List ℕ) → proper l ≡ true → ltb 3 (length l) ≡ true → no_inv l ≡ true → make_xor_n l false ≡ made (gate_of XorN l) false
unfolding make_xor_n
xor_n_stays [] h e p = true_false (sym e)
xor_n_stays (x ∷ l) h e p =
    let m = x ∷ l in
    let q = plain_all m p in
    let r = proper_rise m h in
    let a = proper_first x l h in
    let up = rise_up m r in
    rw (plain_map m q, plain_parity m q, without_stays 0 m (all_map m (λ s k. omega arith) (some x l a r)), sorted_stays m (up_asc m up), cancel_stays m up) (many_xor m e)

-- ---- the whole

abbrev Stays : Gate → Type 0
Stays g = is_canonical g ≡ true → make_canonical g ≡ made g false

-- a gate without a table
bare : (k : Kind) (l : List ℕ) (t : ℕ) → t ≡ 0 → made (gate_of k l) false ≡ made (gate_with k l t) false
bare k l t e = ap (λ t. made (gate_with k l t) false) (sym e)

kind_stays : (k : Kind) (l : List ℕ) (t : ℕ) → fits_kind k (length l) ≡ true → fits_table (code_of k) (length l) t ≡ true → Stays (gate_with k l t)
unfolding is_canonical canonical_k make_canonical normal_k kind_of fits_table
kind_stays And2 l t f h = by_two (λ l. Stays (gate_with And2 l t)) l f (λ x y c. and_stays x y (rise2 x y c) ∙ bare And2 _ t (eqb-true t 0 h))
kind_stays Xor2 l t f h = by_two (λ l. Stays (gate_with Xor2 l t)) l f (λ x y c. let q = plain_all (x ∷ y ∷ []) (and_right (proper (x ∷ y ∷ [])) _ c) in
    xor_stays x y (rise2 x y (and_left _ (no_inv (x ∷ y ∷ [])) c)) q.0 q.1.0 ∙ bare Xor2 _ t (eqb-true t 0 h))
kind_stays And3 l t f h = by_three (λ l. Stays (gate_with And3 l t)) l f (λ x y w c. and3_stays x y w (rise3 x y w c) ∙ bare And3 _ t (eqb-true t 0 h))
kind_stays Xor3 l t f h = by_three (λ l. Stays (gate_with Xor3 l t)) l f (λ x y w c. let q = plain_all (x ∷ y ∷ w ∷ []) (and_right (proper (x ∷ y ∷ w ∷ [])) _ c) in
    xor3_stays x y w (rise3 x y w (and_left _ (no_inv (x ∷ y ∷ w ∷ [])) c)) q.0 q.1.0 q.1.1.0 ∙ bare Xor3 _ t (eqb-true t 0 h))
kind_stays Maj l t f h = by_three (λ l. Stays (gate_with Maj l t)) l f (λ x y w c.
    maj_stays x y w (rise3 x y w (and_left _ (not (is_inverted x)) c)) (not-true (is_inverted x) (and_right (proper (x ∷ y ∷ w ∷ [])) _ c)) ∙ bare Maj _ t (eqb-true t 0 h))
kind_stays Mux l t f h = by_three (λ l. Stays (gate_with Mux l t)) l f (λ s a b c. mux_stays s a b (mux_tests s a b c) ∙ bare Mux _ t (eqb-true t 0 h))
kind_stays AndN l t f h = λ c. and_n_stays l (and_left _ (ltb 3 (length l)) c) (and_right (proper l) _ c) ∙ bare AndN l t (eqb-true t 0 h)
kind_stays OrN l t f h = λ c. true_false (sym c)
kind_stays NandN l t f h = λ c. true_false (sym c)
kind_stays NorN l t f h = λ c. true_false (sym c)
kind_stays XorN l t f h = λ c. let d = and_left _ (no_inv l) c in
    xor_n_stays l (and_left _ (ltb 3 (length l)) d) (and_right (proper l) _ d) (and_right (proper l && ltb 3 (length l)) _ c) ∙ bare XorN l t (eqb-true t 0 h)
kind_stays XnorN l t f h = λ c. true_false (sym c)
kind_stays Buf l t f h = λ c. true_false (sym c)
kind_stays Dff l t f h = by_three (λ l. Stays (gate_with Dff l t)) l f (λ d en res c. dff_stays d en res c ∙ bare Dff _ t (eqb-true t 0 h))
kind_stays Lut l t f h = λ c. refl

-- A CANONICAL GATE IS ITS OWN NORMAL FORM
pub canonical_stays : (g : Gate) → shaped g ≡ true → is_canonical g ≡ true → make_canonical g ≡ made g false
canonical_stays g e = by_shape Stays g e kind_stays

-- NORMALIZING AGAIN: the gate of a normalization is given back
pub canonical_again : (g h : Gate) (z : Bool) → shaped g ≡ true → make_canonical g ≡ made h z → make_canonical h ≡ made h false
canonical_again g h z e q = let c : Canon (made h z) = subst Canon q (canon_of_canonical g e) in canonical_stays h c.fits c.is
