-- Every normalization is canonical, and of right shape.
use mathlib.Core.Path.{◌≡◌, refl, sym, ap, ◌∙◌}
use mathlib.Core.Logic.{◌≢◌}
use Prim.Native.Nat.{ℕ, ◌/◌, ◌%◌, ◌≤◌, ◌<◌}
use native.Mathlib.Omega.{arith}
use mathlib.Core.Bool.{Bool, true, false, not}
use mathlib.Core.List.{List, [], ◌∷◌, map}
use lib.ListN.{length}
use lib.Dec.{eqb, ltb}
use borrow.Author.Tests.{ne_eqb, lt-ltb, eqb-false}
use Rattle.kinds.specs.Kinds.{kind_of}
use Rattle.kinds.specs.declared.Kind.{Kind}
use Rattle.kinds.specs.declared.Kind.TheVariants.{And2, Xor2, And3, Xor3, Maj, Mux, AndN, OrN, NandN, NorN, XorN, XnorN, Buf, Dff, Lut}
use Rattle.laws.specs.Lists.{All}
use Rattle.laws.proofs.Bools.{or_left, or_right}
use Rattle.laws.proofs.Lists.{by_one, by_two, by_three}
use Rattle.laws.proofs.Choices.{by_eq, by_or2, by_or3, by_test}
use Rattle.model.specs.Signal.{is_inverted, neg, without_inversion, is_constant}
use Rattle.model.specs.Gate.{Gate, fits_kind, fits_code, fits_table, shaped}
use Rattle.model.specs.Normal.{Norm, copied, made, made2, made3, least, most, low3, mid3, high3, and_sorted, make_and, xor_sorted, make_xor, and3_sorted, make_and3, xor3_sorted, make_xor3, mux_plain, mux_select, make_mux, maj_plain, maj_sorted, make_maj, make_dff, without, sorted, uniq, opposed, and_some, and_wide, and_tidy, make_and_n, cancel, xor_some, make_xor_n, normal_k, make_canonical, rises, sorted_n, no_inv, proper, mux_canonical, dff_canonical, canonical_k, is_canonical, is_normal}
use Rattle.model.proofs.Words.{flip_ind, plain_inv, inv_even, same_ind, neg_neg, neg_plain}
use Rattle.model.proofs.Order.{least_most, low_mid, mid_high, rising, sort2_ok, sort3_ok}
use Rattle.meaning.proofs.Shapes.{fits_kind_lem}
use Rattle.model.proofs.Lists.{Up, sorted_asc, uniq_up, cancel_up, sorted_all, without_all, uniq_all, cancel_all, without_other}

-- a gate that is made has its kind's shape
abbrev pub fits_norm : Norm → Bool
fits_norm (copied s) = true
fits_norm (made g z) = shaped g

pub record Canon (nm : Norm) : Type 0 where
  pub is : is_normal nm ≡ true
  pub fits : fits_norm nm ≡ true

copy_canon : (s : ℕ) → Canon (copied s)
copy_canon s = record { is = refl; fits = refl }

-- ---- tests that hold

no_constant : (x : ℕ) → 2 ≤ x → is_constant x ≡ false
no_constant x h = ne_eqb (x / 2) 0 (omega arith)

rises_is : (x y : ℕ) → x / 2 < y / 2 → rises x y ≡ true
unfolding rises
rises_is x y h = lt-ltb (x / 2) (y / 2) h

even_rising : (x y : ℕ) → x ≤ y → x ≢ y → is_inverted x ≡ false → is_inverted y ≡ false → x / 2 < y / 2
even_rising x y l d e f = let p : x % 2 ≡ 0 = inv_even x e in let q : y % 2 ≡ 0 = inv_even y f in omega arith

proper2 : (x y : ℕ) → 2 ≤ x → x / 2 < y / 2 → proper (x ∷ y ∷ []) ≡ true
unfolding proper sorted_n
proper2 x y a h = rw (rises_is x y h, no_constant x a)

proper3 : (x y w : ℕ) → 2 ≤ x → x / 2 < y / 2 → y / 2 < w / 2 → proper (x ∷ y ∷ w ∷ []) ≡ true
unfolding proper sorted_n
proper3 x y w a h k = rw (rises_is x y h, rises_is y w k, no_constant x a)

plain2 : (x y : ℕ) → is_inverted x ≡ false → is_inverted y ≡ false → no_inv (x ∷ y ∷ []) ≡ true
unfolding no_inv
plain2 x y a b = rw (a, b)

plain3 : (x y w : ℕ) → is_inverted x ≡ false → is_inverted y ≡ false → is_inverted w ≡ false → no_inv (x ∷ y ∷ w ∷ []) ≡ true
unfolding no_inv
plain3 x y w a b c = rw (a, b, c)

even_two : (x : ℕ) → is_inverted x ≡ false → x ≢ 0 → 2 ≤ x
even_two x e d = let p : x % 2 ≡ 0 = inv_even x e in omega arith

two_up : (x : ℕ) → x ≢ 0 → x ≢ 1 → 2 ≤ x
two_up x p q = omega arith

-- ---- two inputs

and_sorted_lem : (z : Bool) (x y : ℕ) → x ≤ y → Canon (and_sorted x y z)
unfolding and_sorted made2 is_canonical canonical_k kind_of shaped fits_code fits_table
and_sorted_lem z x y l =
    by_or2 Canon x 0 x (neg y) (λ e. copy_canon _) (λ e. copy_canon _) (λ p q.
    by_or2 Canon x 1 x y (λ e. copy_canon _) (λ e. copy_canon _) (λ r s.
    record { is = proper2 x y (omega arith) (rising x y l q s); fits = refl }))

pub and_canon : (a b : ℕ) (z : Bool) → Canon (make_and a b z)
unfolding make_and
and_canon a b z = and_sorted_lem z (least a b) (most a b) (least_most a b)

abbrev Plain2 : ℕ → ℕ → Type 0
Plain2 x y = (is_inverted x ≡ false) × (is_inverted y ≡ false)

xor_sorted_lem : (z : Bool) (x y : ℕ) → x ≤ y → is_inverted x ≡ false → is_inverted y ≡ false → Canon (xor_sorted x y z)
unfolding xor_sorted made2 is_canonical canonical_k kind_of shaped fits_code fits_table
xor_sorted_lem z x y l a b =
    by_eq Canon x 0 (λ e. copy_canon _) (λ p.
    by_eq Canon x y (λ e. copy_canon _) (λ q.
    record { is = rw (proper2 x y (even_two x a p) (even_rising x y l q a b), plain2 x y a b); fits = refl }))

pub xor_canon : (a b : ℕ) (z : Bool) → Canon (make_xor a b z)
unfolding make_xor
xor_canon a b z =
    let k : Plain2 (least (without_inversion a) (without_inversion b)) (most (without_inversion a) (without_inversion b)) = sort2_ok Plain2 (without_inversion a) (without_inversion b) (plain_inv a, plain_inv b) (plain_inv b, plain_inv a) in
    xor_sorted_lem _ (least (without_inversion a) (without_inversion b)) (most (without_inversion a) (without_inversion b)) (least_most (without_inversion a) (without_inversion b)) k.0 k.1

-- ---- three inputs

and3_sorted_lem : (z : Bool) (x y w : ℕ) → x ≤ y → y ≤ w → Canon (and3_sorted x y w z)
unfolding and3_sorted made3 is_canonical canonical_k kind_of shaped fits_code fits_table
and3_sorted_lem z x y w l m =
    by_or3 Canon x 0 x (neg y) w (neg y) (λ e. copy_canon _) (λ e. copy_canon _) (λ e. copy_canon _) (λ p q r.
    by_or2 Canon x 1 x y (λ e. and_canon y w z) (λ e. and_canon y w z) (λ s t.
    by_eq Canon y w (λ e. and_canon x y z) (λ u.
    record { is = proper3 x y w (omega arith) (rising x y l q t) (rising y w m (λ e. r (swap y w e)) u); fits = refl })))
  where
    swap : (y w : ℕ) → y ≡ neg w → w ≡ neg y
    swap y w e = sym (neg_neg w) ∙ ap (λ s. neg s) (sym e)

pub and3_canon : (a b c : ℕ) (z : Bool) → Canon (make_and3 a b c z)
unfolding make_and3
and3_canon a b c z = and3_sorted_lem z (low3 a b c) (mid3 a b c) (high3 a b c) (low_mid a b c) (mid_high a b c)

abbrev Plain3 : ℕ → ℕ → ℕ → Type 0
Plain3 x y w = (is_inverted x ≡ false) × (is_inverted y ≡ false) × (is_inverted w ≡ false)

xor3_sorted_lem : (z : Bool) (x y w : ℕ) → x ≤ y → y ≤ w → Plain3 x y w → Canon (xor3_sorted x y w z)
unfolding xor3_sorted made3 is_canonical canonical_k kind_of shaped fits_code fits_table
xor3_sorted_lem z x y w l m k =
    by_eq Canon x 0 (λ e. xor_canon y w z) (λ p.
    by_eq Canon x y (λ e. copy_canon _) (λ q.
    by_eq Canon y w (λ e. copy_canon _) (λ r.
    record { is = rw (proper3 x y w (even_two x k.0 p) (even_rising x y l q k.0 k.1) (even_rising y w m r k.1 k.2), plain3 x y w k.0 k.1 k.2); fits = refl })))

pub xor3_canon : (a b c : ℕ) (z : Bool) → Canon (make_xor3 a b c z)
unfolding make_xor3
xor3_canon a b c z =
    xor3_sorted_lem _ (low3 (without_inversion a) (without_inversion b) (without_inversion c)) (mid3 (without_inversion a) (without_inversion b) (without_inversion c)) (high3 (without_inversion a) (without_inversion b) (without_inversion c))
    (low_mid (without_inversion a) (without_inversion b) (without_inversion c)) (mid_high (without_inversion a) (without_inversion b) (without_inversion c))
    (sort3_ok Plain3 (λ x y w k. (k.1, k.0, k.2)) (λ x y w k. (k.0, k.2, k.1)) (without_inversion a) (without_inversion b) (without_inversion c) (plain_inv a, plain_inv b, plain_inv c))

-- indices apart
apart : (x y : ℕ) → x ≢ y → x ≢ neg y → eqb (x / 2) (y / 2) ≡ false
apart x y d e = ne_eqb (x / 2) (y / 2) (λ h. e (same_ind x y h d))

mux_plain_lem : (s a b : ℕ) (z : Bool) → is_inverted s ≡ false → is_inverted b ≡ false → Canon (mux_plain s a b z)
unfolding mux_plain made3 is_canonical canonical_k mux_canonical kind_of shaped fits_code fits_table
mux_plain_lem s a b z is ib =
    by_or2 Canon s 0 a b (λ e. copy_canon _) (λ e. copy_canon _) (λ p1 p2.
    by_or2 Canon s a a 1 (λ e. and_canon _ _ _) (λ e. and_canon _ _ _) (λ p3 p4.
    by_or2 Canon s (neg a) a 0 (λ e. and_canon _ _ _) (λ e. and_canon _ _ _) (λ p5 p6.
    by_or2 Canon s b b 0 (λ e. and_canon _ _ _) (λ e. and_canon _ _ _) (λ p7 p8.
    by_or2 Canon s (neg b) b 1 (λ e. and_canon _ _ _) (λ e. and_canon _ _ _) (λ p9 p10.
    by_eq Canon a (neg b) (λ e. xor_canon _ _ _) (λ p11.
    record { is = rw (apart s a p3 p5, apart s b p7 p9, apart a b p2 p11, is, ib, no_constant a (two_up a p6 p4), no_constant b (two_up b p8 p10), no_constant s (even_two s is p1)); fits = refl }))))))

mux_select_lem : (s a b : ℕ) (z : Bool) → is_inverted s ≡ false → Canon (mux_select s a b z)
unfolding mux_select
mux_select_lem s a b z e = by_test Canon (is_inverted b) (λ f. mux_plain_lem s (neg a) (neg b) (not z) e (neg_plain b f)) (λ f. mux_plain_lem s a b z e f)

pub mux_canon : (s a b : ℕ) (z : Bool) → Canon (make_mux s a b z)
unfolding make_mux
mux_canon s a b z = by_test Canon (is_inverted s) (λ e. mux_select_lem (neg s) b a z (neg_plain s e)) (λ e. mux_select_lem s a b z e)

maj_plain_lem : (x y w : ℕ) (z : Bool) → is_inverted x ≡ false → x / 2 < y / 2 → y / 2 < w / 2 → Canon (maj_plain x y w z)
unfolding maj_plain made3 is_canonical canonical_k kind_of shaped fits_code fits_table
maj_plain_lem x y w z e l m =
    by_eq Canon x 0 (λ q. and_canon y w z) (λ q. record { is = rw (proper3 x y w (even_two x e q) l m, e); fits = refl })

maj_sorted_lem : (z : Bool) (x y w : ℕ) → x ≤ y → y ≤ w → Canon (maj_sorted x y w z)
unfolding maj_sorted
maj_sorted_lem z x y w l m =
    by_or2 Canon x (neg y) y w (λ e. copy_canon _) (λ e. copy_canon _) (λ p q.
    by_or2 Canon y (neg w) x y (λ e. copy_canon _) (λ e. copy_canon _) (λ r s.
    by_test Canon (is_inverted x)
    (λ e. maj_plain_lem (neg x) (neg y) (neg w) (not z) (neg_plain x e) (turned x y (rising x y l p s)) (turned y w (rising y w m r q)))
    (λ e. maj_plain_lem x y w z e (rising x y l p s) (rising y w m r q))))
  where
    turned : (u v : ℕ) → u / 2 < v / 2 → neg u / 2 < neg v / 2
    turned u v h = rw (flip_ind u true, flip_ind v true) h

pub maj_canon : (a b c : ℕ) (z : Bool) → Canon (make_maj a b c z)
unfolding make_maj
maj_canon a b c z = maj_sorted_lem z (low3 a b c) (mid3 a b c) (high3 a b c) (low_mid a b c) (mid_high a b c)

pub dff_canon : (d en res : ℕ) (z : Bool) → Canon (make_dff d en res z)
unfolding make_dff made3 is_canonical canonical_k dff_canonical kind_of shaped fits_code fits_table
dff_canon d en res z =
    by_or3 Canon d 0 en 0 res 1 (λ e. copy_canon _) (λ e. copy_canon _) (λ e. copy_canon _)
    (λ p q r. record { is = rw (ne_eqb en 0 q, ne_eqb d 0 p, ne_eqb res 1 r); fits = refl })

-- ---- any number: a sorted list without repeats rises

-- rising words that are not opposed have rising indices
up_rises : (l : List ℕ) → Up l → opposed l ≡ false → sorted_n l ≡ true
unfolding sorted_n opposed
up_rises [] h o = refl
up_rises (x ∷ []) h o = refl
up_rises (x ∷ y ∷ l) h o =
    let k : x < y = h.0.0 in
    rw (rises_is x y (rising x y (omega arith) (eqb-false x (neg y) (or_left _ _ o)) (omega arith)), up_rises (y ∷ l) h.1 (or_right (eqb x (neg y)) _ o))

even_rises : (l : List ℕ) → Up l → All (λ s. is_inverted s ≡ false) l → sorted_n l ≡ true
unfolding sorted_n
even_rises [] h o = refl
even_rises (x ∷ []) h o = refl
even_rises (x ∷ y ∷ l) h o =
    let k : x < y = h.0.0 in
    rw (rises_is x y (even_rising x y (omega arith) (omega arith) o.0 o.1.0), even_rises (y ∷ l) h.1 o.1)

no_inv_lem : (l : List ℕ) → All (λ s. is_inverted s ≡ false) l → no_inv l ≡ true
unfolding no_inv
no_inv_lem [] h = refl
no_inv_lem (x ∷ l) h = rw (h.0, no_inv_lem l h.1)

long4 : (x y w u : ℕ) (l : List ℕ) → ltb 3 (length (x ∷ y ∷ w ∷ u ∷ l)) ≡ true
long4 x y w u l = lt-ltb 3 (length (x ∷ y ∷ w ∷ u ∷ l)) (omega arith)

and_some_lem : (x : ℕ) (l : List ℕ) (z : Bool) → 2 ≤ x → sorted_n (x ∷ l) ≡ true → Canon (and_some x l z)
unfolding and_some is_canonical canonical_k proper kind_of shaped fits_code fits_table
and_some_lem x [] z a h = copy_canon _
and_some_lem x (y ∷ []) z a h = and_canon x y z
and_some_lem x (y ∷ w ∷ []) z a h = and3_canon x y w z
and_some_lem x (y ∷ w ∷ u ∷ l) z a h = record { is = rw (h, no_constant x a, long4 x y w u l); fits = refl }

and_wide_lem : (l : List ℕ) (z : Bool) → All (λ s. s ≢ 1) l → sorted_n l ≡ true → Canon (and_wide l z)
unfolding and_wide
and_wide_lem [] z a h = copy_canon _
and_wide_lem (x ∷ l) z a h = by_eq Canon x 0 (λ e. copy_canon _) (λ e. let d : x ≢ 1 = a.0 in and_some_lem x l z (omega arith) h)

pub and_n_canon : (l : List ℕ) (z : Bool) → Canon (make_and_n l z)
unfolding make_and_n and_tidy
and_n_canon l z =
    let m = sorted (without 1 l) in
    by_test Canon (opposed (uniq m)) (λ e. copy_canon _)
    (λ e. and_wide_lem (uniq m) z (uniq_all (λ s. s ≢ 1) m (sorted_all (λ s. s ≢ 1) (without 1 l) (without_other 1 l))) (up_rises (uniq m) (uniq_up m (sorted_asc (without 1 l))) e))

plain_all : (l : List ℕ) → All (λ s. is_inverted s ≡ false) (map without_inversion l)
plain_all [] = tt
plain_all (x ∷ l) = (plain_inv x, plain_all l)

xor_some_lem : (l : List ℕ) (z : Bool) → All (λ s. s ≢ 0) l → All (λ s. is_inverted s ≡ false) l → Up l → Canon (xor_some l z)
unfolding xor_some is_canonical canonical_k proper kind_of shaped fits_code fits_table
xor_some_lem [] z a p h = copy_canon _
xor_some_lem (x ∷ []) z a p h = copy_canon _
xor_some_lem (x ∷ y ∷ []) z a p h = xor_canon x y z
xor_some_lem (x ∷ y ∷ w ∷ []) z a p h = xor3_canon x y w z
xor_some_lem (x ∷ y ∷ w ∷ u ∷ l) z a p h =
    record { is = rw (even_rises (x ∷ y ∷ w ∷ u ∷ l) h p, no_constant x (even_two x p.0 a.0), long4 x y w u l, no_inv_lem (x ∷ y ∷ w ∷ u ∷ l) p); fits = refl }

pub xor_n_canon : (l : List ℕ) (z : Bool) → Canon (make_xor_n l z)
unfolding make_xor_n
xor_n_canon l z =
    let k = without 0 (map without_inversion l) in
    let m = sorted k in
    xor_some_lem (cancel m) _
    (cancel_all (λ s. s ≢ 0) m (sorted_all (λ s. s ≢ 0) k (without_other 0 (map without_inversion l))))
    (cancel_all (λ s. is_inverted s ≡ false) m (sorted_all (λ s. is_inverted s ≡ false) k (without_all (λ s. is_inverted s ≡ false) 0 (map without_inversion l) (plain_all l))))
    (cancel_up m (sorted_asc k))

-- ---- the whole

-- what every normalization's being canonical and of right shape gives; a Lut stays as it is
normal_k_canon : {P : Norm → Type 0} → ((nm : Norm) → Canon nm → P nm) → (k : Kind) (l : List ℕ) (same : Norm) → fits_kind k (length l) ≡ true
    → (k ≡ Lut → P same) → P (normal_k k l same)
unfolding normal_k
normal_k_canon f And2 l s e h = f _ (by_two (λ l. Canon (normal_k And2 l s)) l e (λ a b. and_canon a b false))
normal_k_canon f Xor2 l s e h = f _ (by_two (λ l. Canon (normal_k Xor2 l s)) l e (λ a b. xor_canon a b false))
normal_k_canon f And3 l s e h = f _ (by_three (λ l. Canon (normal_k And3 l s)) l e (λ a b c. and3_canon a b c false))
normal_k_canon f Xor3 l s e h = f _ (by_three (λ l. Canon (normal_k Xor3 l s)) l e (λ a b c. xor3_canon a b c false))
normal_k_canon f Maj l s e h = f _ (by_three (λ l. Canon (normal_k Maj l s)) l e (λ a b c. maj_canon a b c false))
normal_k_canon f Mux l s e h = f _ (by_three (λ l. Canon (normal_k Mux l s)) l e (λ a b c. mux_canon a b c false))
normal_k_canon f AndN l s e h = f _ (and_n_canon l false)
normal_k_canon f OrN l s e h = f _ (and_n_canon (map neg l) true)
normal_k_canon f NandN l s e h = f _ (and_n_canon l true)
normal_k_canon f NorN l s e h = f _ (and_n_canon (map neg l) false)
normal_k_canon f XorN l s e h = f _ (xor_n_canon l false)
normal_k_canon f XnorN l s e h = f _ (xor_n_canon l true)
normal_k_canon f Buf l s e h = f _ (by_one (λ l. Canon (normal_k Buf l s)) l e (λ a. copy_canon a))
normal_k_canon f Dff l s e h = f _ (by_three (λ l. Canon (normal_k Dff l s)) l e (λ a b c. dff_canon a b c false))
normal_k_canon f Lut l s e h = h refl

record Normal (nm : Norm) : Type 0 where
  is : is_normal nm ≡ true

-- EVERY NORMALIZATION IS CANONICAL, of a gate with as many inputs as its kind has
pub canonical_of_canonical : (g : Gate) → fits_kind (kind_of g.kind) (length g.ins) ≡ true → is_normal (make_canonical g) ≡ true
unfolding make_canonical is_canonical canonical_k
canonical_of_canonical g e =
    (normal_k_canon {P = Normal} (λ nm c. record { is = c.is }) (kind_of g.kind) g.ins (made g false) e (λ h. record { is = rw h })).is

-- and of right shape, where the gate is
pub canon_of_canonical : (g : Gate) → shaped g ≡ true → Canon (make_canonical g)
unfolding make_canonical is_canonical canonical_k
canon_of_canonical g e =
    normal_k_canon {P = Canon} (λ nm c. c) (kind_of g.kind) g.ins (made g false) (fits_kind_lem g e) (λ h. record { is = rw h; fits = e })
