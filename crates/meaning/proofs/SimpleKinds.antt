-- Which kinds normalization makes, and what a gate costs; canonical and the passes of factoring keep to them, with two inputs in the end.
use mathlib.Core.Path.{◌≡◌, refl, sym, ap, ap₂, subst, ◌∙◌}
use mathlib.Core.Logic.{inl, inr, ◌⊎◌}
use Prim.Native.Nat.{ℕ, suc, ◌-◌, ◌≤◌, ◌<◌}
use native.Mathlib.Omega.{arith}
use mathlib.Core.Bool.{Bool, true, false, not, cond, ◌&&◌, ◌||◌}
use mathlib.Core.List.{List, [], map, ◌∷◌}
use lib.ListN.{length, length-map, get_or}
use lib.Dec.{eqb, ltb}
use borrow.Author.Tests.{eqb-true, ltb-true, ltb-false}
use Rattle.kinds.specs.Kinds.{kind_of, in_family, is_flip_flop}
use Rattle.kinds.proofs.Codes.{kind_code}
use Rattle.kinds.specs.declared.Kind.{Kind}
use Rattle.kinds.specs.declared.Kind.TheVariants.{And2, Xor2, And3, Xor3, Maj, Mux, AndN, OrN, NandN, NorN, XorN, XnorN, Buf, Dff, Lut}
use Rattle.kinds.specs.declared.Family.{Family}
use Rattle.kinds.specs.declared.Family.TheVariants.{And, Xor}
use Rattle.laws.specs.Bools.{bit}
use Rattle.laws.specs.Lists.{All}
use Rattle.laws.proofs.Bools.{true_false, and_left, and_right, or-true}
use Rattle.laws.proofs.Lists.{all_of, by_one, by_two, by_three, all_at, all_append, all_map}
use Rattle.laws.proofs.Choices.{by_bool, by_test, clash}
use Rattle.model.specs.Signal.{neg, is_inverted, remap_order}
use Rattle.model.specs.Gate.{Gate, Net, Valid, no_gate, is_dff, remap_gate, fits_kind, shaped, size, is_topo_sorted}
use Rattle.model.specs.Normal.{Norm, copied, made, gate_of, made2, made3, and_sorted, make_and, xor_sorted, make_xor, and3_sorted, make_and3, xor3_sorted, make_xor3, mux_plain, mux_select, make_mux, maj_plain, maj_sorted, make_maj, make_dff, opposed, and_some, and_wide, and_tidy, make_and_n, xor_some, make_xor_n, normal_k, make_canonical, no_inv, proper, canonical_k, is_canonical}
use Rattle.model.specs.Network.{canonical, remap, topo_order, sorts, topo_sort}
use Rattle.model.specs.Sharing.{inside, weight, is_simple, Pair, taken, takes, pair_gate, replaced, grown, factor_gates, pass_refusal}
use Rattle.shape.proofs.Sums.{bit_le}
use Rattle.shape.proofs.Remap.{remap_size, remap_gate_lem}
use Rattle.shape.proofs.Sort.{sort_order}
use Rattle.shape.proofs.DedupNormal.{canonical_law, made_few, made_dff}
use Rattle.shape.proofs.FactoringGrown.{ended, grown_nodes, length_ended}
use Rattle.shape.proofs.FactoringPass.{pass_grown, pass_source, pass_sorts}
use Rattle.meaning.proofs.Shapes.{gate_with, by_shape}
use Rattle.meaning.proofs.Canonical.{Canon, canon_of_canonical}
use Rattle.meaning.proofs.TidyCanonical.{canonical_all}

-- the n-ary kind of a family that a kind's normal forms belong to, if they belong to one
abbrev pub nary : Kind → Kind
nary And2 = AndN
nary And3 = AndN
nary AndN = AndN
nary OrN = AndN
nary NandN = AndN
nary NorN = AndN
nary Xor2 = XorN
nary Xor3 = XorN
nary XorN = XorN
nary XnorN = XorN
nary Maj = Maj
nary Mux = Mux
nary Buf = Buf
nary Dff = Dff
nary Lut = Lut

abbrev pub leads : Gate → Family → Bool
leads g f = in_family (nary (kind_of g.kind)) f

-- ---- the kinds of normal forms

record Of (q : Kind → Type 0) (nm : Norm) : Type 0 where
  of : (h : Gate) (z : Bool) → nm ≡ made h z → q (kind_of h.kind)

module _ (q : Kind → Type 0) where
  copy_of : (s : ℕ) → Of q (copied s)
  copy_of s = record { of = λ h z e. let z : ◌≡◌ {A = ℕ} 0 1 = cc in absurd (omega arith) }

  gate_of_lem : (k : Kind) (l : List ℕ) (z : Bool) → q k → Of q (made (gate_of k l) z)
  gate_of_lem k l z c = record { of = λ h y e. let r : gate_of k l ≡ h = cc in subst (λ (h : Gate). q (kind_of h.kind)) r (rw (kind_code k) c) }

  either : (t : Bool) {a b : Norm} → Of q a → Of q b → Of q (cond t a b)
  either t x y = by_test (Of q) t (λ e. x) (λ e. y)

  module _ (two : q And2) where
    and_sorted_of : (x y : ℕ) (z : Bool) → Of q (and_sorted x y z)
    unfolding and_sorted made2
    and_sorted_of x y z = either (eqb x 0 || eqb x (neg y)) (copy_of _) (either (eqb x 1 || eqb x y) (copy_of _) (gate_of_lem And2 _ z two))

    and_of : (a b : ℕ) (z : Bool) → Of q (make_and a b z)
    unfolding make_and
    and_of a b z = and_sorted_of _ _ z

    module _ (three : q Maj) where
      maj_plain_of : (x y w : ℕ) (z : Bool) → Of q (maj_plain x y w z)
      unfolding maj_plain made3
      maj_plain_of x y w z = either (eqb x 0) (and_of y w z) (gate_of_lem Maj _ z three)

      maj_sorted_of : (x y w : ℕ) (z : Bool) → Of q (maj_sorted x y w z)
      unfolding maj_sorted
      maj_sorted_of x y w z =
          either (eqb x (neg y) || eqb y w) (copy_of _)
          (either (eqb y (neg w) || eqb x y) (copy_of _)
          (either (is_inverted x) (maj_plain_of (neg x) (neg y) (neg w) (not z)) (maj_plain_of x y w z)))

      maj_of : (a b c : ℕ) (z : Bool) → Of q (make_maj a b c z)
      unfolding make_maj
      maj_of a b c z = maj_sorted_of _ _ _ z

    module _ (three : q And3) where
      and3_sorted_of : (x y w : ℕ) (z : Bool) → Of q (and3_sorted x y w z)
      unfolding and3_sorted made3
      and3_sorted_of x y w z =
          either (eqb x 0 || eqb x (neg y) || eqb w (neg y)) (copy_of _)
          (either (eqb x 1 || eqb x y) (and_of y w z)
          (either (eqb y w) (and_of x y z) (gate_of_lem And3 _ z three)))

      and3_of : (a b c : ℕ) (z : Bool) → Of q (make_and3 a b c z)
      unfolding make_and3
      and3_of a b c z = and3_sorted_of _ _ _ z

      and_some_of : q AndN → (x : ℕ) (l : List ℕ) (z : Bool) → Of q (and_some x l z)
      unfolding and_some
      and_some_of n x [] z = copy_of _
      and_some_of n x (y ∷ []) z = and_of x y z
      and_some_of n x (y ∷ w ∷ []) z = and3_of x y w z
      and_some_of n x (y ∷ w ∷ u ∷ l) z = gate_of_lem AndN _ z n

      and_wide_of : q AndN → (l : List ℕ) (z : Bool) → Of q (and_wide l z)
      unfolding and_wide
      and_wide_of n [] z = copy_of _
      and_wide_of n (x ∷ l) z = either (eqb x 0) (copy_of _) (and_some_of n x l z)

      and_tidy_of : q AndN → (l : List ℕ) (z : Bool) → Of q (and_tidy l z)
      unfolding and_tidy
      and_tidy_of n l z = either (opposed l) (copy_of _) (and_wide_of n l z)

      and_n_of : q AndN → (l : List ℕ) (z : Bool) → Of q (make_and_n l z)
      unfolding make_and_n
      and_n_of n l z = and_tidy_of n _ z

  module _ (two : q Xor2) where
    xor_sorted_of : (x y : ℕ) (z : Bool) → Of q (xor_sorted x y z)
    unfolding xor_sorted made2
    xor_sorted_of x y z = either (eqb x 0) (copy_of _) (either (eqb x y) (copy_of _) (gate_of_lem Xor2 _ z two))

    xor_of : (a b : ℕ) (z : Bool) → Of q (make_xor a b z)
    unfolding make_xor
    xor_of a b z = xor_sorted_of _ _ _

    module _ (three : q Xor3) where
      xor3_sorted_of : (x y w : ℕ) (z : Bool) → Of q (xor3_sorted x y w z)
      unfolding xor3_sorted made3
      xor3_sorted_of x y w z = either (eqb x 0) (xor_of y w z) (either (eqb x y) (copy_of _) (either (eqb y w) (copy_of _) (gate_of_lem Xor3 _ z three)))

      xor3_of : (a b c : ℕ) (z : Bool) → Of q (make_xor3 a b c z)
      unfolding make_xor3
      xor3_of a b c z = xor3_sorted_of _ _ _ _

      xor_some_of : q XorN → (l : List ℕ) (z : Bool) → Of q (xor_some l z)
      unfolding xor_some
      xor_some_of n [] z = copy_of _
      xor_some_of n (x ∷ []) z = copy_of _
      xor_some_of n (x ∷ y ∷ []) z = xor_of x y z
      xor_some_of n (x ∷ y ∷ w ∷ []) z = xor3_of x y w z
      xor_some_of n (x ∷ y ∷ w ∷ u ∷ l) z = gate_of_lem XorN _ z n

      xor_n_of : q XorN → (l : List ℕ) (z : Bool) → Of q (make_xor_n l z)
      unfolding make_xor_n
      xor_n_of n l z = xor_some_of n _ _

  module _ (and : q And2) (xor : q Xor2) (mux : q Mux) where
    mux_plain_of : (s a b : ℕ) (z : Bool) → Of q (mux_plain s a b z)
    unfolding mux_plain made3
    mux_plain_of s a b z =
        either (eqb s 0 || eqb a b) (copy_of _)
        (either (eqb s a || eqb a 1) (and_of and (neg s) (neg b) (not z))
        (either (eqb s (neg a) || eqb a 0) (and_of and (neg s) b z)
        (either (eqb s b || eqb b 0) (and_of and s a z)
        (either (eqb s (neg b) || eqb b 1) (and_of and s (neg a) (not z))
        (either (eqb a (neg b)) (xor_of xor s b z)
        (gate_of_lem Mux _ z mux))))))

    mux_select_of : (s a b : ℕ) (z : Bool) → Of q (mux_select s a b z)
    unfolding mux_select
    mux_select_of s a b z = either (is_inverted b) (mux_plain_of s (neg a) (neg b) (not z)) (mux_plain_of s a b z)

    mux_of : (s a b : ℕ) (z : Bool) → Of q (make_mux s a b z)
    unfolding make_mux
    mux_of s a b z = either (is_inverted s) (mux_select_of (neg s) b a z) (mux_select_of s a b z)

  dff_of : q Dff → (d en res : ℕ) (z : Bool) → Of q (make_dff d en res z)
  unfolding make_dff made3
  dff_of c d en res z = either (eqb d 0 || eqb en 0 || eqb res 1) (copy_of _) (gate_of_lem Dff _ z c)

-- a gate of kind j made of one of kind k: of the same family, or both of simple kinds
pub data From (k j : Kind) : Type 0 where
  alike : nary j ≡ nary k → (in_family (nary k) And || in_family (nary k) Xor) ≡ true → From k j
  simple : is_simple k ≡ true → is_simple j ≡ true → From k j

kind_from : (k : Kind) (l : List ℕ) (t : ℕ) → fits_kind k (length l) ≡ true → Of (From k) (make_canonical (gate_with k l t))
unfolding make_canonical normal_k kind_of
kind_from And2 l t e = by_two (λ l. Of (From And2) (make_canonical (gate_with And2 l t))) l e (λ a b. and_of (From And2) (alike refl refl) a b false)
kind_from And3 l t e = by_three (λ l. Of (From And3) (make_canonical (gate_with And3 l t))) l e (λ a b c. and3_of (From And3) (alike refl refl) (alike refl refl) a b c false)
kind_from AndN l t e = and_n_of (From AndN) (alike refl refl) (alike refl refl) (alike refl refl) l false
kind_from OrN l t e = and_n_of (From OrN) (alike refl refl) (alike refl refl) (alike refl refl) (map neg l) true
kind_from NandN l t e = and_n_of (From NandN) (alike refl refl) (alike refl refl) (alike refl refl) l true
kind_from NorN l t e = and_n_of (From NorN) (alike refl refl) (alike refl refl) (alike refl refl) (map neg l) false
kind_from Xor2 l t e = by_two (λ l. Of (From Xor2) (make_canonical (gate_with Xor2 l t))) l e (λ a b. xor_of (From Xor2) (alike refl refl) a b false)
kind_from Xor3 l t e = by_three (λ l. Of (From Xor3) (make_canonical (gate_with Xor3 l t))) l e (λ a b c. xor3_of (From Xor3) (alike refl refl) (alike refl refl) a b c false)
kind_from XorN l t e = xor_n_of (From XorN) (alike refl refl) (alike refl refl) (alike refl refl) l false
kind_from XnorN l t e = xor_n_of (From XnorN) (alike refl refl) (alike refl refl) (alike refl refl) l true
kind_from Maj l t e = by_three (λ l. Of (From Maj) (make_canonical (gate_with Maj l t))) l e (λ a b c. maj_of (From Maj) (simple refl refl) (simple refl refl) a b c false)
kind_from Mux l t e = by_three (λ l. Of (From Mux) (make_canonical (gate_with Mux l t))) l e (λ a b c. mux_of (From Mux) (simple refl refl) (simple refl refl) (simple refl refl) a b c false)
kind_from Buf l t e = by_one (λ l. Of (From Buf) (make_canonical (gate_with Buf l t))) l e (λ a. copy_of (From Buf) a)
kind_from Dff l t e = by_three (λ l. Of (From Dff) (make_canonical (gate_with Dff l t))) l e (λ a b c. dff_of (From Dff) (simple refl refl) a b c false)
kind_from Lut l t e = record { of = λ h z q. let r : gate_with Lut l t ≡ h = cc in subst (λ (h : Gate). From Lut (kind_of h.kind)) r (simple refl refl) }

-- THE KIND of a normal form
pub normal_from : (g h : Gate) (z : Bool) → shaped g ≡ true → make_canonical g ≡ made h z → From (kind_of g.kind) (kind_of h.kind)
normal_from g h z e =
    by_shape (λ (g : Gate). make_canonical g ≡ made h z → From (kind_of g.kind) (kind_of h.kind)) g e
    (λ k l t s b. rw (kind_code k) ((kind_from k l t s).of h z))

-- ---- what a gate costs: inputs less one where it leads to a family, nothing for a Buf or a flip-flop, one for the rest

unfoldable pub cost : Gate → ℕ
cost g = cond (leads g And || leads g Xor) (length g.ins - 1) (bit (is_simple (kind_of g.kind) && not (is_dff g)))

leads_some : (f : Family) (g : Gate) → leads g f ≡ true → (leads g And || leads g Xor) ≡ true
leads_some And g e = rw e
leads_some Xor g e = rw e (or-true (leads g And))

cost_some : (g : Gate) → (leads g And || leads g Xor) ≡ true → cost g ≡ length g.ins - 1
unfolding cost
cost_some g e = rw e

pub cost_leads : (f : Family) (g : Gate) → leads g f ≡ true → cost g ≡ length g.ins - 1
cost_leads f g e = cost_some g (leads_some f g e)

kind_cost : (k : Kind) (l : List ℕ) (t : ℕ) → fits_kind k (length l) ≡ true → is_simple k ≡ true → cost (gate_with k l t) ≡ bit (not (is_flip_flop k))
unfolding cost kind_of
kind_cost And2 l t e s = let n = eqb-true (length l) 2 e in omega arith
kind_cost Xor2 l t e s = let n = eqb-true (length l) 2 e in omega arith
kind_cost Maj l t e s = refl
kind_cost Mux l t e s = refl
kind_cost Dff l t e s = refl
kind_cost Lut l t e s = refl
kind_cost And3 l t e s = true_false (sym s)
kind_cost Xor3 l t e s = true_false (sym s)
kind_cost AndN l t e s = true_false (sym s)
kind_cost OrN l t e s = true_false (sym s)
kind_cost NandN l t e s = true_false (sym s)
kind_cost NorN l t e s = true_false (sym s)
kind_cost XorN l t e s = true_false (sym s)
kind_cost XnorN l t e s = true_false (sym s)
kind_cost Buf l t e s = true_false (sym s)

-- a combinational gate of a simple kind costs one
pub simple_cost : (g : Gate) → shaped g ≡ true → is_simple (kind_of g.kind) ≡ true → cost g ≡ bit (not (is_dff g))
simple_cost g e =
    by_shape (λ (g : Gate). is_simple (kind_of g.kind) ≡ true → cost g ≡ bit (not (is_dff g))) g e (λ k l t s b. rw (kind_code k) (kind_cost k l t s))

-- so it has two inputs where it is of a family
simple_two : (f : Family) (g : Gate) → shaped g ≡ true → is_simple (kind_of g.kind) ≡ true → leads g f ≡ true → length g.ins ≤ 2
simple_two f g e s l = omega (arith, simple_cost g e s, cost_leads f g l, bit_le (not (is_dff g)))

pub cost_renamed : (τ : ℕ → ℕ) (g : Gate) → cost (remap_gate τ g) ≡ cost g
unfolding cost
cost_renamed τ g = rw (length-map g.ins (remap_order τ))

-- A NORMAL FORM COSTS NO MORE
pub normal_cost : (g h : Gate) (z : Bool) → shaped g ≡ true → make_canonical g ≡ made h z → cost h ≤ cost g
normal_cost g h z e q = go (normal_from g h z e q)
  where
    c : Canon (made h z)
    c = subst Canon q (canon_of_canonical g e)

    go : From (kind_of g.kind) (kind_of h.kind) → cost h ≤ cost g
    go (alike a t) = omega (arith, made_few make_canonical canonical_law g e h z q, cost_some g t, cost_some h (rw a t))
    go (simple s r) = omega (arith, simple_cost g e s, simple_cost h c.fits r, ap (λ b. bit (not b)) (made_dff make_canonical canonical_law g e h z q))

-- ---- the kinds of a canonical network

-- a simple kind, or a gate of a family with three or more inputs
abbrev pub SimpleOrWide : Gate → Type 0
SimpleOrWide g = (is_simple (kind_of g.kind) ≡ true) ⊎ ((f : Family) × (inside f g ≡ true) × (2 < length g.ins))

-- so neither Or, Nand, Nor, Xnor nor Buf: a gate that leads to a family is of it
pub record CanonicalKind (g : Gate) : Type 0 where
  pub same : (f : Family) → leads g f ≡ inside f g
  pub split : SimpleOrWide g

-- by cases on the family
pub by_family : (P : Family → Type 0) → P And → P Xor → (f : Family) → P f
by_family P a x And = a
by_family P a x Xor = x

canonical_kind : (g : Gate) → leads g And ≡ inside And g → leads g Xor ≡ inside Xor g → SimpleOrWide g → CanonicalKind g
canonical_kind g a x s = record { same = by_family (λ f. leads g f ≡ inside f g) a x; split = s }

kind_canonical : (k : Kind) (l : List ℕ) (t : ℕ) → fits_kind k (length l) ≡ true → canonical_k k l ≡ true → CanonicalKind (gate_with k l t)
unfolding kind_of canonical_k
kind_canonical And2 l t e c = canonical_kind (gate_with And2 l t) refl refl (inl refl)
kind_canonical Xor2 l t e c = canonical_kind (gate_with Xor2 l t) refl refl (inl refl)
kind_canonical Maj l t e c = canonical_kind (gate_with Maj l t) refl refl (inl refl)
kind_canonical Mux l t e c = canonical_kind (gate_with Mux l t) refl refl (inl refl)
kind_canonical Dff l t e c = canonical_kind (gate_with Dff l t) refl refl (inl refl)
kind_canonical Lut l t e c = canonical_kind (gate_with Lut l t) refl refl (inl refl)
kind_canonical And3 l t e c = canonical_kind (gate_with And3 l t) refl refl (inr (And, refl, (let n = eqb-true (length l) 3 e in omega arith)))
kind_canonical Xor3 l t e c = canonical_kind (gate_with Xor3 l t) refl refl (inr (Xor, refl, (let n = eqb-true (length l) 3 e in omega arith)))
kind_canonical AndN l t e c = canonical_kind (gate_with AndN l t) refl refl (inr (And, refl, (let n = ltb-true 3 (length l) (and_right (proper l) (ltb 3 (length l)) c) in omega arith)))
kind_canonical XorN l t e c =
    canonical_kind (gate_with XorN l t) refl refl (inr (Xor, refl, (let n = ltb-true 3 (length l) (and_right (proper l) (ltb 3 (length l)) (and_left (proper l && ltb 3 (length l)) (no_inv l) c)) in omega arith)))
kind_canonical OrN l t e c = true_false (sym c)
kind_canonical NandN l t e c = true_false (sym c)
kind_canonical NorN l t e c = true_false (sym c)
kind_canonical XnorN l t e c = true_false (sym c)
kind_canonical Buf l t e c = true_false (sym c)

gate_canonical : (g : Gate) → shaped g ≡ true → is_canonical g ≡ true → CanonicalKind g
unfolding is_canonical
gate_canonical g e = by_shape (λ (g : Gate). is_canonical g ≡ true → CanonicalKind g) g e (λ k l t s b. rw (kind_code k) (kind_canonical k l t s))

pub canonical_kinds : (N : Net) → Valid N → All CanonicalKind (canonical N).nodes
unfolding kind_of
canonical_kinds N A =
    canonical_all N A.gates_shaped (λ g. Unit {0}) CanonicalKind (λ τ g r. tt) (λ g h z e r q c. gate_canonical h c.fits c.is) (λ l. canonical_kind (gate_of Dff l) refl refl (inl refl))
    (all_of (λ g. Unit {0}) N.nodes no_gate (λ j l. tt))

-- there a gate costs what it weighs
pub cost_weight : (g : Gate) → CanonicalKind g → cost g ≡ weight g
unfolding cost weight
cost_weight g p = rw (p.same And, p.same Xor) (by_bool (inside And g || inside Xor g) (λ e. rw e) (λ e. rw e (go p.split e)))
  where
    go : SimpleOrWide g → (inside And g || inside Xor g) ≡ false
        → bit (is_simple (kind_of g.kind) && not (is_dff g)) ≡ bit (not (is_dff g))
    go (inl s) e = rw s
    go (inr (f, i, n)) e = clash (sym (ap₂ ◌||◌ (p.same And) (p.same Xor)) ∙ leads_some f g (p.same f ∙ i)) e

-- ---- two inputs

-- a gate that leads to family f has two inputs at most
abbrev pub Pairs : Family → Gate → Type 0
Pairs f g = leads g f ≡ true → length g.ins ≤ 2

pairs_renamed : (f : Family) (τ : ℕ → ℕ) (g : Gate) → Pairs f g → Pairs f (remap_gate τ g)
pairs_renamed f τ g p = rw (length-map g.ins (remap_order τ)) p

pub canonical_pairs : (f : Family) (N : Net) → Valid N → All (Pairs f) N.nodes → All (Pairs f) (canonical N).nodes
unfolding kind_of
canonical_pairs f N A = canonical_all N A.gates_shaped (Pairs f) (Pairs f) (pairs_renamed f) normal (λ l e. true_false (sym e))
  where
    normal : (g h : Gate) (z : Bool) → shaped g ≡ true → Pairs f g → make_canonical g ≡ made h z → Canon (made h z) → Pairs f h
    normal g h z e p q c = go (normal_from g h z e q)
      where
        go : From (kind_of g.kind) (kind_of h.kind) → Pairs f h
        go (alike a t) l = omega (arith, made_few make_canonical canonical_law g e h z q, p (rw (← a) l))
        go (simple s r) l = simple_two f h c.fits r l

-- what holds of the gates that a pass leaves alone, of its Bufs and of its pairs, holds of the grown network
module _ (f : Family) (P : Gate → Type 0) (buf : (l : List ℕ) → P (gate_of Buf l)) (pair : (x : Pair) → P (pair_gate f x)) where
  untaken_all : (gs : List Gate) → length (taken f gs) ≡ 0 → All (λ (g : Gate). takes f g ≡ false → P g) gs → All P gs
  unfolding taken
  untaken_all [] e h = tt
  untaken_all (g ∷ gs) e h = by_bool (takes f g)
      (λ t. let z : suc (length (taken f gs)) ≡ 0 = rw t at e in absurd (omega arith))
      (λ t. (h.0 t, untaken_all gs (rw t at e) h.1))

  replaced_all_lem : (gs : List Gate) (ls : List (List ℕ)) → length ls ≡ length (taken f gs) → All (λ (g : Gate). takes f g ≡ false → P g) gs → All P (replaced f gs ls)
  unfolding replaced taken
  replaced_all_lem [] ls e h = tt
  replaced_all_lem (g ∷ gs) [] e h = untaken_all (g ∷ gs) (sym e) h
  replaced_all_lem (g ∷ gs) (l ∷ ls) e h = by_bool (takes f g)
      (λ t. let z : suc (length ls) ≡ suc (length (taken f gs)) = rw t at e in rw t (buf l, replaced_all_lem gs ls (omega arith) h.1))
      (λ t. let z : suc (length ls) ≡ length (taken f gs) = rw t at e in rw t (h.0 t, replaced_all_lem gs (l ∷ ls) z h.1))

  built_all : (ps : List Pair) → All P (map (pair_gate f) ps)
  built_all [] = tt
  built_all (x ∷ ps) = (pair x, built_all ps)

  pub grown_all : (N : Net) → All (λ (g : Gate). takes f g ≡ false → P g) N.nodes → All P (grown f N).nodes
  grown_all N h =
      subst (λ (gs : List Gate). All P gs) (sym (grown_nodes f N))
      (all_append P (replaced f N.nodes (ended f N).lists) (map (pair_gate f) (ended f N).built)
      (replaced_all_lem N.nodes (ended f N).lists (length_ended f N) h) (built_all (ended f N).built))

pub sort_all : (N : Net) → Valid N → sorts N ≡ true → (P : Gate → Type 0) → ((τ : ℕ → ℕ) (g : Gate) → P g → P (remap_gate τ g)) → All P N.nodes → All P (topo_sort N).nodes
unfolding topo_sort
sort_all N A ok P renamed h =
    all_of P (remap (topo_order N) N).nodes no_gate (λ j l.
    let k : j < length (topo_order N) = omega (arith, remap_size N (topo_order N)) in
    let i : get_or (topo_order N) j 0 < size N = all_at (λ o. o < size N) (topo_order N) 0 (sort_order N A.signals ok).bound j k in
    subst P (sym (remap_gate_lem N (topo_order N) j k)) (renamed _ _ (all_at P N.nodes no_gate h (get_or (topo_order N) j 0) i)))

module _ (f : Family) (N : Net) (A : Valid N) (t : is_topo_sorted N ≡ true) (none : pass_refusal f N ≡ 0) where
  pub pass_kinds : All CanonicalKind (factor_gates f N).nodes
  unfolding factor_gates
  pass_kinds = canonical_kinds (topo_sort (grown f N)) (pass_source f N A t none)

  grown_pairs : (e : Family) → All (λ (g : Gate). takes f g ≡ false → Pairs e g) N.nodes → All (Pairs e) (factor_gates f N).nodes
  unfolding factor_gates kind_of
  grown_pairs e h =
      canonical_pairs e (topo_sort (grown f N)) (pass_source f N A t none)
      (sort_all (grown f N) (pass_grown f N A t none) (pass_sorts f N A t none) (Pairs e) (pairs_renamed e)
      (grown_all f (Pairs e) (λ l q. true_false (sym q)) (λ x q. omega arith) N h))

  -- A PASS LEAVES two-input gates of its family
  pub pass_pairs : All CanonicalKind N.nodes → All (Pairs f) (factor_gates f N).nodes
  pass_pairs h = grown_pairs f (all_map N.nodes (λ g p q l. let n = ltb-false 1 (length g.ins) (rw (← (p.same f), l) at q) in omega arith) h)

  -- and keeps those of the other
  pub pass_keeps : (e : Family) → All (Pairs e) N.nodes → All (Pairs e) (factor_gates f N).nodes
  pass_keeps e h = grown_pairs e (all_map N.nodes (λ g p q. p) h)
