-- The value laws of the n-ary make_ functions. And and Xor are one commutative monoid each.
use mathlib.Core.Path.{◌≡◌, refl, sym, ap, ap₂, ◌∙◌}
use Prim.Native.Nat.{ℕ}
use native.Mathlib.Decide.{ℕ_discrete}
use mathlib.Core.Bool.{Bool, true, false, not, ◌&&◌, ◌||◌}
use mathlib.Core.List.{List, [], ◌∷◌, map}
use lib.Dec.{leb}
use borrow.Author.Tests.{eq-eqb, ne_eqb}
use Rattle.kinds.specs.Kinds.{kind_of}
use Rattle.laws.specs.Bools.{xor}
use Rattle.laws.proofs.Bools.{xor_assoc, xor_comm, and_assoc, and_comm, taut1, taut2, taut3, taut4}
use Rattle.laws.proofs.Choices.{by_eq, by_test}
use Rattle.laws.proofs.Lists.{map_all}
use Rattle.model.specs.Signal.{is_inverted, flip, neg, without_inversion}
use Rattle.model.specs.Evaluate.{value_of, signal_value, gate_value, all_of, any_of, odd_of}
use Rattle.model.specs.Normal.{without, insert, sorted, uniq, opposed, and_some, and_wide, and_tidy, make_and_n, parity, cancel, xor_some, make_xor_n}
use Rattle.model.proofs.Words.{one_ref}
use Rattle.model.proofs.Lists.{by_keep, sorted_all, without_all, uniq_all, cancel_all}
use Rattle.model.proofs.Names.{Names, In, zero_names}
use Rattle.meaning.proofs.Values.{value_flip, Ok, ρ_zero, ρ_one, ρ_neg, ρ_plain, names_flip, names_plain, copy_ok, bool_ok, ok_is, and_ok, xor_ok, and3_ok, xor3_ok}

-- ---- a commutative monoid on Bool: And or Xor

pub record Monoid : Type 0 where
  pub op : Bool → Bool → Bool
  pub unit : Bool
  pub assoc : (a b c : Bool) → op (op a b) c ≡ op a (op b c)
  pub comm : (a b : Bool) → op a b ≡ op b a
  pub unitl : (a : Bool) → op unit a ≡ a

abbrev pub and_f : Monoid
and_f = record { op = ◌&&◌; unit = true; assoc = and_assoc; comm = and_comm; unitl = λ a. refl }

abbrev pub xor_f : Monoid
xor_f = record { op = xor; unit = false; assoc = xor_assoc; comm = xor_comm; unitl = λ a. refl }

abbrev pub val : Monoid → (ℕ → Bool) → List ℕ → Bool
val F ρ [] = F.unit
val F ρ (s ∷ l) = F.op (ρ s) (val F ρ l)

pub val_and : (ρ : ℕ → Bool) (l : List ℕ) → all_of (map ρ l) ≡ val and_f ρ l
val_and ρ [] = refl
val_and ρ (s ∷ l) = ap (λ b. ρ s && b) (val_and ρ l)

pub val_xor : (ρ : ℕ → Bool) (l : List ℕ) → odd_of (map ρ l) ≡ val xor_f ρ l
val_xor ρ [] = refl
val_xor ρ (s ∷ l) = ap (xor (ρ s)) (val_xor ρ l)

pub op_swap : (F : Monoid) (a b c : Bool) → F.op a (F.op b c) ≡ F.op b (F.op a c)
op_swap F a b c = sym (F.assoc a b c) ∙ ap (λ x. F.op x c) (F.comm a b) ∙ F.assoc b a c

pub unit_right : (F : Monoid) (a : Bool) → F.op a F.unit ≡ a
unit_right F a = F.comm a F.unit ∙ F.unitl a

module _ (F : Monoid) (ρ : ℕ → Bool) where
  insert_val : (x : ℕ) (l : List ℕ) → val F ρ (insert x l) ≡ F.op (ρ x) (val F ρ l)
  unfolding insert
  insert_val x [] = refl
  insert_val x (y ∷ l) =
      by_test (λ m. val F ρ m ≡ F.op (ρ x) (F.op (ρ y) (val F ρ l))) (leb x y) (λ e. refl)
      (λ e. ap (F.op (ρ y)) (insert_val x l) ∙ op_swap F (ρ y) (ρ x) (val F ρ l))

  sorted_val : (l : List ℕ) → val F ρ (sorted l) ≡ val F ρ l
  unfolding sorted
  sorted_val [] = refl
  sorted_val (x ∷ l) = insert_val x (sorted l) ∙ ap (F.op (ρ x)) (sorted_val l)

  -- dropping what has the unit's value
  without_val : (u : ℕ) (l : List ℕ) → ρ u ≡ F.unit → val F ρ (without u l) ≡ val F ρ l
  unfolding without
  without_val u [] h = refl
  without_val u (y ∷ l) h = elim (ℕ_discrete y u) [
    | yes e ↦ rw (eq-eqb y u e) (without_val u l h ∙ sym (ap (λ b. F.op b (val F ρ l)) (ap ρ e ∙ h) ∙ F.unitl (val F ρ l)))
    | no e ↦ rw (ne_eqb y u e) (ap (F.op (ρ y)) (without_val u l h))
  ]

uniq_val : (ρ : ℕ → Bool) (l : List ℕ) → val and_f ρ (uniq l) ≡ val and_f ρ l
unfolding uniq
uniq_val ρ [] = refl
uniq_val ρ (x ∷ []) = refl
uniq_val ρ (x ∷ y ∷ l) =
    by_keep (λ m. val and_f ρ m ≡ ρ x && (ρ y && val and_f ρ l)) x y x (uniq (y ∷ l))
    (λ e. uniq_val ρ (y ∷ l) ∙ taut2 (λ y l. y && l) (λ y l. y && (y && l)) tt (ρ y) (val and_f ρ l) ∙ cc)
    (λ e. ap (λ b. ρ x && b) (uniq_val ρ (y ∷ l)))

module _ (i v : ℕ → Bool) where
  opposed_val : (l : List ℕ) → opposed l ≡ true → val and_f (signal_value i v) l ≡ false
  unfolding opposed
  opposed_val [] h = cc
  opposed_val (x ∷ []) h = cc
  opposed_val (x ∷ y ∷ l) h = elim (ℕ_discrete x (neg y)) [
    | yes e ↦ cc (ρ_neg i v y) ∙ taut2 (λ y l. not y && (y && l)) (λ y l. false) tt (signal_value i v y) (val and_f (signal_value i v) l)
    | no e ↦ ap (λ b. signal_value i v x && b) (opposed_val (y ∷ l) (rw (ne_eqb x (neg y) e) at h)) ∙ taut1 (λ x. x && false) (λ x. false) tt (signal_value i v x)
  ]

  module _ (P : ℕ → Type 0) where
    and_some_ok : (x : ℕ) (l : List ℕ) (z : Bool) → Names P x → In P l → Ok i v P (xor z (signal_value i v x && val and_f (signal_value i v) l)) (and_some x l z)
    unfolding gate_value value_of kind_of and_some
    and_some_ok x [] z n h = copy_ok i v P (flip x z) _ (value_flip i v x z ∙ taut2 (λ z x. xor z x) (λ z x. xor z (x && true)) tt z (signal_value i v x)) (names_flip P x z n)
    and_some_ok x (y ∷ []) z n h =
        ok_is i v P _ _ _ (and_ok i v P x y z n h.0) (taut3 (λ z x y. xor z (x && y)) (λ z x y. xor z (x && (y && true))) tt z (signal_value i v x) (signal_value i v y))
    and_some_ok x (y ∷ w ∷ []) z n h =
        ok_is i v P _ _ _ (and3_ok i v P x y w z n h.0 h.1.0)
        (taut4 (λ z x y w. xor z (x && (y && w))) (λ z x y w. xor z (x && (y && (w && true)))) tt z (signal_value i v x) (signal_value i v y) (signal_value i v w))
    and_some_ok x (y ∷ w ∷ u ∷ l) z n h = record { value = ap (xor z) (val_and (signal_value i v) (x ∷ y ∷ w ∷ u ∷ l)); comb = refl; names = (n, h) }

    and_wide_ok : (l : List ℕ) (z : Bool) → In P l → Ok i v P (xor z (val and_f (signal_value i v) l)) (and_wide l z)
    unfolding and_wide
    and_wide_ok [] z h = copy_ok i v P (flip 1 z) _ (cc (value_flip i v 1 z, ρ_one i v)) (names_flip P 1 z (λ m e. zero_names one_ref e))
    and_wide_ok (x ∷ l) z h =
        by_eq (Ok i v P (xor z (val and_f (signal_value i v) (x ∷ l)))) x 0
        (λ e. bool_ok i v P z _ (taut1 (λ z. z) (λ z. xor z false) tt z ∙ cc (ρ_zero i v)))
        (λ e. and_some_ok x l z h.0 h.1)

    pub and_n_ok : (l : List ℕ) (z : Bool) → In P l → Ok i v P (xor z (val and_f (signal_value i v) l)) (make_and_n l z)
    unfolding make_and_n and_tidy
    and_n_ok l z h =
        let m = uniq (sorted (without 1 l)) in
        let same : val and_f (signal_value i v) m ≡ val and_f (signal_value i v) l =
        uniq_val (signal_value i v) (sorted (without 1 l)) ∙ sorted_val and_f (signal_value i v) (without 1 l) ∙ without_val and_f (signal_value i v) 1 l (ρ_one i v) in
        by_test (Ok i v P (xor z (val and_f (signal_value i v) l))) (opposed m)
        (λ e. bool_ok i v P z _ (taut1 (λ z. z) (λ z. xor z false) tt z ∙ ap (xor z) (sym (opposed_val m e) ∙ same)))
        (λ e. ok_is i v P _ _ _ (and_wide_ok m z (uniq_all (Names P) (sorted (without 1 l)) (sorted_all (Names P) (without 1 l) (without_all (Names P) 1 l h)))) (ap (xor z) same))

-- ---- Xor

cancel_val : (ρ : ℕ → Bool) (l : List ℕ) → val xor_f ρ (cancel l) ≡ val xor_f ρ l
unfolding cancel
cancel_val ρ [] = refl
cancel_val ρ (x ∷ []) = refl
cancel_val ρ (x ∷ y ∷ l) =
    by_eq (λ m. val xor_f ρ m ≡ xor (ρ x) (xor (ρ y) (val xor_f ρ l))) x y
    (λ e. cancel_val ρ l ∙ taut2 (λ y l. l) (λ y l. xor y (xor y l)) tt (ρ y) (val xor_f ρ l) ∙ cc)
    (λ e. ap (xor (ρ x)) (cancel_val ρ (y ∷ l)))

module _ (i v : ℕ → Bool) (P : ℕ → Type 0) where
  plain_val : (l : List ℕ) → val xor_f (signal_value i v) l ≡ xor (parity l) (val xor_f (signal_value i v) (map without_inversion l))
  unfolding parity
  plain_val [] = refl
  plain_val (s ∷ l) =
      ap₂ xor (ρ_plain i v s) (plain_val l)
      ∙ taut4 (λ a b c d. xor (xor a b) (xor c d)) (λ a b c d. xor (xor a c) (xor b d)) tt (is_inverted s) (signal_value i v (without_inversion s)) (parity l) (val xor_f (signal_value i v) (map without_inversion l))

  plain_in : (l : List ℕ) → In P l → In P (map without_inversion l)
  plain_in l = map_all (Names P) without_inversion l (names_plain P)

  xor_some_ok : (l : List ℕ) (z : Bool) → In P l → Ok i v P (xor z (val xor_f (signal_value i v) l)) (xor_some l z)
  unfolding gate_value value_of kind_of xor_some
  xor_some_ok [] z h = bool_ok i v P z _ (taut1 (λ z. z) (λ z. xor z false) tt z)
  xor_some_ok (x ∷ []) z h = copy_ok i v P (flip x z) _ (value_flip i v x z ∙ taut2 (λ z x. xor z x) (λ z x. xor z (xor x false)) tt z (signal_value i v x)) (names_flip P x z h.0)
  xor_some_ok (x ∷ y ∷ []) z h =
      ok_is i v P _ _ _ (xor_ok i v P x y z h.0 h.1.0) (taut3 (λ z x y. xor z (xor x y)) (λ z x y. xor z (xor x (xor y false))) tt z (signal_value i v x) (signal_value i v y))
  xor_some_ok (x ∷ y ∷ w ∷ []) z h =
      ok_is i v P _ _ _ (xor3_ok i v P x y w z h.0 h.1.0 h.1.1.0)
      (taut4 (λ z x y w. xor z (xor x (xor y w))) (λ z x y w. xor z (xor x (xor y (xor w false)))) tt z (signal_value i v x) (signal_value i v y) (signal_value i v w))
  xor_some_ok (x ∷ y ∷ w ∷ u ∷ l) z h = record { value = ap (xor z) (val_xor (signal_value i v) (x ∷ y ∷ w ∷ u ∷ l)); comb = refl; names = h }

  pub xor_n_ok : (l : List ℕ) (z : Bool) → In P l → Ok i v P (xor z (val xor_f (signal_value i v) l)) (make_xor_n l z)
  unfolding make_xor_n
  xor_n_ok l z h =
      let m = sorted (without 0 (map without_inversion l)) in
      let same : val xor_f (signal_value i v) (cancel m) ≡ val xor_f (signal_value i v) (map without_inversion l) =
      cancel_val (signal_value i v) m ∙ sorted_val xor_f (signal_value i v) (without 0 (map without_inversion l)) ∙ without_val xor_f (signal_value i v) 0 (map without_inversion l) (ρ_zero i v) in
      ok_is i v P _ _ _
      (xor_some_ok (cancel m) (xor (parity l) z)
      (cancel_all (Names P) m (sorted_all (Names P) (without 0 (map without_inversion l)) (without_all (Names P) 0 (map without_inversion l) (plain_in l h)))))
      (ap (xor (xor (parity l) z)) same
      ∙ taut3 (λ z p w. xor (xor p z) w) (λ z p w. xor z (xor p w)) tt z (parity l) (val xor_f (signal_value i v) (map without_inversion l))
      ∙ ap (xor z) (sym (plain_val l)))

  -- Or and Nor through And of the inverses
  pub neg_val : (l : List ℕ) → not (val and_f (signal_value i v) (map neg l)) ≡ any_of (map (signal_value i v) l)
  neg_val [] = refl
  neg_val (s ∷ l) =
      ap (λ b. not (b && val and_f (signal_value i v) (map neg l))) (ρ_neg i v s)
      ∙ taut2 (λ s m. not (not s && m)) (λ s m. s || not m) tt (signal_value i v s) (val and_f (signal_value i v) (map neg l))
      ∙ ap (λ b. signal_value i v s || b) (neg_val l)

  pub neg_in : (l : List ℕ) → In P l → In P (map neg l)
  neg_in l = map_all (Names P) neg l (λ s. names_flip P s true)
