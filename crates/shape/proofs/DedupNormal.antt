-- The form of a normalization: which signals it is made of, how many, and that a gate of it is shaped. Says nothing of values.
use mathlib.Core.Path.{◌≡◌, refl, sym, ap, ◌∙◌, subst}
use mathlib.Core.Logic.{◌⊎◌, inl, inr}
use Prim.Native.Nat.{ℕ, suc, ◌/◌, ◌≤◌}
use native.Mathlib.Omega.{arith}
use mathlib.Core.Bool.{Bool, true, false, not}
use mathlib.Core.List.{List, [], ◌∷◌, map}
use lib.ListN.{length, length-map}
use lib.Dec.{eqb, leb}
use Rattle.kinds.specs.Kinds.{kind_of, is_flip_flop}
use Rattle.kinds.specs.declared.Kind.{Kind}
use Rattle.kinds.specs.declared.Kind.TheVariants.{And2, Xor2, And3, Xor3, Maj, Mux, AndN, OrN, NandN, NorN, XorN, XnorN, Buf, Dff, Lut}
use Rattle.laws.specs.Bools.{xor}
use Rattle.laws.specs.Lists.{All}
use Rattle.laws.proofs.Choices.{by_bool, by_eq, by_or2, by_or3, by_test}
use Rattle.laws.proofs.Lists.{all_each, map_all}
use Rattle.model.specs.Signal.{is_inverted, word_of, flip, neg, without_inversion, from_bool}
use Rattle.model.specs.Gate.{Gate, is_lut, is_dff, fits_code, fits_table, shaped}
use Rattle.model.specs.Normal.{Norm, copied, made, gate_of, made2, made3, least, most, low3, mid3, high3, and_sorted, make_and, xor_sorted, make_xor, and3_sorted, make_and3, xor3_sorted, make_xor3, mux_plain, mux_select, make_mux, maj_plain, maj_sorted, make_maj, make_dff, keep, without, insert, sorted, uniq, opposed, and_some, and_wide, and_tidy, make_and_n, cancel, xor_some, make_xor_n, on1, on2, on3, normal_k, make_canonical}
use Rattle.model.specs.Network.{as_is}
use Rattle.model.proofs.Words.{flip_false, one_is}
use Rattle.model.proofs.Lists.{sorted_all, without_all, uniq_all, cancel_all}
use Rattle.shape.proofs.Shaped.{dff_kind, table_none}

-- a set of signals that has zero, and each signal with its inverse
pub record Closed (S : ℕ → Type 0) : Type 0 where
  pub has_zero : S 0
  pub has_flip : (s : ℕ) (b : Bool) → S s → S (flip s b)

-- a combinational gate of at most n inputs, all of them in S
pub record Fit (S : ℕ → Type 0) (n : ℕ) (g : Gate) : Type 0 where
  pub is_shaped : shaped g ≡ true
  pub comb : is_dff g ≡ false
  pub few : length g.ins ≤ n
  pub signals : All S g.ins

-- a signal of S, or such a gate
pub record Form (S : ℕ → Type 0) (n : ℕ) (nm : Norm) : Type 0 where
  pub copy : (s : ℕ) → nm ≡ copied s → S s
  pub gate : (g : Gate) (z : Bool) → nm ≡ made g z → Fit S n g

-- what a normalization must be for dedup to keep a network valid and sorted
pub record NormLaw (norm : Gate → Norm) : Type 1 where
  pub of_comb_lem : (S : ℕ → Type 0) → Closed S → (g : Gate) → shaped g ≡ true → is_dff g ≡ false → All S g.ins → Form S (length g.ins) (norm g)
  -- a flip-flop stays as it is, or becomes zero
  pub of_cell : (g : Gate) → shaped g ≡ true → is_dff g ≡ true → (norm g ≡ made g false) ⊎ (norm g ≡ copied 0)

no_gate_lem : {s : ℕ} {g : Gate} {z : Bool} {X : Type 0} → copied s ≡ made g z → X
no_gate_lem e = let z : ◌≡◌ {A = ℕ} 0 1 = cc in absurd (omega arith)

-- ---- lists that only lose or reorder their elements

-- at most n elements
record Short (n : ℕ) (l : List ℕ) : Type 0 where
  is : length l ≤ n

keep_short : (t : Bool) (y n : ℕ) (l : List ℕ) → length l ≤ n → length (keep t y l) ≤ suc n
keep_short true y n l h = omega arith
keep_short false y n l h = omega arith

insert_short : (x : ℕ) (l : List ℕ) → Short (suc (length l)) (insert x l)
unfolding insert
insert_short x [] = record { is = omega arith }
insert_short x (y ∷ l) =
    by_test (Short (suc (suc (length l)))) (leb x y) (λ e. record { is = omega arith }) (λ e. record { is = let h = (insert_short x l).is in omega arith })

sorted_short : (l : List ℕ) → length (sorted l) ≤ length l
unfolding sorted
sorted_short [] = omega arith
sorted_short (x ∷ l) = let h = (insert_short x (sorted l)).is in let k = sorted_short l in omega arith

without_short : (x : ℕ) (l : List ℕ) → length (without x l) ≤ length l
unfolding without
without_short x [] = omega arith
without_short x (y ∷ l) = keep_short (eqb y x) y (length l) (without x l) (without_short x l)

uniq_short : (l : List ℕ) → length (uniq l) ≤ length l
unfolding uniq
uniq_short [] = omega arith
uniq_short (x ∷ []) = omega arith
uniq_short (x ∷ y ∷ l) = keep_short (eqb x y) x (suc (length l)) (uniq (y ∷ l)) (uniq_short (y ∷ l))

cancel_short : (l : List ℕ) → Short (length l) (cancel l)
unfolding cancel
cancel_short [] = record { is = omega arith }
cancel_short (x ∷ []) = record { is = omega arith }
cancel_short (x ∷ y ∷ l) =
    by_test (Short (suc (suc (length l)))) (eqb x y)
    (λ e. record { is = let h = (cancel_short l).is in omega arith })
    (λ e. record { is = let h = (cancel_short (y ∷ l)).is in omega arith })

-- a signal without its inversion is the signal inverted or not
plain_flip : (s : ℕ) → without_inversion s ≡ flip s (is_inverted s)
unfolding without_inversion flip
plain_flip s = ap (word_of (s / 2)) (go (is_inverted s))
  where
    go : (b : Bool) → false ≡ xor b b
    go true = refl
    go false = refl

-- ---- the make_ functions

module _ (S : ℕ → Type 0) (k : Closed S) where
  plain_in : (s : ℕ) → S s → S (without_inversion s)
  plain_in s h = rw (plain_flip s) (k.has_flip s (is_inverted s) h)

  bool_in : (z : Bool) → S (from_bool z)
  bool_in z = k.has_flip 0 z k.has_zero

  one_in : S 1
  one_in = rw (← one_is) (k.has_flip 0 true k.has_zero)

  neg_all : (l : List ℕ) → All S l → All S (map neg l)
  neg_all l = map_all S neg l (λ s. k.has_flip s true)

  plain_all : (l : List ℕ) → All S l → All S (map without_inversion l)
  plain_all l = map_all S without_inversion l plain_in

  module _ (n : ℕ) where
    copy_form : (s : ℕ) → S s → Form S n (copied s)
    copy_form s h = record { copy = λ t e. let q : s ≡ t = cc in rw q at h; gate = λ g z e. no_gate_lem e }

    bool_form : (z : Bool) → Form S n (copied (from_bool z))
    bool_form z = copy_form (from_bool z) (bool_in z)

    gate_form : (g : Gate) (z : Bool) → Fit S n g → Form S n (made g z)
    gate_form g z f = record { copy = λ s e. no_gate_lem (sym e); gate = λ h y e. let q : g ≡ h = cc in subst (Fit S n) q f }

    least_in : (a b : ℕ) → S a → S b → S (least a b)
    unfolding least
    least_in a b p q = by_test S (leb a b) (λ e. p) (λ e. q)

    most_in : (a b : ℕ) → S a → S b → S (most a b)
    unfolding most
    most_in a b p q = by_test S (leb a b) (λ e. q) (λ e. p)

    module _ (two : 2 ≤ n) where
      and_sorted_form : (x y : ℕ) (z : Bool) → S x → S y → Form S n (and_sorted x y z)
      unfolding and_sorted made2 shaped fits_code fits_table kind_of
      and_sorted_form x y z p q =
          by_or2 (Form S n) x 0 x (neg y) (λ e. bool_form z) (λ e. bool_form z) (λ _ _.
          by_or2 (Form S n) x 1 x y (λ e. copy_form _ (k.has_flip y z q)) (λ e. copy_form _ (k.has_flip y z q)) (λ _ _.
          gate_form _ z (record { is_shaped = refl; comb = refl; few = two; signals = (p, (q, tt)) })))

      pub and_form : (a b : ℕ) (z : Bool) → S a → S b → Form S n (make_and a b z)
      unfolding make_and
      and_form a b z p q = and_sorted_form (least a b) (most a b) z (least_in a b p q) (most_in a b p q)

      xor_sorted_form : (x y : ℕ) (z : Bool) → S x → S y → Form S n (xor_sorted x y z)
      unfolding xor_sorted made2 shaped fits_code fits_table kind_of
      xor_sorted_form x y z p q =
          by_eq (Form S n) x 0 (λ e. copy_form _ (k.has_flip y z q)) (λ _.
          by_eq (Form S n) x y (λ e. bool_form z) (λ _.
          gate_form _ z (record { is_shaped = refl; comb = refl; few = two; signals = (p, (q, tt)) })))

      pub xor_form : (a b : ℕ) (z : Bool) → S a → S b → Form S n (make_xor a b z)
      unfolding make_xor
      xor_form a b z p q =
          let p' = plain_in a p in
          let q' = plain_in b q in
          xor_sorted_form _ _ _ (least_in _ _ p' q') (most_in _ _ p' q')

    low_in_lem : (a b c : ℕ) → S a → S b → S c → S (low3 a b c)
    unfolding low3
    low_in_lem a b c p q r = least_in a _ p (least_in b c q r)

    mid_in : (a b c : ℕ) → S a → S b → S c → S (mid3 a b c)
    unfolding mid3
    mid_in a b c p q r = least_in _ _ (most_in a _ p (least_in b c q r)) (most_in b c q r)

    high_in_lem : (a b c : ℕ) → S a → S b → S c → S (high3 a b c)
    unfolding high3
    high_in_lem a b c p q r = most_in _ _ (most_in a _ p (least_in b c q r)) (most_in b c q r)

    module _ (three : 3 ≤ n) where
      abbrev two : 2 ≤ n
      two = omega arith

      and3_sorted_form : (x y w : ℕ) (z : Bool) → S x → S y → S w → Form S n (and3_sorted x y w z)
      unfolding and3_sorted made3 shaped fits_code fits_table kind_of
      and3_sorted_form x y w z p q r =
          by_or3 (Form S n) x 0 x (neg y) w (neg y) (λ e. bool_form z) (λ e. bool_form z) (λ e. bool_form z) (λ _ _ _.
          by_or2 (Form S n) x 1 x y (λ e. and_form two y w z q r) (λ e. and_form two y w z q r) (λ _ _.
          by_eq (Form S n) y w (λ e. and_form two x y z p q) (λ _.
          gate_form _ z (record { is_shaped = refl; comb = refl; few = three; signals = (p, (q, (r, tt))) }))))

      pub and3_form : (a b c : ℕ) (z : Bool) → S a → S b → S c → Form S n (make_and3 a b c z)
      unfolding make_and3
      and3_form a b c z p q r = and3_sorted_form _ _ _ z (low_in_lem a b c p q r) (mid_in a b c p q r) (high_in_lem a b c p q r)

      xor3_sorted_form : (x y w : ℕ) (z : Bool) → S x → S y → S w → Form S n (xor3_sorted x y w z)
      unfolding xor3_sorted made3 shaped fits_code fits_table kind_of
      xor3_sorted_form x y w z p q r =
          by_eq (Form S n) x 0 (λ e. xor_form two y w z q r) (λ _.
          by_eq (Form S n) x y (λ e. copy_form _ (k.has_flip w z r)) (λ _.
          by_eq (Form S n) y w (λ e. copy_form _ (k.has_flip x z p)) (λ _.
          gate_form _ z (record { is_shaped = refl; comb = refl; few = three; signals = (p, (q, (r, tt))) }))))

      pub xor3_form : (a b c : ℕ) (z : Bool) → S a → S b → S c → Form S n (make_xor3 a b c z)
      unfolding make_xor3
      xor3_form a b c z p q r =
          let p' = plain_in a p in
          let q' = plain_in b q in
          let r' = plain_in c r in
          xor3_sorted_form _ _ _ _ (low_in_lem _ _ _ p' q' r') (mid_in _ _ _ p' q' r') (high_in_lem _ _ _ p' q' r')

      mux_plain_form : (s a b : ℕ) (z : Bool) → S s → S a → S b → Form S n (mux_plain s a b z)
      unfolding mux_plain made3 shaped fits_code fits_table kind_of
      mux_plain_form s a b z p q r =
          let ns = k.has_flip s true p in
          let na = k.has_flip a true q in
          let nb = k.has_flip b true r in
          let copied-b = copy_form (flip b z) (k.has_flip b z r) in
          let or-b = and_form two (neg s) (neg b) (not z) ns nb in
          let and-b = and_form two (neg s) b z ns r in
          let and-a = and_form two s a z p q in
          let or-a = and_form two s (neg a) (not z) p na in
          by_or2 (Form S n) s 0 a b (λ e. copied-b) (λ e. copied-b) (λ _ _.
          by_or2 (Form S n) s a a 1 (λ e. or-b) (λ e. or-b) (λ _ _.
          by_or2 (Form S n) s (neg a) a 0 (λ e. and-b) (λ e. and-b) (λ _ _.
          by_or2 (Form S n) s b b 0 (λ e. and-a) (λ e. and-a) (λ _ _.
          by_or2 (Form S n) s (neg b) b 1 (λ e. or-a) (λ e. or-a) (λ _ _.
          by_eq (Form S n) a (neg b) (λ e. xor_form two s b z p r) (λ _.
          gate_form _ z (record { is_shaped = refl; comb = refl; few = three; signals = (p, (q, (r, tt))) })))))))

      mux_select_form : (s a b : ℕ) (z : Bool) → S s → S a → S b → Form S n (mux_select s a b z)
      unfolding mux_select
      mux_select_form s a b z p q r =
          by_test (Form S n) (is_inverted b)
          (λ e. mux_plain_form s (neg a) (neg b) (not z) p (k.has_flip a true q) (k.has_flip b true r))
          (λ e. mux_plain_form s a b z p q r)

      pub mux_form : (s a b : ℕ) (z : Bool) → S s → S a → S b → Form S n (make_mux s a b z)
      unfolding make_mux
      mux_form s a b z p q r =
          by_test (Form S n) (is_inverted s) (λ e. mux_select_form (neg s) b a z (k.has_flip s true p) r q) (λ e. mux_select_form s a b z p q r)

      maj_plain_form : (x y w : ℕ) (z : Bool) → S x → S y → S w → Form S n (maj_plain x y w z)
      unfolding maj_plain made3 shaped fits_code fits_table kind_of
      maj_plain_form x y w z p q r =
          by_eq (Form S n) x 0 (λ e. and_form two y w z q r) (λ _.
          gate_form _ z (record { is_shaped = refl; comb = refl; few = three; signals = (p, (q, (r, tt))) }))

      maj_sorted_form : (x y w : ℕ) (z : Bool) → S x → S y → S w → Form S n (maj_sorted x y w z)
      unfolding maj_sorted
      maj_sorted_form x y w z p q r =
          let copied-w = copy_form (flip w z) (k.has_flip w z r) in
          let copied-x = copy_form (flip x z) (k.has_flip x z p) in
          by_or2 (Form S n) x (neg y) y w (λ e. copied-w) (λ e. copied-w) (λ _ _.
          by_or2 (Form S n) y (neg w) x y (λ e. copied-x) (λ e. copied-x) (λ _ _.
          by_test (Form S n) (is_inverted x)
          (λ e. maj_plain_form (neg x) (neg y) (neg w) (not z) (k.has_flip x true p) (k.has_flip y true q) (k.has_flip w true r))
          (λ e. maj_plain_form x y w z p q r)))

      pub maj_form : (a b c : ℕ) (z : Bool) → S a → S b → S c → Form S n (make_maj a b c z)
      unfolding make_maj
      maj_form a b c z p q r = maj_sorted_form _ _ _ z (low_in_lem a b c p q r) (mid_in a b c p q r) (high_in_lem a b c p q r)

    -- ---- any number of inputs

    and_some_form : (x : ℕ) (l : List ℕ) (z : Bool) → suc (length l) ≤ n → S x → All S l → Form S n (and_some x l z)
    unfolding and_some shaped fits_code fits_table kind_of
    and_some_form x [] z m p h = copy_form _ (k.has_flip x z p)
    and_some_form x (y ∷ []) z m p h = and_form m x y z p h.0
    and_some_form x (y ∷ w ∷ []) z m p h = and3_form m x y w z p h.0 h.1.0
    and_some_form x (y ∷ w ∷ u ∷ l) z m p h = gate_form _ z (record { is_shaped = refl; comb = refl; few = m; signals = (p, h) })

    and_wide_form : (l : List ℕ) (z : Bool) → length l ≤ n → All S l → Form S n (and_wide l z)
    unfolding and_wide
    and_wide_form [] z m h = copy_form _ (k.has_flip 1 z one_in)
    and_wide_form (x ∷ l) z m h = by_eq (Form S n) x 0 (λ e. bool_form z) (λ _. and_some_form x l z m h.0 h.1)

    pub and_n_form : (l : List ℕ) (z : Bool) → length l ≤ n → All S l → Form S n (make_and_n l z)
    unfolding make_and_n and_tidy
    and_n_form l z m h =
        let r = without 1 l in
        let few : length (uniq (sorted r)) ≤ n =
        (let a = uniq_short (sorted r) in let b = sorted_short r in let c = without_short 1 l in omega arith) in
        by_test (Form S n) (opposed (uniq (sorted r))) (λ e. bool_form z)
        (λ e. and_wide_form (uniq (sorted r)) z few (uniq_all S (sorted r) (sorted_all S r (without_all S 1 l h))))

    xor_some_form : (l : List ℕ) (z : Bool) → length l ≤ n → All S l → Form S n (xor_some l z)
    unfolding xor_some shaped fits_code fits_table kind_of
    xor_some_form [] z m h = bool_form z
    xor_some_form (x ∷ []) z m h = copy_form _ (k.has_flip x z h.0)
    xor_some_form (x ∷ y ∷ []) z m h = xor_form m x y z h.0 h.1.0
    xor_some_form (x ∷ y ∷ w ∷ []) z m h = xor3_form m x y w z h.0 h.1.0 h.1.1.0
    xor_some_form (x ∷ y ∷ w ∷ u ∷ l) z m h = gate_form _ z (record { is_shaped = refl; comb = refl; few = m; signals = h })

    pub xor_n_form : (l : List ℕ) (z : Bool) → length l ≤ n → All S l → Form S n (make_xor_n l z)
    unfolding make_xor_n
    xor_n_form l z m h =
        let p = map without_inversion l in
        let r = without 0 p in
        let few : length (cancel (sorted r)) ≤ n =
        (let a = (cancel_short (sorted r)).is in let b = sorted_short r in let c = without_short 0 p in let d = length-map l without_inversion in omega arith) in
        xor_some_form (cancel (sorted r)) _ few (cancel_all S (sorted r) (sorted_all S r (without_all S 0 p (plain_all l h))))

-- ---- the whole

module _ (S : ℕ → Type 0) (k : Closed S) where
  on1_form : (n : ℕ) (f : ℕ → Norm) (d : Norm) (l : List ℕ) → Form S n d → All S l → ((a : ℕ) → S a → Form S n (f a)) → Form S n (on1 f d l)
  on1_form n f d [] o h g = o
  on1_form n f d (a ∷ []) o h g = g a h.0
  on1_form n f d (a ∷ b ∷ l) o h g = o

  on2_form : (f : ℕ → ℕ → Norm) (d : Norm) (l : List ℕ) → Form S (length l) d → All S l → ((a b : ℕ) → S a → S b → Form S 2 (f a b)) → Form S (length l) (on2 f d l)
  on2_form f d [] o h g = o
  on2_form f d (a ∷ []) o h g = o
  on2_form f d (a ∷ b ∷ []) o h g = g a b h.0 h.1.0
  on2_form f d (a ∷ b ∷ c ∷ l) o h g = o

  on3_form : (f : ℕ → ℕ → ℕ → Norm) (d : Norm) (l : List ℕ) → Form S (length l) d → All S l → ((a b c : ℕ) → S a → S b → S c → Form S 3 (f a b c)) → Form S (length l) (on3 f d l)
  on3_form f d [] o h g = o
  on3_form f d (a ∷ []) o h g = o
  on3_form f d (a ∷ b ∷ []) o h g = o
  on3_form f d (a ∷ b ∷ c ∷ []) o h g = g a b c h.0 h.1.0 h.1.1.0
  on3_form f d (a ∷ b ∷ c ∷ e ∷ l) o h g = o

  normal_k_form : (t : Kind) (l : List ℕ) (same : Norm) → Form S (length l) same → is_flip_flop t ≡ false → All S l → Form S (length l) (normal_k t l same)
  unfolding normal_k
  normal_k_form And2 l s o e h = on2_form _ s l o h (λ a b. and_form S k 2 (omega arith) a b false)
  normal_k_form Xor2 l s o e h = on2_form _ s l o h (λ a b. xor_form S k 2 (omega arith) a b false)
  normal_k_form And3 l s o e h = on3_form _ s l o h (λ a b c. and3_form S k 3 (omega arith) a b c false)
  normal_k_form Xor3 l s o e h = on3_form _ s l o h (λ a b c. xor3_form S k 3 (omega arith) a b c false)
  normal_k_form Maj l s o e h = on3_form _ s l o h (λ a b c. maj_form S k 3 (omega arith) a b c false)
  normal_k_form Mux l s o e h = on3_form _ s l o h (λ a b c. mux_form S k 3 (omega arith) a b c false)
  normal_k_form AndN l s o e h = and_n_form S k (length l) l false (omega arith) h
  normal_k_form OrN l s o e h = and_n_form S k (length l) (map neg l) true (rw (length-map l neg) (omega arith)) (neg_all S k l h)
  normal_k_form NandN l s o e h = and_n_form S k (length l) l true (omega arith) h
  normal_k_form NorN l s o e h = and_n_form S k (length l) (map neg l) false (rw (length-map l neg) (omega arith)) (neg_all S k l h)
  normal_k_form XorN l s o e h = xor_n_form S k (length l) l false (omega arith) h
  normal_k_form XnorN l s o e h = xor_n_form S k (length l) l true (omega arith) h
  normal_k_form Buf l s o e h = on1_form (length l) _ s l o h (λ a. copy_form S k (length l) a)
  normal_k_form Dff l s o e h = let z : ◌≡◌ {A = ℕ} 0 1 = cc in absurd (omega arith)
  normal_k_form Lut l s o e h = o

-- a gate as it is
same_form : (S : ℕ → Type 0) (k : Closed S) (g : Gate) → shaped g ≡ true → is_dff g ≡ false → All S g.ins → Form S (length g.ins) (made g false)
same_form S k g s d h = gate_form S k (length g.ins) g false (record { is_shaped = s; comb = d; few = omega arith; signals = h })

-- ---- the two normalizations of dedup

pub as_is_law : NormLaw as_is
as_is_law = record { of_comb_lem = same_form; of_cell = λ g s d. inl refl }

-- flip-flops have no table: their gate is its kind and inputs
pub dff_is : (g : Gate) → shaped g ≡ true → is_dff g ≡ true → g ≡ gate_of Dff g.ins
dff_is g s d =
    let k : g.kind ≡ 13 = dff_kind g s d in
    let t : g.table ≡ 0 = table_none g s (ap is_lut k) in
    λ i. record { kind = k i; ins = g.ins; table = t i }

-- a flip-flop stays, or is zero
abbrev Cell : Norm → List ℕ → Type 0
Cell nm l = (nm ≡ made (gate_of Dff l) false) ⊎ (nm ≡ copied 0)

dff_cell : (l : List ℕ) → Cell (make_canonical (gate_of Dff l)) l
unfolding make_canonical normal_k kind_of make_dff made3
dff_cell [] = inl refl
dff_cell (a ∷ []) = inl refl
dff_cell (a ∷ b ∷ []) = inl refl
dff_cell (a ∷ b ∷ c ∷ e ∷ l) = inl refl
dff_cell (d ∷ en ∷ res ∷ []) = by_or3 Q d 0 en 0 res 1 (λ e. tied) (λ e. tied) (λ e. tied) (λ _ _ _. inl refl)
  where
    Q : Norm → Type 0
    Q nm = Cell nm (d ∷ en ∷ res ∷ [])

    tied : Q (copied (from_bool false))
    tied = inr (ap copied (flip_false 0))

pub canonical_law : NormLaw make_canonical
unfolding make_canonical
canonical_law = record {
  of_comb_lem = λ S k g s d h. normal_k_form S k (kind_of g.kind) g.ins (made g false) (same_form S k g s d h) d h;
  of_cell = λ g s d. let e = dff_is g s d in subst (λ (h : Gate). (make_canonical h ≡ made h false) ⊎ (make_canonical h ≡ copied 0)) (sym e) (dff_cell g.ins);
}

-- ---- what the law says of a gate that was made

-- everything is in it
abbrev Any : ℕ → Type 0
Any s = Unit {0}

any_closed : Closed Any
any_closed = record { has_zero = tt; has_flip = λ s b x. tt }

-- a combinational gate's normalization, or the flip-flop itself
pub data Made (g h : Gate) : Type 0 where
  gate : is_dff g ≡ false → Fit Any (length g.ins) h → Made g h
  cell : is_dff g ≡ true → h ≡ g → Made g h

module _ (norm : Gate → Norm) (law : NormLaw norm) (g : Gate) (s : shaped g ≡ true) where
  pub made_is : (h : Gate) (z : Bool) → norm g ≡ made h z → Made g h
  made_is h z q = by_bool (is_dff g) (λ e. go (law.of_cell g s e) e) (λ e. gate e ((law.of_comb_lem Any any_closed g s e (all_each Any g.ins (λ s. tt))).gate h z q))
    where
      go : (norm g ≡ made g false) ⊎ (norm g ≡ copied 0) → is_dff g ≡ true → Made g h
      go (inl r) e = cell e (cc)
      go (inr r) e = let z : ◌≡◌ {A = ℕ} 0 1 = cc in absurd (omega arith)

  -- no more inputs, and no combinational gate out of a flip-flop
  pub made_few : (h : Gate) (z : Bool) → norm g ≡ made h z → length h.ins ≤ length g.ins
  made_few h z q = go (made_is h z q)
    where
      go : Made g h → length h.ins ≤ length g.ins
      go (gate e f) = f.few
      go (cell e r) = rw r (omega arith)

  pub made_dff : (h : Gate) (z : Bool) → norm g ≡ made h z → is_dff h ≡ is_dff g
  made_dff h z q = go (made_is h z q)
    where
      go : Made g h → is_dff h ≡ is_dff g
      go (gate e f) = f.comb ∙ sym e
      go (cell e r) = ap is_dff r
