-- The value law of each make_ function: a normalization has its gate's value, is combinational, and names only what the gate names.
use mathlib.Core.Path.{◌≡◌, refl, sym, ap, ◌∙◌}
use Prim.Native.Nat.{ℕ}
use mathlib.Core.Bool.{Bool, true, false, not, cond, ◌&&◌, ◌||◌}
use Rattle.kinds.specs.Kinds.{kind_of, is_flip_flop}
use Rattle.laws.specs.Bools.{xor}
use Rattle.model.specs.Signal.{is_inverted, flip, neg, without_inversion, from_bool, rzero, ref}
use Rattle.model.specs.Evaluate.{value_of, ref_value, signal_value, gate_value}
use Rattle.model.specs.Normal.{Norm, copied, made, made2, made3, least, most, low3, mid3, high3, and_sorted, make_and, xor_sorted, make_xor, and3_sorted, make_and3, xor3_sorted, make_xor3, mux_plain, mux_select, make_mux, maj_plain, maj_sorted, make_maj, norm_value}
use Rattle.model.proofs.Words.{flip_ref, flip_inv, zero_ref, zero_inv, one_is, plain_ref, plain_inv}
use Rattle.model.proofs.Names.{Names, In, zero_names}
use Rattle.model.proofs.Order.{sort2_ok, sort3_ok}
use Rattle.laws.proofs.Choices.{by_eq, by_or, by_or3, by_test}
use Rattle.laws.proofs.Bools.{xor_false, xor_assoc, xor_comm, taut2, taut3, taut4, taut5, taut7}

pub value_flip : (i v : ℕ → Bool) (s : ℕ) (b : Bool) → signal_value i v (flip s b) ≡ xor b (signal_value i v s)
unfolding signal_value
value_flip i v s b =
    rw (flip_ref, flip_inv) (ap (λ c. xor c (ref_value i v (ref s))) (xor_comm (is_inverted s) b) ∙ xor_assoc b (is_inverted s) (ref_value i v (ref s)))

pub value_zero : (i v : ℕ → Bool) (s : ℕ) → ref s ≡ rzero → is_inverted s ≡ false → signal_value i v s ≡ false
unfolding signal_value
value_zero i v s e f = rw (e, f)

abbrev pub NormComb : Norm → Type 0
NormComb (copied s) = Unit
NormComb (made g b) = is_flip_flop (kind_of g.kind) ≡ false

abbrev pub NormIn : (ℕ → Type 0) → Norm → Type 0
NormIn P (copied s) = Names P s
NormIn P (made g b) = In P g.ins

module _ (i v : ℕ → Bool) where
  abbrev pub ρ : ℕ → Bool
  ρ s = signal_value i v s

  pub ρ_zero : ρ 0 ≡ false
  ρ_zero = value_zero i v 0 zero_ref zero_inv

  pub ρ_one : ρ 1 ≡ true
  ρ_one = ap ρ (sym one_is) ∙ value_flip i v 0 true ∙ ap not ρ_zero

  pub ρ_neg : (s : ℕ) → ρ (neg s) ≡ not (ρ s)
  ρ_neg s = value_flip i v s true

  pub ρ_bool : (b : Bool) → ρ (from_bool b) ≡ b
  ρ_bool b = value_flip i v 0 b ∙ ap (xor b) ρ_zero ∙ xor_false b

  pub ρ_plain : (s : ℕ) → ρ s ≡ xor (is_inverted s) (ρ (without_inversion s))
  unfolding signal_value
  ρ_plain s = rw (plain_ref s, plain_inv s)

-- a normalization that has value t, is combinational, and names what P allows
pub record Ok (i v : ℕ → Bool) (P : ℕ → Type 0) (t : Bool) (nm : Norm) : Type 0 where
  pub value : norm_value i v nm ≡ t
  pub comb : NormComb nm
  pub names : NormIn P nm

module _ (P : ℕ → Type 0) where
  pub names_flip : (s : ℕ) (b : Bool) → Names P s → Names P (flip s b)
  names_flip s b h m e = h m (sym (flip_ref s b) ∙ e)

  pub names_zero : Names P 0
  names_zero m e = zero_names zero_ref e

  pub names_plain : (s : ℕ) → Names P s → Names P (without_inversion s)
  names_plain s h m e = h m (sym (plain_ref s) ∙ e)

module _ (i v : ℕ → Bool) (P : ℕ → Type 0) where
  abbrev pub r : ℕ → Bool
  r s = signal_value i v s

  pub copy_ok : (s : ℕ) (t : Bool) → r s ≡ t → Names P s → Ok i v P t (copied s)
  copy_ok s t e n = record { value = e; comb = tt; names = n }

  pub bool_ok : (z t : Bool) → z ≡ t → Ok i v P t (copied (from_bool z))
  bool_ok z t e = copy_ok (from_bool z) t (ρ_bool i v z ∙ e) (names_flip P 0 z (names_zero P))

  pub ok_is : (t u : Bool) (nm : Norm) → Ok i v P t nm → t ≡ u → Ok i v P u nm
  ok_is t u nm k e = record { value = k.value ∙ e; comb = k.comb; names = k.names }

  and_sorted_ok : (x y : ℕ) (z : Bool) → Names P x → Names P y → Ok i v P (xor z (r x && r y)) (and_sorted x y z)
  unfolding gate_value value_of kind_of and_sorted made2
  and_sorted_ok x y z nx ny =
      by_or Q x 0 x (neg y)
      (λ e. bool_ok z _ (taut2 (λ z y. z) (λ z y. xor z (false && y)) tt z (r y) ∙ cc (ρ_zero i v)))
      (λ e. bool_ok z _ (taut2 (λ z y. z) (λ z y. xor z (not y && y)) tt z (r y) ∙ cc (ρ_neg i v y)))
      (by_or Q x 1 x y
      (λ e. copy_ok (flip y z) _ (cc (value_flip i v y z, ρ_one i v)) (names_flip P y z ny))
      (λ e. copy_ok (flip y z) _ (value_flip i v y z ∙ taut2 (λ z y. xor z y) (λ z y. xor z (y && y)) tt z (r y) ∙ cc) (names_flip P y z ny))
      (record { value = taut3 (λ z x y. xor z (x && (y && true))) (λ z x y. xor z (x && y)) tt z (r x) (r y); comb = refl; names = (nx, (ny, tt)) }))
    where
      Q : Norm → Type 0
      Q nm = Ok i v P (xor z (r x && r y)) nm

  -- two signals whose value by f is t
  record Sym2 (f : Bool → Bool → Bool) (t : Bool) (x y : ℕ) : Type 0 where
    is : f (r x) (r y) ≡ t
    nx : Names P x
    ny : Names P y

  sym2 : (f : Bool → Bool → Bool) → ((a b : Bool) → f b a ≡ f a b) → (a b : ℕ) → Names P a → Names P b → Sym2 f (f (r a) (r b)) (least a b) (most a b)
  sym2 f c a b na nb =
      sort2_ok (Sym2 f (f (r a) (r b))) a b (record { is = refl; nx = na; ny = nb }) (record { is = c (r a) (r b); nx = nb; ny = na })

  pub and_ok : (a b : ℕ) (z : Bool) → Names P a → Names P b → Ok i v P (xor z (r a && r b)) (make_and a b z)
  unfolding make_and
  and_ok a b z na nb =
      let s = sym2 ◌&&◌ (taut2 (λ a b. b && a) (λ a b. a && b) tt) a b na nb in
      ok_is _ _ _ (and_sorted_ok (least a b) (most a b) z s.nx s.ny) (ap (xor z) s.is)

  xor_sorted_ok : (x y : ℕ) (z : Bool) → Names P x → Names P y → Ok i v P (xor z (xor (r x) (r y))) (xor_sorted x y z)
  unfolding gate_value value_of kind_of xor_sorted made2
  xor_sorted_ok x y z nx ny =
      by_eq (Ok i v P (xor z (xor (r x) (r y)))) x 0
      (λ e. copy_ok (flip y z) _ (cc (value_flip i v y z, ρ_zero i v)) (names_flip P y z ny))
      (λ d. by_eq (Ok i v P (xor z (xor (r x) (r y)))) x y
      (λ e. bool_ok z _ (taut2 (λ z y. z) (λ z y. xor z (xor y y)) tt z (r y) ∙ cc))
      (λ d'. record { value = taut3 (λ z x y. xor z (xor x (xor y false))) (λ z x y. xor z (xor x y)) tt z (r x) (r y); comb = refl; names = (nx, (ny, tt)) }))

  pub xor_ok : (a b : ℕ) (z : Bool) → Names P a → Names P b → Ok i v P (xor z (xor (r a) (r b))) (make_xor a b z)
  unfolding make_xor
  xor_ok a b z na nb =
      let w = xor (xor (is_inverted a) (is_inverted b)) z in
      let fa = ρ_plain i v a in
      let fb = ρ_plain i v b in
      let s = sym2 xor (taut2 (λ a b. xor b a) (λ a b. xor a b) tt) (without_inversion a) (without_inversion b) (names_plain P a na) (names_plain P b nb) in
      ok_is _ _ _ (xor_sorted_ok (least (without_inversion a) (without_inversion b)) (most (without_inversion a) (without_inversion b)) w s.nx s.ny)
      (ap (xor w) s.is
      ∙ taut5 (λ z c d p q. xor (xor (xor c d) z) (xor p q)) (λ z c d p q. xor z (xor (xor c p) (xor d q))) tt z (is_inverted a) (is_inverted b) (r (without_inversion a)) (r (without_inversion b)) ∙ cc)

  mux_plain_ok : (s a b : ℕ) (z : Bool) → Names P s → Names P a → Names P b → Ok i v P (xor z (cond (r s) (r a) (r b))) (mux_plain s a b z)
  unfolding gate_value value_of kind_of mux_plain made3
  mux_plain_ok s a b z ns na nb =
      by_or Q s 0 a b
      (λ e. copy_ok (flip b z) _ (cc (value_flip i v b z, ρ_zero i v)) (names_flip P b z nb))
      (λ e. copy_ok (flip b z) _ (value_flip i v b z ∙ taut3 (λ z s b. xor z b) (λ z s b. xor z (cond s b b)) tt z (r s) (r b) ∙ cc) (names_flip P b z nb))
      (by_or Q s a a 1
      (λ e. ok_is _ _ _ (and_ok (neg s) (neg b) (not z) (names_flip P s true ns) (names_flip P b true nb))
      (cc (ρ_neg i v s, ρ_neg i v b) ∙ taut3 (λ z s b. xor (not z) (not s && not b)) (λ z s b. xor z (cond s s b)) tt z (r s) (r b) ∙ cc))
      (λ e. ok_is _ _ _ (and_ok (neg s) (neg b) (not z) (names_flip P s true ns) (names_flip P b true nb))
      (cc (ρ_neg i v s, ρ_neg i v b) ∙ taut3 (λ z s b. xor (not z) (not s && not b)) (λ z s b. xor z (cond s true b)) tt z (r s) (r b) ∙ cc (ρ_one i v)))
      (by_or Q s (neg a) a 0
      (λ e. ok_is _ _ _ (and_ok (neg s) b z (names_flip P s true ns) nb)
      (cc (ρ_neg i v s, ρ_neg i v a) ∙ taut3 (λ z a b. xor z (not (not a) && b)) (λ z a b. xor z (cond (not a) a b)) tt z (r a) (r b) ∙ cc (ρ_neg i v a)))
      (λ e. ok_is _ _ _ (and_ok (neg s) b z (names_flip P s true ns) nb)
      (cc (ρ_neg i v s) ∙ taut3 (λ z s b. xor z (not s && b)) (λ z s b. xor z (cond s false b)) tt z (r s) (r b) ∙ cc (ρ_zero i v)))
      (by_or Q s b b 0
      (λ e. ok_is _ _ _ (and_ok s a z ns na) (taut3 (λ z s a. xor z (s && a)) (λ z s a. xor z (cond s a s)) tt z (r s) (r a) ∙ cc))
      (λ e. ok_is _ _ _ (and_ok s a z ns na) (taut3 (λ z s a. xor z (s && a)) (λ z s a. xor z (cond s a false)) tt z (r s) (r a) ∙ cc (ρ_zero i v)))
      (by_or Q s (neg b) b 1
      (λ e. ok_is _ _ _ (and_ok s (neg a) (not z) ns (names_flip P a true na))
      (cc (ρ_neg i v a, ρ_neg i v b) ∙ taut3 (λ z a b. xor (not z) (not b && not a)) (λ z a b. xor z (cond (not b) a b)) tt z (r a) (r b) ∙ cc (ρ_neg i v b)))
      (λ e. ok_is _ _ _ (and_ok s (neg a) (not z) ns (names_flip P a true na))
      (cc (ρ_neg i v a) ∙ taut3 (λ z s a. xor (not z) (s && not a)) (λ z s a. xor z (cond s a true)) tt z (r s) (r a) ∙ cc (ρ_one i v)))
      (by_eq Q a (neg b)
      (λ e. ok_is _ _ _ (xor_ok s b z ns nb)
      (taut3 (λ z s b. xor z (xor s b)) (λ z s b. xor z (cond s (not b) b)) tt z (r s) (r b) ∙ cc (ρ_neg i v b)))
      (λ d. record { value = refl; comb = refl; names = (ns, (na, (nb, tt))) }))))))
    where
      Q : Norm → Type 0
      Q nm = Ok i v P (xor z (cond (r s) (r a) (r b))) nm

  mux_select_ok : (s a b : ℕ) (z : Bool) → Names P s → Names P a → Names P b → Ok i v P (xor z (cond (r s) (r a) (r b))) (mux_select s a b z)
  unfolding mux_select
  mux_select_ok s a b z ns na nb =
      by_test (Ok i v P (xor z (cond (r s) (r a) (r b)))) (is_inverted b)
      (λ e. ok_is _ _ _ (mux_plain_ok s (neg a) (neg b) (not z) ns (names_flip P a true na) (names_flip P b true nb))
      (cc (ρ_neg i v a, ρ_neg i v b) ∙ taut4 (λ z s a b. xor (not z) (cond s (not a) (not b))) (λ z s a b. xor z (cond s a b)) tt z (r s) (r a) (r b)))
      (λ e. mux_plain_ok s a b z ns na nb)

  pub mux_ok : (s a b : ℕ) (z : Bool) → Names P s → Names P a → Names P b → Ok i v P (xor z (cond (r s) (r a) (r b))) (make_mux s a b z)
  unfolding make_mux
  mux_ok s a b z ns na nb =
      by_test (Ok i v P (xor z (cond (r s) (r a) (r b)))) (is_inverted s)
      (λ e. ok_is _ _ _ (mux_select_ok (neg s) b a z (names_flip P s true ns) nb na)
      (cc (ρ_neg i v s) ∙ taut4 (λ z s a b. xor z (cond (not s) b a)) (λ z s a b. xor z (cond s a b)) tt z (r s) (r a) (r b)))
      (λ e. mux_select_ok s a b z ns na nb)

  -- three signals whose value by f is t
  record Sym (f : Bool → Bool → Bool → Bool) (t : Bool) (x y w : ℕ) : Type 0 where
    is : f (r x) (r y) (r w) ≡ t
    nx : Names P x
    ny : Names P y
    nw : Names P w

  sym3 : (f : Bool → Bool → Bool → Bool) → ((a b c : Bool) → f b a c ≡ f a b c) → ((a b c : Bool) → f a c b ≡ f a b c)
      → (a b c : ℕ) → Names P a → Names P b → Names P c → Sym f (f (r a) (r b) (r c)) (low3 a b c) (mid3 a b c) (high3 a b c)
  sym3 f f12 f23 a b c na nb nc =
      sort3_ok (Sym f (f (r a) (r b) (r c)))
      (λ x y w s. record { is = f12 (r x) (r y) (r w) ∙ s.is; nx = s.ny; ny = s.nx; nw = s.nw })
      (λ x y w s. record { is = f23 (r x) (r y) (r w) ∙ s.is; nx = s.nx; ny = s.nw; nw = s.ny })
      a b c (record { is = refl; nx = na; ny = nb; nw = nc })

  abbrev pub and3 : Bool → Bool → Bool → Bool
  and3 a b c = a && (b && c)

  abbrev pub xor3 : Bool → Bool → Bool → Bool
  xor3 a b c = xor a (xor b c)

  abbrev pub maj3 : Bool → Bool → Bool → Bool
  maj3 a b c = a && b || a && c || b && c

  and3_sorted_ok : (x y w : ℕ) (z : Bool) → Names P x → Names P y → Names P w → Ok i v P (xor z (and3 (r x) (r y) (r w))) (and3_sorted x y w z)
  unfolding gate_value value_of kind_of and3_sorted made3
  and3_sorted_ok x y w z nx ny nw =
      by_or3 Q x 0 x (neg y) w (neg y)
      (λ e. bool_ok z _ (taut3 (λ z y w. z) (λ z y w. xor z (and3 false y w)) tt z (r y) (r w) ∙ cc (ρ_zero i v)))
      (λ e. bool_ok z _ (taut3 (λ z y w. z) (λ z y w. xor z (and3 (not y) y w)) tt z (r y) (r w) ∙ cc (ρ_neg i v y)))
      (λ e. bool_ok z _ (taut3 (λ z y x. z) (λ z y x. xor z (and3 x y (not y))) tt z (r y) (r x) ∙ cc (ρ_neg i v y)))
      (λ d d2 d3. by_or Q x 1 x y
      (λ e. ok_is _ _ _ (and_ok y w z ny nw) (cc (ρ_one i v)))
      (λ e. ok_is _ _ _ (and_ok y w z ny nw) (taut3 (λ z y w. xor z (y && w)) (λ z y w. xor z (and3 y y w)) tt z (r y) (r w) ∙ cc))
      (by_eq Q y w
      (λ e. ok_is _ _ _ (and_ok x y z nx ny) (taut3 (λ z x y. xor z (x && y)) (λ z x y. xor z (and3 x y y)) tt z (r x) (r y) ∙ cc))
      (λ d'. record { value = taut4 (λ z x y w. xor z (x && (y && (w && true)))) (λ z x y w. xor z (and3 x y w)) tt z (r x) (r y) (r w); comb = refl; names = (nx, (ny, (nw, tt))) })))
    where
      Q : Norm → Type 0
      Q nm = Ok i v P (xor z (and3 (r x) (r y) (r w))) nm

  pub and3_ok : (a b c : ℕ) (z : Bool) → Names P a → Names P b → Names P c → Ok i v P (xor z (and3 (r a) (r b) (r c))) (make_and3 a b c z)
  unfolding make_and3
  and3_ok a b c z na nb nc =
      let s = sym3 and3 (taut3 (λ a b c. and3 b a c) and3 tt) (taut3 (λ a b c. and3 a c b) and3 tt) a b c na nb nc in
      ok_is _ _ _ (and3_sorted_ok (low3 a b c) (mid3 a b c) (high3 a b c) z s.nx s.ny s.nw) (ap (xor z) s.is)

  xor3_sorted_ok : (x y w : ℕ) (z : Bool) → Names P x → Names P y → Names P w → Ok i v P (xor z (xor3 (r x) (r y) (r w))) (xor3_sorted x y w z)
  unfolding gate_value value_of kind_of xor3_sorted made3
  xor3_sorted_ok x y w z nx ny nw =
      by_eq Q x 0
      (λ e. ok_is _ _ _ (xor_ok y w z ny nw) (cc (ρ_zero i v)))
      (λ d. by_eq Q x y
      (λ e. copy_ok (flip w z) _ (value_flip i v w z ∙ taut3 (λ z y w. xor z w) (λ z y w. xor z (xor3 y y w)) tt z (r y) (r w) ∙ cc) (names_flip P w z nw))
      (λ d'. by_eq Q y w
      (λ e. copy_ok (flip x z) _ (value_flip i v x z ∙ taut3 (λ z x w. xor z x) (λ z x w. xor z (xor3 x w w)) tt z (r x) (r w) ∙ cc) (names_flip P x z nx))
      (λ d''. record { value = taut4 (λ z x y w. xor z (xor x (xor y (xor w false)))) (λ z x y w. xor z (xor3 x y w)) tt z (r x) (r y) (r w); comb = refl; names = (nx, (ny, (nw, tt))) })))
    where
      Q : Norm → Type 0
      Q nm = Ok i v P (xor z (xor3 (r x) (r y) (r w))) nm

  pub xor3_ok : (a b c : ℕ) (z : Bool) → Names P a → Names P b → Names P c → Ok i v P (xor z (xor3 (r a) (r b) (r c))) (make_xor3 a b c z)
  unfolding make_xor3
  xor3_ok a b c z na nb nc =
      let u = xor (xor (xor (is_inverted a) (is_inverted b)) (is_inverted c)) z in
      let fa = ρ_plain i v a in
      let fb = ρ_plain i v b in
      let fc = ρ_plain i v c in
      let s = sym3 xor3 (taut3 (λ a b c. xor3 b a c) xor3 tt) (taut3 (λ a b c. xor3 a c b) xor3 tt) (without_inversion a) (without_inversion b) (without_inversion c)
      (names_plain P a na) (names_plain P b nb) (names_plain P c nc) in
      ok_is _ _ _ (xor3_sorted_ok (low3 (without_inversion a) (without_inversion b) (without_inversion c)) (mid3 (without_inversion a) (without_inversion b) (without_inversion c)) (high3 (without_inversion a) (without_inversion b) (without_inversion c)) u s.nx s.ny s.nw)
      (ap (xor u) s.is ∙ taut7 z (is_inverted a) (is_inverted b) (is_inverted c) (r (without_inversion a)) (r (without_inversion b)) (r (without_inversion c)) ∙ cc)

  maj_plain_ok : (x y w : ℕ) (z : Bool) → Names P x → Names P y → Names P w → Ok i v P (xor z (maj3 (r x) (r y) (r w))) (maj_plain x y w z)
  unfolding gate_value value_of kind_of maj_plain made3
  maj_plain_ok x y w z nx ny nw =
      by_eq (Ok i v P (xor z (maj3 (r x) (r y) (r w)))) x 0
      (λ q. ok_is _ _ _ (and_ok y w z ny nw) (taut3 (λ z y w. xor z (y && w)) (λ z y w. xor z (maj3 false y w)) tt z (r y) (r w) ∙ cc (ρ_zero i v)))
      (λ d. record { value = refl; comb = refl; names = (nx, (ny, (nw, tt))) })

  maj_sorted_ok : (x y w : ℕ) (z : Bool) → Names P x → Names P y → Names P w → Ok i v P (xor z (maj3 (r x) (r y) (r w))) (maj_sorted x y w z)
  unfolding maj_sorted
  maj_sorted_ok x y w z nx ny nw =
      by_or Q x (neg y) y w
      (λ e. copy_ok (flip w z) _ (value_flip i v w z ∙ taut3 (λ z y w. xor z w) (λ z y w. xor z (maj3 (not y) y w)) tt z (r y) (r w) ∙ cc (ρ_neg i v y)) (names_flip P w z nw))
      (λ e. copy_ok (flip w z) _ (value_flip i v w z ∙ taut3 (λ z x w. xor z w) (λ z x w. xor z (maj3 x w w)) tt z (r x) (r w) ∙ cc) (names_flip P w z nw))
      (by_or Q y (neg w) x y
      (λ e. copy_ok (flip x z) _ (value_flip i v x z ∙ taut3 (λ z x w. xor z x) (λ z x w. xor z (maj3 x (not w) w)) tt z (r x) (r w) ∙ cc (ρ_neg i v w)) (names_flip P x z nx))
      (λ e. copy_ok (flip x z) _ (value_flip i v x z ∙ taut3 (λ z x w. xor z x) (λ z x w. xor z (maj3 x x w)) tt z (r x) (r w) ∙ cc) (names_flip P x z nx))
      (by_test Q (is_inverted x)
      (λ e. ok_is _ _ _ (maj_plain_ok (neg x) (neg y) (neg w) (not z) (names_flip P x true nx) (names_flip P y true ny) (names_flip P w true nw))
      (cc (ρ_neg i v x, ρ_neg i v y, ρ_neg i v w) ∙ taut4 (λ z x y w. xor (not z) (maj3 (not x) (not y) (not w))) (λ z x y w. xor z (maj3 x y w)) tt z (r x) (r y) (r w)))
      (λ e. maj_plain_ok x y w z nx ny nw)))
    where
      Q : Norm → Type 0
      Q nm = Ok i v P (xor z (maj3 (r x) (r y) (r w))) nm

  pub maj_ok : (a b c : ℕ) (z : Bool) → Names P a → Names P b → Names P c → Ok i v P (xor z (maj3 (r a) (r b) (r c))) (make_maj a b c z)
  unfolding make_maj
  maj_ok a b c z na nb nc =
      let s = sym3 maj3 (taut3 (λ a b c. maj3 b a c) maj3 tt) (taut3 (λ a b c. maj3 a c b) maj3 tt) a b c na nb nc in
      ok_is _ _ _ (maj_sorted_ok (low3 a b c) (mid3 a b c) (high3 a b c) z s.nx s.ny s.nw) (ap (xor z) s.is)
