-- A gate's normal form has the gate's value; a flip-flop's is itself, or zero where it never leaves zero.
use mathlib.Core.Path.{◌≡◌, refl, sym, ap, subst, ◌∙◌}
use mathlib.Core.Logic.{◌⊎◌, inl, inr}
use Prim.Native.Nat.{ℕ}
use mathlib.Core.Bool.{Bool, true, false, not, cond, ◌&&◌}
use mathlib.Core.List.{List, [], ◌∷◌, map}
use lib.ListN.{length}
use lib.Dec.{eqb, ltb}
use Rattle.kinds.specs.Kinds.{kind_of, is_flip_flop}
use Rattle.kinds.specs.declared.Kind.{Kind}
use Rattle.kinds.specs.declared.Kind.TheVariants.{And2, Xor2, And3, Xor3, Maj, Mux, AndN, OrN, NandN, NorN, XorN, XnorN, Buf, Dff, Lut}
use Rattle.laws.specs.Bools.{xor}
use Rattle.laws.proofs.Bools.{true_false, and_right, taut1, taut2, taut3}
use Rattle.laws.proofs.Lists.{all_each, by_three}
use Rattle.laws.proofs.Choices.{by_or3}
use Rattle.model.specs.Signal.{neg, from_bool}
use Rattle.model.specs.Gate.{Gate, is_dff, fits_code, shaped}
use Rattle.model.specs.Evaluate.{value_of, next_state, signal_value, gate_value, all_of, odd_of}
use Rattle.model.specs.Normal.{Norm, copied, made, gate_of, made3, make_dff, on1, on2, on3, normal_k, make_canonical, norm_value}
use Rattle.model.proofs.Words.{flip_false}
use Rattle.model.proofs.Names.{Names, In}
use Rattle.shape.proofs.Shaped.{dff_kind, shaped_code}
use Rattle.shape.proofs.DedupNormal.{dff_is}
use Rattle.meaning.proofs.Values.{Ok, ρ_zero, ρ_one, copy_ok, ok_is, and_ok, xor_ok, mux_ok, and3_ok, xor3_ok, maj_ok}
use Rattle.meaning.proofs.NaryValues.{and_f, val, val_and, val_xor, and_n_ok, xor_n_ok, neg_val, neg_in}

module _ (i v : ℕ → Bool) (P : ℕ → Type 0) where
  abbrev q : ℕ → Bool
  q s = signal_value i v s

  on1_ok : (f : ℕ → Norm) (d : Norm) (T : List ℕ → Bool) (l : List ℕ) → In P l
      → Ok i v P (T l) d → ((a : ℕ) → Names P a → Ok i v P (T (a ∷ [])) (f a)) → Ok i v P (T l) (on1 f d l)
  on1_ok f d T [] h k g = k
  on1_ok f d T (a ∷ []) h k g = g a h.0
  on1_ok f d T (a ∷ b ∷ l) h k g = k

  on2_ok : (f : ℕ → ℕ → Norm) (d : Norm) (T : List ℕ → Bool) (l : List ℕ) → In P l
      → Ok i v P (T l) d → ((a b : ℕ) → Names P a → Names P b → Ok i v P (T (a ∷ b ∷ [])) (f a b)) → Ok i v P (T l) (on2 f d l)
  on2_ok f d T [] h k g = k
  on2_ok f d T (a ∷ []) h k g = k
  on2_ok f d T (a ∷ b ∷ []) h k g = g a b h.0 h.1.0
  on2_ok f d T (a ∷ b ∷ c ∷ l) h k g = k

  on3_ok : (f : ℕ → ℕ → ℕ → Norm) (d : Norm) (T : List ℕ → Bool) (l : List ℕ) → In P l
      → Ok i v P (T l) d → ((a b c : ℕ) → Names P a → Names P b → Names P c → Ok i v P (T (a ∷ b ∷ c ∷ [])) (f a b c)) → Ok i v P (T l) (on3 f d l)
  on3_ok f d T [] h k g = k
  on3_ok f d T (a ∷ []) h k g = k
  on3_ok f d T (a ∷ b ∷ []) h k g = k
  on3_ok f d T (a ∷ b ∷ c ∷ []) h k g = g a b c h.0 h.1.0 h.1.1.0
  on3_ok f d T (a ∷ b ∷ c ∷ e ∷ l) h k g = k

  pub normal_k_ok : (k : Kind) (l : List ℕ) (t : ℕ) (same : Norm) → Ok i v P (value_of k (map q l) t) same → is_flip_flop k ≡ false → In P l
      → Ok i v P (value_of k (map q l) t) (normal_k k l same)
  unfolding normal_k value_of
  normal_k_ok And2 l t s o e h = on2_ok _ _ (λ l. all_of (map q l)) l h o
      (λ a b na nb. ok_is i v P _ _ _ (and_ok i v P a b false na nb) (taut2 (λ a b. a && b) (λ a b. a && (b && true)) tt (q a) (q b)))
  normal_k_ok Xor2 l t s o e h = on2_ok _ _ (λ l. odd_of (map q l)) l h o
      (λ a b na nb. ok_is i v P _ _ _ (xor_ok i v P a b false na nb) (taut2 (λ a b. xor a b) (λ a b. xor a (xor b false)) tt (q a) (q b)))
  normal_k_ok And3 l t s o e h = on3_ok _ _ (λ l. all_of (map q l)) l h o
      (λ a b c na nb nc. ok_is i v P _ _ _ (and3_ok i v P a b c false na nb nc) (taut3 (λ a b c. a && (b && c)) (λ a b c. a && (b && (c && true))) tt (q a) (q b) (q c)))
  normal_k_ok Xor3 l t s o e h = on3_ok _ _ (λ l. odd_of (map q l)) l h o
      (λ a b c na nb nc. ok_is i v P _ _ _ (xor3_ok i v P a b c false na nb nc) (taut3 (λ a b c. xor a (xor b c)) (λ a b c. xor a (xor b (xor c false))) tt (q a) (q b) (q c)))
  normal_k_ok Maj l t s o e h = on3_ok _ _ (λ l. value_of Maj (map q l) t) l h o (λ a b c na nb nc. maj_ok i v P a b c false na nb nc)
  normal_k_ok Mux l t s o e h = on3_ok _ _ (λ l. value_of Mux (map q l) t) l h o (λ a b c na nb nc. mux_ok i v P a b c false na nb nc)
  normal_k_ok AndN l t s o e h = ok_is i v P _ _ _ (and_n_ok i v P l false h) (sym (val_and q l))
  normal_k_ok OrN l t s o e h = ok_is i v P _ _ _ (and_n_ok i v P (map neg l) true (neg_in i v P l h)) (neg_val i v P l)
  normal_k_ok NandN l t s o e h = ok_is i v P _ _ _ (and_n_ok i v P l true h) (ap not (sym (val_and q l)))
  normal_k_ok NorN l t s o e h = ok_is i v P _ _ _ (and_n_ok i v P (map neg l) false (neg_in i v P l h))
      (taut1 (λ a. a) (λ a. not (not a)) tt (val and_f q (map neg l)) ∙ ap not (neg_val i v P l))
  normal_k_ok XorN l t s o e h = ok_is i v P _ _ _ (xor_n_ok i v P l false h) (sym (val_xor q l))
  normal_k_ok XnorN l t s o e h = ok_is i v P _ _ _ (xor_n_ok i v P l true h) (ap not (sym (val_xor q l)))
  normal_k_ok Buf l t s o e h = on1_ok _ _ (λ l. value_of Buf (map q l) t) l h o (λ a na. copy_ok i v P a _ refl na)
  normal_k_ok Dff l t s o e h = true_false e
  normal_k_ok Lut l t s o e h = o

  -- THE VALUE LAW: a combinational gate's normal form has the gate's value, is combinational, and names what the gate names
  pub canonical_ok : (g : Gate) → is_dff g ≡ false → In P g.ins → Ok i v P (gate_value i v g) (make_canonical g)
  unfolding gate_value make_canonical
  canonical_ok g e h = normal_k_ok (kind_of g.kind) g.ins g.table (made g false) (record { value = refl; comb = e; names = h }) e h

-- THE VALUE: under every valuation, a combinational gate's normal form has the gate's value
pub value_of_canonical : (i v : ℕ → Bool) (g : Gate) → is_dff g ≡ false → norm_value i v (make_canonical g) ≡ gate_value i v g
value_of_canonical i v g e = (canonical_ok i v (λ n. Unit) g e (all_each (Names (λ n. Unit)) g.ins (λ s m q. tt))).value

-- ---- flip-flops

-- a flip-flop that never leaves zero
abbrev pub Stuck : List ℕ → Type 0
Stuck l = (i v : ℕ → Bool) → next_state (map (signal_value i v) l) false ≡ false

-- make_dff: a flip-flop stays as it is, or is zero and stuck there
pub dff_cell : (d en res : ℕ) → (make_dff d en res false ≡ made3 Dff d en res false) ⊎ ((make_dff d en res false ≡ copied 0) × Stuck (d ∷ en ∷ res ∷ []))
unfolding make_dff next_state
dff_cell d en res =
    by_or3 Q d 0 en 0 res 1
    (λ e. inr (zero, λ i v. cc (ρ_zero i v) ∙ taut2 (λ b c. cond b (cond c false false) false) (λ b c. false) tt (signal_value i v en) (signal_value i v res)))
    (λ e. inr (zero, λ i v. cc (ρ_zero i v)))
    (λ e. inr (zero, λ i v. cc (ρ_one i v) ∙ taut1 (λ b. cond b false false) (λ b. false) tt (signal_value i v en)))
    (λ a b c. inl refl)
  where
    Q : Norm → Type 0
    Q nm = (nm ≡ made3 Dff d en res false) ⊎ ((nm ≡ copied 0) × Stuck (d ∷ en ∷ res ∷ []))

    zero : copied (from_bool false) ≡ copied 0
    zero = ap copied (flip_false 0)

abbrev Cell : Gate → Type 0
Cell g = is_dff g ≡ true → (make_canonical g ≡ made g false) ⊎ ((make_canonical g ≡ copied 0) × Stuck g.ins)

dff_shaped : (l : List ℕ) → eqb (length l) 3 ≡ true → Cell (gate_of Dff l)
unfolding make_canonical normal_k kind_of made3
dff_shaped l e = by_three (λ l. Cell (gate_of Dff l)) l e (λ d en res f. dff_cell d en res)

-- THE FLIP-FLOP: its normal form is itself, or zero, and then its state never leaves zero
pub flip_flop_of_canonical : (g : Gate) → shaped g ≡ true → Cell g
unfolding fits_code kind_of
flip_flop_of_canonical g e d =
    let k = dff_kind g e d in
    let three : eqb (length g.ins) 3 ≡ true = and_right (ltb 13 15) _ (rw k at (shaped_code g e)) in
    subst Cell (sym (dff_is g e d)) (dff_shaped g.ins three) d
