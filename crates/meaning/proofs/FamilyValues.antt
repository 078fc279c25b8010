-- What flatten and factor share: the values of And and Xor gates at once, and networks that keep the numbers of their nodes.
use mathlib.Core.Path.{◌≡◌, refl, sym, ap, ap₂, ◌∙◌}
use Prim.Native.Nat.{ℕ, zero, suc, ◌-◌, ◌/◌, ◌≤◌, ◌<◌}
use native.Mathlib.Omega.{arith}
use mathlib.Core.Bool.{Bool, true, false, not}
use mathlib.Core.List.{List, [], ◌∷◌, ◌++◌, map}
use lib.Dec.{ltb}
use Rattle.kinds.specs.Kinds.{kind_of, in_family, wide_of}
use Rattle.kinds.specs.declared.Kind.{Kind}
use Rattle.kinds.specs.declared.Kind.TheVariants.{And2, Xor2, And3, Xor3, Maj, Mux, AndN, OrN, NandN, NorN, XorN, XnorN, Buf, Dff, Lut}
use Rattle.kinds.specs.declared.Family.{Family}
use Rattle.kinds.specs.declared.Family.TheVariants.{And, Xor}
use Rattle.laws.proofs.Bools.{true_false}
use Rattle.laws.proofs.Choices.{by_bool}
use Rattle.model.specs.Signal.{Ref, rzero, rnode, rinput, flip, ref_ix, ref, from_var, remap_order, remap_ref}
use Rattle.model.specs.Gate.{Gate, Net, Valid, is_dff, gate_at, size, is_topo_sorted}
use Rattle.model.specs.Normal.{gate_of}
use Rattle.model.specs.Evaluate.{value_of, signal_value, gate_value, Consistent, evaluate, Eval, Solves, run_by, run, all_zero}
use Rattle.model.specs.Sharing.{Pair, inside, pair_gate, retain}
use Rattle.model.proofs.Words.{word_parts, node_inv}
use Rattle.model.proofs.Names.{sorted, wired_ins, wired_out}
use Rattle.model.proofs.Forward.{evaluate_sorted}
use Rattle.shape.proofs.Sort.{sorted_ranked}
use Rattle.meaning.proofs.NaryValues.{Monoid, and_f, xor_f, val, val_and, val_xor, op_swap, unit_right}
use Rattle.meaning.proofs.Valuations.{value_node}
use Rattle.meaning.proofs.Simulation.{kept, Carries, same_run}

-- ---- a family's value of a list of signals

abbrev pub monoid_of : Family → Monoid
monoid_of And = and_f
monoid_of Xor = xor_f

module _ (F : Monoid) (ρ : ℕ → Bool) where
  pub val_append : (a b : List ℕ) → val F ρ (a ++ b) ≡ F.op (val F ρ a) (val F ρ b)
  val_append [] b = sym (F.unitl (val F ρ b))
  val_append (x ∷ a) b = ap (F.op (ρ x)) (val_append a b) ∙ sym (F.assoc (ρ x) (val F ρ a) (val F ρ b))

  -- what a test keeps and what it leaves have together the list's value
  pub val_retain : (t : ℕ → Bool) (l : List ℕ) → F.op (val F ρ (retain (λ x. not (t x)) l)) (val F ρ (retain t l)) ≡ val F ρ l
  unfolding retain
  val_retain t [] = F.unitl F.unit
  val_retain t (x ∷ l) =
      let a = val F ρ (retain (λ y. not (t y)) l) in
      let c = val F ρ (retain t l) in
      by_bool (t x)
      (λ e. rw e (op_swap F a (ρ x) c ∙ ap (F.op (ρ x)) (val_retain t l)))
      (λ e. rw e (F.assoc (ρ x) a c ∙ ap (F.op (ρ x)) (val_retain t l)))

-- ---- its gates

value_of_kind : (k : Kind) (f : Family) (ρ : ℕ → Bool) (l : List ℕ) (t : ℕ) → in_family k f ≡ true → value_of k (map ρ l) t ≡ val (monoid_of f) ρ l
unfolding value_of
value_of_kind And2 And ρ l t e = val_and ρ l
value_of_kind And2 Xor ρ l t e = true_false (sym e)
value_of_kind Xor2 And ρ l t e = true_false (sym e)
value_of_kind Xor2 Xor ρ l t e = val_xor ρ l
value_of_kind And3 And ρ l t e = val_and ρ l
value_of_kind And3 Xor ρ l t e = true_false (sym e)
value_of_kind Xor3 And ρ l t e = true_false (sym e)
value_of_kind Xor3 Xor ρ l t e = val_xor ρ l
value_of_kind Maj f ρ l t e = true_false (sym e)
value_of_kind Mux f ρ l t e = true_false (sym e)
value_of_kind AndN And ρ l t e = val_and ρ l
value_of_kind AndN Xor ρ l t e = true_false (sym e)
value_of_kind OrN f ρ l t e = true_false (sym e)
value_of_kind NandN f ρ l t e = true_false (sym e)
value_of_kind NorN f ρ l t e = true_false (sym e)
value_of_kind XorN And ρ l t e = true_false (sym e)
value_of_kind XorN Xor ρ l t e = val_xor ρ l
value_of_kind XnorN f ρ l t e = true_false (sym e)
value_of_kind Buf f ρ l t e = true_false (sym e)
value_of_kind Dff f ρ l t e = true_false (sym e)
value_of_kind Lut f ρ l t e = true_false (sym e)

-- a gate of the family has the family's value of its inputs
pub value_of_family : (f : Family) (i v : ℕ → Bool) (g : Gate) → inside f g ≡ true → gate_value i v g ≡ val (monoid_of f) (signal_value i v) g.ins
unfolding gate_value
value_of_family f i v g e = value_of_kind (kind_of g.kind) f (signal_value i v) g.ins g.table e

pub wide_inside : (f : Family) (l : List ℕ) → inside f (gate_of (wide_of f) l) ≡ true
unfolding kind_of
wide_inside And l = refl
wide_inside Xor l = refl

pub pair_inside : (f : Family) (p : Pair) → inside f (pair_gate f p) ≡ true
unfolding kind_of
pair_inside And p = refl
pair_inside Xor p = refl

pub value_of_pair : (f : Family) (i v : ℕ → Bool) (p : Pair)
    → gate_value i v (pair_gate f p) ≡ (monoid_of f).op (signal_value i v p.fst) (signal_value i v p.snd)
value_of_pair f i v p =
    let ρ = signal_value i v in
    value_of_family f i v (pair_gate f p) (pair_inside f p) ∙ ap ((monoid_of f).op (ρ p.fst)) (unit_right (monoid_of f) (ρ p.snd))

-- ---- networks that keep the numbers of their nodes: the translation is the identity

node_index : (k w : ℕ) → ref_ix k ≡ rnode w → k ≡ suc w
unfolding ref_ix
node_index zero w e = let z : ◌≡◌ {A = ℕ} 0 1 = cc in omega arith
node_index (suc k) w e = by_bool (ltb k 1073741823)
    (λ b. let f : rnode k ≡ rnode w = rw b at e in cc)
    (λ b. let f : rinput (2147483646 - k) ≡ rnode w = rw b at e in let z : ◌≡◌ {A = ℕ} 0 1 = cc in omega arith)

pub remap_same : (s : ℕ) → remap_order from_var s ≡ s
unfolding remap_order ref flip
remap_same s = go (ref s) refl
  where
    go : (r : Ref) → ref s ≡ r → remap_ref from_var r s ≡ s
    go rzero e = refl
    go (rnode w) e =
        let k : s / 2 ≡ suc w = node_index (s / 2) w e in
        let n : from_var w / 2 ≡ s / 2 = omega arith in
        rw (n, node_inv w) (word_parts s)
    go (rinput k) e = refl

pub remaps_same : (l : List ℕ) → map (remap_order from_var) l ≡ l
remaps_same [] = refl
remaps_same (s ∷ l) = ap₂ ◌∷◌ (remap_same s) (remaps_same l)

-- every old combinational node has its old gate's value, every old flip-flop is as it was, and the outputs are
module _ (N N' : Net) (ok : Valid N) (small : size N' < 1073741824) (more : size N ≤ size N') (outs : N'.outs ≡ N.outs)
    (comb : (n : ℕ) → n < size N → is_dff (gate_at N n) ≡ false → (i st v : ℕ → Bool) → Consistent N' i st v → v n ≡ gate_value i v (gate_at N n))
    (cell : (n : ℕ) → n < size N → is_dff (gate_at N n) ≡ true → gate_at N' n ≡ gate_at N n) where
  numbers_carry : Carries N N' from_var (λ n. n < size N)
  numbers_carry = record {
    small = small;
    inside = λ n h. h;
    comb = λ n h e i st v c.
        value_node i v n (omega arith)
        ∙ comb n h e i st v c
        ∙ ap (λ l. gate_value i v (record { kind = (gate_at N n).kind; ins = l; table = (gate_at N n).table })) (sym (remaps_same (gate_at N n).ins));
    cell = λ n h e. kept n (omega arith) refl (ap is_dff (cell n h e) ∙ e) (ap (λ (g : Gate). g.ins) (cell n h e) ∙ sym (remaps_same (gate_at N n).ins));
    cell_ins = λ n h e. wired_ins N ok.signals n h;
    outs = outs ∙ sym (remaps_same N.outs);
    outs_in = wired_out N ok.signals;
  }

  -- THE SAME OUTPUTS in every cycle from any state, by any valuation of the new network
  pub numbers_run : is_topo_sorted N ≡ true → (ev : Eval) → Solves N' ev → (st : ℕ → Bool) (is : List (List Bool)) → run N st is ≡ run_by N' ev st is
  numbers_run srt ev s st is =
      same_run N N' from_var (λ n. n < size N) numbers_carry (sorted_ranked N (sorted N srt)) (evaluate N) ev (evaluate_sorted N srt) s is st st
      (λ n h e. value_node all_zero st n (omega arith))
