-- Each test of the model tells its line: 6 and 7.
use mathlib.Core.Path.{◌≡◌, refl, sym, ap, subst, ◌∙◌}
use mathlib.Core.Logic.{inl, inr, ⊎_elim}
use mathlib.Core.Bool.{Bool, true, false, ◌&&◌, ◌||◌}
use mathlib.Core.List.{List, [], ◌∷◌}
use Prim.Native.Nat.{ℕ, suc, ◌+◌, ◌-◌, ◌/◌, ◌%◌, ◌≤◌, ◌<◌}
use native.Mathlib.Omega.{arith}
use native.Mathlib.Nat.{add-zero}
use native.Mathlib.Decide.{ℕ_discrete, dec_lt}
use lib.ListN.{length, get_or}
use borrow.Author.Tests.{ltb-true, ltb-false, lt-ltb}
use Rattle.laws.proofs.Bools.{and_split, or_left, or_right}
use Rattle.laws.specs.Lists.{All}
use Rattle.laws.proofs.Choices.{by_bool, clash}
use Rattle.laws.proofs.Lists.{all_at}
use Rattle.model.specs.Signal.{Ref, rzero, rnode, rinput, ref, from_var, from_input}
use Rattle.model.specs.Gate.{Gate, Net, size, gate_at, no_gate, is_dff, shaped, named_ref, named, all_named, gates_named, wired, below_ref, all_below, sorted_from, is_topo_sorted}
use Rattle.model.specs.Image.{inputs_in, nodes_in, words_of, net_in, net_of}
use Rattle.model.proofs.Words.{constant_ref, var_ref, input_ref}
use Rattle.model.proofs.Named.{named_word, named_ref_lem, named_of}
use Rattle.model.proofs.Names.{Names, sorted}
use Rattle.shape.specs.Lines.{Spells, Present, constant, node, input, In, SignalOf, gate_input, output, Line6, Line7}
use Rattle.shape.proofs.Named.{Here, shaped_at, wired_ins, wired_outs}
use Rattle.shape.proofs.Walks.{length_gates}
use Rattle.shape.proofs.Accepted.{Within, Accepted}
use Rattle.shape.proofs.Shaped.{dff_kind, kind_dff}
use Rattle.shape.proofs.Valids.{valid_accepted}
use Rattle.shape.proofs.Told.{Tells}

-- ---- a signal's word

-- the word of an index, inverted or not
spelt : (w s : ℕ) → w % 2 ≡ 0 → s / 2 ≡ w / 2 → Spells w s
spelt w s e q = elim (ℕ_discrete (s % 2) 0) [ yes h ↦ inl (omega arith) | no h ↦ inr (omega arith) ]

spelt_ind : (w s : ℕ) → w % 2 ≡ 0 → Spells w s → s / 2 ≡ w / 2
spelt_ind w s e (inl q) = omega arith
spelt_ind w s e (inr q) = omega arith

module _ (i n s : ℕ) where
  -- what is named is present
  pub present : named i n s ≡ true → Present i n s
  present e = elim (dec_lt s 2) [
    | yes l ↦ constant (spelt 0 s refl (omega arith))
    | no l ↦ elim (dec_lt s 2147483648) [
      | yes m ↦
          let v = s / 2 - 1 in
          let r : named_ref i n (rnode v) ≡ true = rw (var_ref s (omega arith) m) at (named_ref_lem i n s e) in
          node v (ltb-true v n r) (spelt (from_var v) s (omega arith) (omega arith))
      | no m ↦
          let k = 2147483647 - s / 2 in
          let w : s < 4294967296 = named_word i n s e in
          let r : named_ref i n (rinput k) ≡ true = rw (input_ref s (omega arith)) at (named_ref_lem i n s e) in
          input k (ltb-true k i r) (spelt (from_input k) s (omega arith) (omega arith))
    ]
  ]

  -- what is present is named: the words of at most 1,024 inputs and 512 nodes differ
  pub present_named : i ≤ 1024 → n ≤ 512 → Present i n s → named i n s ≡ true
  present_named a b (constant p) =
      let d : s / 2 ≡ 0 = spelt_ind 0 s refl p in
      named_of i n s (omega arith) (rw (constant_ref s d))
  present_named a b (node v l p) =
      let d : s / 2 ≡ from_var v / 2 = spelt_ind (from_var v) s (omega arith) p in
      let q : s / 2 - 1 ≡ v = omega arith in
      named_of i n s (omega arith) (rw (var_ref s (omega arith) (omega arith), q) (lt-ltb v n l))
  present_named a b (input k l p) =
      let d : s / 2 ≡ from_input k / 2 = spelt_ind (from_input k) s (omega arith) p in
      let q : 2147483647 - s / 2 ≡ k = omega arith in
      named_of i n s (omega arith) (rw (input_ref s (omega arith), q) (lt-ltb k i l))

-- ---- lists

-- a place of a list where a test fails
record Fails {A : Type 0} (t : A → Bool) (l : List A) (d : A) : Type 0 where
  place : ℕ
  inside : place < length l
  fails : t (get_or l place d) ≡ false

-- a test of every element that fails, fails at one
module _ {A : Type 0} (d : A) (t : A → Bool) (all : List A → Bool) (nil : all [] ≡ true) (cons : (x : A) (l : List A) → all (x ∷ l) ≡ (t x && all l)) where
  some_one : (l : List A) → all l ≡ false → Fails t l d
  some_one [] e = clash nil e
  some_one (x ∷ l) e =
      ⊎_elim
      (λ (a : t x ≡ false). record { place = 0; inside = omega arith; fails = a })
      (λ (a : all l ≡ false).
      let r = some_one l a in
      record { place = suc r.place; inside = let k = r.inside in omega arith; fails = r.fails })
      (and_split (t x) (all l) (sym (cons x l) ∙ e))

-- what holds of every element holds of one that stands in the list
all_in : (P : ℕ → Type 0) (l : List ℕ) → All P l → (s : ℕ) → In s l → P s
all_in P l h s m = subst P m.there (all_at P l 0 h m.place m.inside)

standing : (l : List ℕ) (k : ℕ) → k < length l → In (get_or l k 0) l
standing l k m = record { place = k; inside = m; there = refl }

module _ (i n : ℕ) where
  named_nil : all_named i n [] ≡ true
  unfolding all_named
  named_nil = refl

  named_cons : (s : ℕ) (l : List ℕ) → all_named i n (s ∷ l) ≡ (named i n s && all_named i n l)
  unfolding all_named
  named_cons s l = refl

  gates_nil : gates_named i n [] ≡ true
  unfolding gates_named
  gates_nil = refl

  gates_cons : (g : Gate) (gs : List Gate) → gates_named i n (g ∷ gs) ≡ (all_named i n g.ins && gates_named i n gs)
  unfolding gates_named
  gates_cons g gs = refl

-- ---- 6

-- a signal of a network, and that nothing has its name
record Lost (N : Net) : Type 0 where
  it : ℕ
  used : SignalOf N it
  lost : named N.inputs (size N) it ≡ false

module _ (N : Net) where
  pub wired_each : wired N ≡ true → (s : ℕ) → SignalOf N s → named N.inputs (size N) s ≡ true
  wired_each e s (gate_input v l m) = all_in (Here N.inputs (size N)) (gate_at N v).ins (wired_ins N e v l) s m
  wired_each e s (output m) = all_in (Here N.inputs (size N)) N.outs (wired_outs N e) s m

  lost_one : wired N ≡ false → Lost N
  unfolding wired
  lost_one e =
      let i = N.inputs in
      let n = size N in
      let some = some_one 0 (named i n) (all_named i n) (named_nil i n) (named_cons i n) in
      ⊎_elim
      (λ (a : gates_named i n N.nodes ≡ false).
      let g = some_one no_gate (λ x. all_named i n x.ins) (gates_named i n) (gates_nil i n) (gates_cons i n) N.nodes a in
      let r = some (gate_at N g.place).ins g.fails in
      record {
        it = get_or (gate_at N g.place).ins r.place 0;
        used = gate_input g.place g.inside (standing (gate_at N g.place).ins r.place r.inside);
        lost = r.fails;
      })
      (λ (a : all_named i n N.outs ≡ false).
      let r = some N.outs a in
      record { it = get_or N.outs r.place 0; used = output (standing N.outs r.place r.inside); lost = r.fails })
      (and_split (gates_named i n N.nodes) (all_named i n N.outs) e)

size_net : (img : List ℕ) → size (net_of img) ≡ nodes_in img
unfolding net_of net_in
size_net img = length_gates (nodes_in img) (words_of img) 0

inputs_net : (img : List ℕ) → (net_of img).inputs ≡ inputs_in img
unfolding net_of net_in
inputs_net img = refl

named_net : (img : List ℕ) (s : ℕ) → named (net_of img).inputs (size (net_of img)) s ≡ named (inputs_in img) (nodes_in img) s
named_net img s = rw (size_net img, inputs_net img)

pub tells_6 : (img : List ℕ) → Within img → Tells (wired (net_of img)) (Line6 img)
tells_6 img w =
    record {
      clear =
          λ e l. l.absent
          (present (inputs_in img) (nodes_in img) l.signal (sym (named_net img l.signal) ∙ wired_each (net_of img) e l.signal l.used));
      met =
          λ e.
          let r = lost_one (net_of img) e in
          record {
            signal = r.it;
            used = r.used;
            absent =
                λ p. clash
                (present_named (inputs_in img) (nodes_in img) r.it w.inputs_few w.nodes_few p)
                (sym (named_net img r.it) ∙ r.lost);
          };
    }

-- ---- 7

-- what a signal names that is not below
record Reaches (b s : ℕ) : Type 0 where
  node_is : ℕ
  named_so : ref s ≡ rnode node_is
  above : b ≤ node_is

reaches : (b s : ℕ) → below_ref b (ref s) ≡ false → Reaches b s
reaches b s e = go (ref s) refl e
  where
    go : (r : Ref) → ref s ≡ r → below_ref b r ≡ false → Reaches b s
    go rzero q e = clash refl e
    go (rnode w) q e = record { node_is = w; named_so = q; above = ltb-false w b e }
    go (rinput k) q e = clash refl e

ref_spells : (s w : ℕ) → ref s ≡ rnode w → Spells (from_var w) s
ref_spells s w q = elim (dec_lt s 2) [
  | yes l ↦ let r : ref s ≡ rzero = constant_ref s (omega arith) in let z : ◌≡◌ {A = ℕ} 0 1 = cc in absurd (omega arith)
  | no l ↦ elim (dec_lt s 2147483648) [
    | yes m ↦
        let r : ref s ≡ rnode (s / 2 - 1) = var_ref s (omega arith) m in
        let d : w ≡ s / 2 - 1 = cc in
        spelt (from_var w) s (omega arith) (omega arith)
    | no m ↦
        let r : ref s ≡ rinput (2147483647 - s / 2) = input_ref s (omega arith) in
        let z : ◌≡◌ {A = ℕ} 0 1 = cc in
        absurd (omega arith)
  ]
]

spells_ref : (s w : ℕ) → w ≤ 512 → Spells (from_var w) s → ref s ≡ rnode w
spells_ref s w l p =
    let d : s / 2 ≡ from_var w / 2 = spelt_ind (from_var w) s (omega arith) p in
    let q : s / 2 - 1 ≡ w = omega arith in
    var_ref s (omega arith) (omega arith) ∙ ap rnode q

module _ (b : ℕ) where
  below_nil : all_below b [] ≡ true
  unfolding all_below
  below_nil = refl

  below_cons : (s : ℕ) (l : List ℕ) → all_below b (s ∷ l) ≡ (below_ref b (ref s) && all_below b l)
  unfolding all_below
  below_cons s l = refl

-- a gate is in its place: a flip-flop, or above what it names
abbrev in_place : ℕ → Gate → Bool
in_place v g = is_dff g || all_below v g.ins

record Misplaced (u : ℕ) (gs : List Gate) : Type 0 where
  at : ℕ
  inside : at < length gs
  misplaced : in_place (u + at) (get_or gs at no_gate) ≡ false

misplaced_one : (gs : List Gate) (u : ℕ) → sorted_from u gs ≡ false → Misplaced u gs
unfolding sorted_from
misplaced_one [] u e = clash refl e
misplaced_one (g ∷ gs) u e =
    ⊎_elim
    (λ (a : in_place u g ≡ false). record { at = 0; inside = omega arith; misplaced = rw add-zero a })
    (λ (a : sorted_from (suc u) gs ≡ false).
    let r = misplaced_one gs (suc u) a in
    let q : u + suc r.at ≡ suc u + r.at = omega arith in
    record { at = suc r.at; inside = let k = r.inside in omega arith; misplaced = rw q r.misplaced })
    (and_split (in_place u g) (sorted_from (suc u) gs) e)

module _ (img : List ℕ) (a : Accepted img) where
  gate_shaped : (v : ℕ) → v < nodes_in img → shaped (gate_at (net_of img) v) ≡ true
  gate_shaped v l = shaped_at (net_of img).nodes (valid_accepted img a).gates_shaped v (rw (size_net img) l)

  sorted_clear : is_topo_sorted (net_of img) ≡ true → ¬ Line7 img
  sorted_clear e l =
      let v = l.gate in
      let g = gate_at (net_of img) v in
      let n = l.named_is in
      let few = a.limits.nodes_few in
      let up = l.not_below in
      let r : ref l.signal ≡ rnode l.named = spells_ref l.signal l.named (omega arith) l.names in
      by_bool (is_dff g)
      (λ d. l.combinational (dff_kind g (gate_shaped v l.gate_is) d))
      (λ d.
      let k = all_in (Names (λ m. m < v)) g.ins (sorted (net_of img) e v (rw (size_net img) l.gate_is) d) l.signal l.used l.named r in
      omega arith)

  sorted_met : is_topo_sorted (net_of img) ≡ false → Line7 img
  unfolding is_topo_sorted
  sorted_met e =
      let m = misplaced_one (net_of img).nodes 0 e in
      let v = m.at in
      let g = gate_at (net_of img) v in
      let z : 0 + v ≡ v = omega arith in
      let p : in_place v g ≡ false = rw z at m.misplaced in
      let f = some_one 0 (λ x. below_ref v (ref x)) (all_below v) (below_nil v) (below_cons v) g.ins (or_right (is_dff g) (all_below v g.ins) p) in
      let s = get_or g.ins f.place 0 in
      let r = reaches v s f.fails in
      let u : In s g.ins = standing g.ins f.place f.inside in
      let n : named_ref (net_of img).inputs (size (net_of img)) (rnode r.node_is) ≡ true =
      rw r.named_so at (named_ref_lem (net_of img).inputs (size (net_of img)) s (wired_each (net_of img) a.wires s (gate_input v m.inside u))) in
      record {
        gate = v;
        gate_is = rw (size_net img) at m.inside;
        combinational = λ k. clash (kind_dff g k) (or_left (is_dff g) (all_below v g.ins) p);
        signal = s;
        used = u;
        named = r.node_is;
        named_is = rw (size_net img) at (ltb-true r.node_is (size (net_of img)) n);
        names = ref_spells s r.node_is r.named_so;
        not_below = r.above;
      }

  pub tells_7 : Tells (is_topo_sorted (net_of img)) (Line7 img)
  tells_7 = record { clear = sorted_clear; met = sorted_met }
