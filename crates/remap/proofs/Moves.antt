-- The laws of remap as the code meets them: a gate's inputs, a gate, the gates of the order, the outputs.
use Prim.Native.Nat.{ℕ, zero, suc, ◌+◌, ◌*◌, ◌^◌, ◌≤◌, ◌<◌}
use mathlib.Core.Path.{◌≡◌, refl, sym, ap, ap₂, fun_ext, subst, ◌∙◌}
use mathlib.Core.Bool.{true}
use mathlib.Core.List.{List, [], ◌∷◌, ◌++◌}
use native.Mathlib.Nat.{le_antisymm}
use native.Mathlib.Omega.{arith}
use native.Mathlib.Numerals.{add-one}
use native.Mathlib.Decide.{dec_lt}
use lib.ListN.{length}
use mir.Val.{Fits}
use mir.Syntax.{w32, w64}
use Rattle.laws.specs.Lists.{tab}
use Rattle.laws.proofs.Tabs.{map_tab}
use Rattle.model.specs.Signal.{is_var, remap_order}
use Rattle.model.specs.Gate.{Gate, remap_gate}
use Rattle.shape.proofs.Wires.{var_low}
use Rattle.tables.specs.Layout.{net_size, span, kind_at, first_at, count_at, input_at, ins_at, low_at, high_at, output_at, gate_at, put_input, put_gate, put_table, put_output, cell, tr_base, order_base}
use Rattle.tables.specs.Building.{put_inputs, put_node, put_outputs}
use Rattle.tables.specs.declared.counts.Counts.{Counts}
use Rattle.shape.proofs.Written.{gate_eq}
use Rattle.tables.proofs.Building.{put_inputs_next, cell_put_inputs, length_put_node, cell_put_node, nodes_of_none, nodes_of_put_node, packed_none, packed_put_node, put_outputs_next, cell_put_outputs}
use Rattle.translation.specs.Tables.{outputs_by}
use Rattle.remap.specs.Remapping.{inputs_by, Copying, Placing, Put, inputs_of, Mapping, gate_by, Moving, Mapped, OutMapping}

-- ---- one signal

pub node_low : (s : ℕ) → is_var s ≡ true → 2 ≤ s
node_low s h = var_low s h

-- ---- the inputs of a gate

pub copy_none : (l : List ℕ) (at : ℕ) (f : ℕ → ℕ) → l ≡ put_inputs l at f 0
unfolding put_inputs
copy_none l at f = refl

module _ (from l : List ℕ) (f at n : ℕ) (C : Copying from l f at n) (e : List ℕ) (j : ℕ) (I : (j ≤ n) × (length e ≡ length l) × (e ≡ put_inputs l at (inputs_by from (cell l tr_base) f) j)) where
  pub copy_done : n ≤ j → e ≡ put_inputs l at (inputs_by from (cell l tr_base) f) n
  copy_done h = I.2 ∙ ap (put_inputs l at (inputs_by from (cell l tr_base) f)) (le_antisymm I.0 h)

  module _ (h : j < n) where
    pub copy_read : Fits w64 (f + j)
    copy_read = record { fits = omega (arith, C.fits) }

    pub copy_input : (f + j < 2048) × (net_size ≤ length from)
    copy_input = (omega (arith, C.fits), C.long)

    pub copy_turn : span ≤ length e
    copy_turn = rw I.1 C.room

    pub copy_put : Fits w64 (at + j)
    copy_put = record { fits = omega (arith, C.into) }

    pub copy_place : (at + j < 2048) × (net_size ≤ length e)
    copy_place = (omega (arith, C.into), omega (arith, copy_turn))

    pub copy_next : (s x : ℕ) (e' : List ℕ) → s ≡ input_at from (f + j) → x ≡ remap_order (cell e tr_base) s → length e' ≡ length e → e' ≡ put_input e (at + j) x
        → (j + 1 ≤ n) × (length e' ≡ length l) × (e' ≡ put_inputs l at (inputs_by from (cell l tr_base) f) (j + 1))
    unfolding inputs_by
    copy_next s x e' y z k w =
        let into = C.into in
        let q = I.2 in
        let same : cell e tr_base ≡ cell l tr_base = fun_ext (λ v.
        ap (λ (a : List ℕ). cell a tr_base v) q ∙ cell_put_inputs l at (inputs_by from (cell l tr_base) f) j tr_base v (omega arith) (omega arith)) in
        let x-is : x ≡ remap_order (cell l tr_base) (input_at from (f + j)) = z ∙ ap₂ remap_order same y in (
          omega arith,
          k ∙ I.1,
          rw (add-one j) (w ∙ ap (λ (a : List ℕ). put_input a (at + j) x) q ∙ put_inputs_next l at (inputs_by from (cell l tr_base) f) j x x-is),
        )

-- ---- a gate

module _ (from l : List ℕ) (c : Counts) (v k at : ℕ) (P : Placing from l c v k at) where
  -- what reading the node asks
  pub place_read : (v < 512) × (net_size ≤ length from)
  place_read = (omega (arith, P.node, P.ok.few), P.ok.long)

  pub place_at_lem : Fits w32 at
  place_at_lem = record { fits = omega (arith, P.into) }

  -- what writing the node asks
  pub place_room : (n : ℕ) → n ≡ length l → (k < 512) × (net_size ≤ n)
  place_room n e = (P.place, omega (arith, P.room))

  module _ (n : ℕ) (q : n ≡ count_at from v) where
    pub place_copy : (f : ℕ) → f ≡ first_at from v → Copying from l f at n
    place_copy f p = record {
      long = P.ok.long;
      room = P.room;
      fits = rw (p, q) (P.ok.ends v P.node);
      into = rw q P.into;
    }

    pub place_count : Fits w32 n
    place_count = record { fits = omega (arith, P.into) }

    pub place_sum : Fits w64 (at + n)
    place_sum = record { fits = omega (arith, P.into) }

    module _ (f kind lo hi : ℕ) (p : f ≡ first_at from v) (x : kind ≡ kind_at from v) (y : lo ≡ low_at from v) (z : hi ≡ high_at from v) where
      pub place_done : (l1 l2 l3 : List ℕ) → l1 ≡ put_inputs l at (inputs_by from (cell l tr_base) f) n → l2 ≡ put_gate l1 k kind at n → l3 ≡ put_table l2 k lo hi
          → Put from l l3 v k at (at + n)
      unfolding put_node
      place_done l1 l2 l3 a b d = record { words = d ∙ rw (b, a, p, q, x, y, z); next = rw q }

-- ---- the gates of the order

inputs_of_next : (from l : List ℕ) (k : ℕ) → inputs_of from l (suc k) ≡ inputs_of from l k + count_at from (cell l order_base k)
unfolding inputs_of
inputs_of_next from l k = refl

inputs_of_step : (from l : List ℕ) (k m : ℕ) → k < m → inputs_of from l k + count_at from (cell l order_base k) ≤ inputs_of from l m
inputs_of_step from l k zero h = absurd (omega arith)
inputs_of_step from l k (suc m) h = elim (dec_lt k m) [
  | yes q ↦ omega (arith, inputs_of_step from l k m q, inputs_of_next from l m)
  | no q ↦ (let e : k ≡ m = omega arith in rw e (omega (arith, inputs_of_next from l m)))
]

pub move_none : (from l : List ℕ) (c : Counts) (m : ℕ) → Mapping from l c m → Moving from l l 0 0
unfolding tab inputs_of
move_none from l c m M = record {
  room = M.room;
  packed = packed_none l (let r = M.room in omega arith);
  nodes = nodes_of_none l;
  free = refl;
  tables = λ b j h. refl;
}

-- the gate that is put is the one in `from`, put through the mapping
gate_moved : (from : List ℕ) (t : ℕ → ℕ) (v : ℕ)
    → record { kind = kind_at from v; ins = tab (inputs_by from t (first_at from v)) (count_at from v); table = low_at from v + 2 ^ 32 * high_at from v } ≡ remap_gate t (gate_at from v)
unfolding inputs_by gate_at ins_at
gate_moved from t v = gate_eq refl (sym (map_tab (remap_order t) (λ j. input_at from (first_at from v + j)) (count_at from v))) refl

module _ (from l : List ℕ) (c : Counts) (m : ℕ) (M : Mapping from l c m) (e : List ℕ) (k at : ℕ) (K : Moving from l e k at) (h : k < m) where
  pub move_order : 5184 + k < length e
  move_order = let r = K.room in let few = M.few in omega arith

  module _ (v : ℕ) (w : v ≡ cell e order_base k) where
    v_is : v ≡ cell l order_base k
    v_is = w ∙ K.tables order_base k (omega arith)

    into : at + count_at from v ≤ 2048
    into = rw (K.free, v_is) (let i = M.into in omega (arith, inputs_of_step from l k m h))

    pub move_place : Placing from e c v k at
    move_place =
        let few = M.few in
        record { ok = M.ok; room = K.room; node = rw v_is (M.named k h); place = omega arith; into = into }

    pub move_next : (e' : List ℕ) (r : ℕ) → Put from e e' v k at r → Moving from l e' (k + 1) r
    unfolding tab gate_by
    move_next e' r P =
        let few = M.few in
        let low : k < 512 = omega arith in
        let f : ℕ → ℕ = inputs_by from (cell e tr_base) (first_at from v) in
        let t-is : cell e tr_base ≡ cell l tr_base = fun_ext (λ j. K.tables tr_base j (omega arith)) in
        let gate : record { kind = kind_at from v; ins = tab f (count_at from v); table = low_at from v + 2 ^ 32 * high_at from v } ≡ remap_gate (cell l tr_base) (gate_at from (cell l order_base k)) =
        gate_moved from (cell e tr_base) v ∙ ap₂ (λ (t : ℕ → ℕ) (x : ℕ). remap_gate t (gate_at from x)) t-is v_is in
        let len = length_put_node e k (kind_at from v) at f (count_at from v) (low_at from v) (high_at from v) in
        let room = K.room in
        rw (add-one k)
        (record {
          room = rw P.words (omega arith);
          packed = rw (P.words, P.next) (packed_put_node e k at K.packed (kind_at from v) f (count_at from v) (low_at from v) (high_at from v) low into);
          nodes = rw P.words
              (nodes_of_put_node e k at K.packed (kind_at from v) f (count_at from v) (low_at from v) (high_at from v) low into
              ∙ ap₂ (λ (a : List Gate) (g : Gate). a ++ (g ∷ [])) K.nodes gate);
          free = P.next ∙ ap₂ (λ (a b : ℕ). a + count_at from b) K.free v_is ∙ sym (inputs_of_next from l k);
          tables = λ b j x. rw P.words (cell_put_node e k (kind_at from v) at f (count_at from v) (low_at from v) (high_at from v) low into b j x) ∙ K.tables b j x;
        })

pub move_done : (from l e : List ℕ) (m k at : ℕ) → Moving from l e k at → k ≤ m → m ≤ k → Mapped from l e m
move_done from l e m k at K a b =
    let z : k ≡ m = omega arith in
    let f : at ≡ inputs_of from l m = K.free ∙ ap (inputs_of from l) z in
    record { moved = subst (λ (x : ℕ). Moving from l e m x) f (subst (λ (x : ℕ). Moving from l e x at) z K) }

-- ---- the outputs

pub out_none : (l : List ℕ) (f : ℕ → ℕ) → l ≡ put_outputs l f 0
unfolding put_outputs
out_none l f = refl

module _ (from l : List ℕ) (o : ℕ) (O : OutMapping from l o) (e : List ℕ) (j : ℕ) (I : (j ≤ o) × (length e ≡ length l) × (e ≡ put_outputs l (outputs_by from (cell l tr_base)) j)) where
  pub out_done : o ≤ j → e ≡ put_outputs l (outputs_by from (cell l tr_base)) o
  out_done h = I.2 ∙ ap (put_outputs l (outputs_by from (cell l tr_base))) (le_antisymm I.0 h)

  module _ (h : j < o) where
    pub out_read : (j < 64) × (net_size ≤ length from)
    out_read = (omega (arith, O.few), O.long)

    pub out_turn : span ≤ length e
    out_turn = rw I.1 O.room

    pub out_place : (j < 64) × (net_size ≤ length e)
    out_place = (omega (arith, O.few), omega (arith, out_turn))

    pub out_next : (s x : ℕ) (e' : List ℕ) → s ≡ output_at from j → x ≡ remap_order (cell e tr_base) s → length e' ≡ length e → e' ≡ put_output e j x
        → (j + 1 ≤ o) × (length e' ≡ length l) × (e' ≡ put_outputs l (outputs_by from (cell l tr_base)) (j + 1))
    unfolding outputs_by
    out_next s x e' y z k w =
        let few = O.few in
        let q = I.2 in
        let same : cell e tr_base ≡ cell l tr_base = fun_ext (λ v.
        ap (λ (a : List ℕ). cell a tr_base v) q ∙ cell_put_outputs l (outputs_by from (cell l tr_base)) j tr_base v (omega arith) (omega arith)) in
        let x-is : x ≡ remap_order (cell l tr_base) (output_at from j) = z ∙ ap₂ remap_order same y in (
          omega arith,
          k ∙ I.1,
          rw (add-one j) (w ∙ ap (λ (a : List ℕ). put_output a j x) q ∙ put_outputs_next l (outputs_by from (cell l tr_base)) j x x-is),
        )
