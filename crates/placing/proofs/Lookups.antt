-- One old node: its inputs gathered, normalized in the list, settled.
use Prim.Native.Nat.{ℕ, ◌+◌, ◌-◌, ◌*◌, ◌^◌, ◌≤◌, ◌<◌}
use mathlib.Core.Path.{◌≡◌, refl, sym, ap, ap₂, ◌∙◌}
use mathlib.Core.Bool.{Bool, true, false}
use mathlib.Core.List.{List, [], ◌∷◌, ◌++◌, map, append-nil}
use native.Mathlib.Omega.{arith}
use native.Mathlib.Decide.{dec_le}
use lib.ListN.{length, get_or, take, drop, length-map, length-drop, length-append, get_or-append}
use lib.Seq.{take_all, drop_at, drop-length, length-take-le, get_or-take}
use borrow.Rule.Slice.PartMut.{put_mid, Post-is}
use lib.Dec.{ltb}
use borrow.Author.Tests.{eqb-true, ltb-true}
use Rattle.laws.proofs.Bools.{and_left, and_right}
use Rattle.laws.proofs.Choices.{by_bool}
use Rattle.kinds.specs.Kinds.{kind_of, code_of}
use Rattle.kinds.specs.declared.Kind.{Kind}
use Rattle.kinds.specs.declared.Kind.TheVariants.{Lut}
use Rattle.kinds.proofs.Codes.{code_kind}
use Rattle.model.specs.Gate.{Gate, is_lut, fits_kind, fits_code, fits_table, shaped}
use Rattle.model.specs.Normal.{Norm, made, gate_of, normal_k, make_canonical}
use Rattle.model.specs.Network.{Work, dedup_node}
use Rattle.tables.specs.Layout.{net_size, tr_base, kind_at, first_at, count_at, low_at, high_at, ins_at, gate_at, cell}
use Rattle.tables.proofs.Places.{Agree}
use Rattle.tables.proofs.Holding.{length_ins_at}
use Rattle.gates.specs.declared.Normalization.{Normalization}
use Rattle.gates.specs.declared.Normalization.TheVariants.{Copy, Node}
use Rattle.gates.specs.Normals.{normal_of, Shaped}
use Rattle.shape.proofs.DedupNormal.{NormLaw, as_is_law, canonical_law, made_few}
use Rattle.shape.proofs.DedupSweep.{shaped_remap}
use Rattle.same_gate.specs.Listed.{list_base}
use Rattle.translation.specs.Tables.{tr_of}
use Rattle.translation.proofs.Translated.{tr_of_same}
use Rattle.placing.specs.Lists.{looked_up, gathered, norm_of, with_table, count_of, Gathers}
use Rattle.lookup.specs.Chains.{head_base, link_base}
use Rattle.placing.specs.States.{work_of, Settles, Asks, Did, asked_gate}
use Rattle.placing.specs.declared.Built.{Built}
use Rattle.placing.proofs.Areas.{length_gathered, cell_gathered, listed_gathered}
use Rattle.placing.proofs.Standing.{stands_agree, chained_agree, nodes_of_agree, work≡}

-- dedup's two normalizations keep their law
pub norm_law : (c : Bool) → NormLaw (norm_of c)
norm_law true = canonical_law
norm_law false = as_is_law

-- ---- the table of a gate

-- by kind and inputs, without the table
abbrev bare : Gate → Gate
bare g = gate_of (kind_of g.kind) g.ins

no_table : (r : Normalization) (l : List ℕ) → with_table 0 (normal_of r l) ≡ normal_of r l
unfolding normal_of
no_table (Copy s) l = refl
no_table (Node k n z) l = refl

gate_code : (g : Gate) → shaped g ≡ true → code_of (kind_of g.kind) ≡ g.kind
unfolding shaped fits_code
gate_code g s = code_kind g.kind (ltb-true g.kind 15 (and_left (ltb g.kind 15) _ (and_left (fits_code g.kind (length g.ins)) _ s)))

lut_norm : (c : Bool) (g : Gate) → kind_of g.kind ≡ Lut → norm_of c g ≡ made g false
unfolding make_canonical normal_k
lut_norm true g e = rw e
lut_norm false g e = refl

fourteen : kind_of 14 ≡ Lut
unfolding kind_of
fourteen = refl

node_table : (k : Kind) (n : ℕ) (z : Bool) (l : List ℕ) (t : ℕ) → with_table t (normal_of (Node k n z) l) ≡ made (record { kind = code_of k; ins = take n l; table = t }) z
unfolding normal_of
node_table k n z l t = refl

-- a normalization in the list, with its gate's table, is the gate's
pub tabled : (c : Bool) (g : Gate) (r : Normalization) (l : List ℕ) → shaped g ≡ true → normal_of r l ≡ norm_of c (bare g)
    → with_table g.table (normal_of r l) ≡ norm_of c g
unfolding shaped fits_table
tabled c g r l s e = by_bool (is_lut g.kind) lut other
  where
    k : code_of (kind_of g.kind) ≡ g.kind
    k = gate_code g s

    lut : is_lut g.kind ≡ true → with_table g.table (normal_of r l) ≡ norm_of c g
    lut t =
        let is : kind_of g.kind ≡ Lut = lut_kind g.kind (eqb-true g.kind 14 t) in
        ap (with_table g.table) (e ∙ lut_norm c (bare g) (bare_lut is))
        ∙ sym (lut_norm c g is ∙ ap (λ (h : Gate). made h false) (λ i. record { kind = sym k i; ins = g.ins; table = g.table }))
      where
        lut_kind : (n : ℕ) → n ≡ 14 → kind_of n ≡ Lut
        lut_kind n q = ap kind_of q ∙ fourteen

        bare_lut : kind_of g.kind ≡ Lut → kind_of (bare g).kind ≡ Lut
        bare_lut q = ap kind_of k ∙ q

    other : is_lut g.kind ≡ false → with_table g.table (normal_of r l) ≡ norm_of c g
    other t =
        let z : g.table ≡ 0 = eqb-true g.table 0 (rw t at (and_right (fits_code g.kind (length g.ins)) _ s)) in
        let b : bare g ≡ g = λ i. record { kind = k i; ins = g.ins; table = sym z i } in
        ap (λ (n : ℕ). with_table n (normal_of r l)) z ∙ no_table r l ∙ e ∙ ap (norm_of c) b

-- ---- the gate that is looked up

map_same : (l : List ℕ) → l ≡ map (λ s. s) l
map_same [] = refl
map_same (x ∷ l) = ap (λ (m : List ℕ). x ∷ m) (map_same l)

module _ (c : Bool) (τ : ℕ → ℕ) (g : Gate) where
  asked_ins : (asked_gate c τ g).ins ≡ map (looked_up c τ) g.ins
  asked_ins = go c
    where
      go : (c : Bool) → (asked_gate c τ g).ins ≡ map (looked_up c τ) g.ins
      go true = map_same g.ins
      go false = refl

  asked_kind : (asked_gate c τ g).kind ≡ g.kind
  asked_kind = by_bool c (λ e. rw e) (λ e. rw e)

  asked_table : (asked_gate c τ g).table ≡ g.table
  asked_table = by_bool c (λ e. rw e) (λ e. rw e)

  asked_shaped : shaped (asked_gate c τ g) ≡ shaped g
  asked_shaped = by_bool c (λ e. rw e) (λ e. rw e (shaped_remap τ g))

-- ---- the list lent, and back

abbrev lent : List ℕ → List ℕ
lent m = take (length m - 11328) (drop 11328 m)

abbrev back : List ℕ → List ℕ → List ℕ
back m ys = put_mid 11328 (length m - 11328) m ys

module _ (m ys : List ℕ) (z : 16384 ≤ length m) where
  lent_is : lent m ≡ drop list_base m
  lent_is = take_all (length m - 11328) (drop 11328 m) (rw length-drop (omega arith))

  back_is : back m ys ≡ take list_base m ++ ys
  back_is =
      ap (λ (r : List ℕ). take 11328 m ++ (ys ++ r)) (Post-is 11328 (length m) m (omega arith) ∙ drop-length m)
      ∙ ap (λ (r : List ℕ). take 11328 m ++ r) (append-nil ys)

  front : length (take list_base m) ≡ list_base
  front = length-take-le list_base m (omega arith)

  drop_back : drop list_base (back m ys) ≡ ys
  drop_back = ap (drop list_base) back_is ∙ drop_at (take list_base m) ys list_base front

  get_or_back : (i : ℕ) → i < list_base → get_or (back m ys) i 0 ≡ get_or m i 0
  get_or_back i h =
      ap (λ (l : List ℕ). get_or l i 0) back_is
      ∙ get_or-append (take list_base m) ys 0 i (rw front h)
      ∙ get_or-take list_base m i 0 h

  length_back : length ys ≡ length (lent m) → length (back m ys) ≡ length m
  length_back e =
      let d : length ys ≡ length m - list_base = e ∙ ap length lent_is ∙ length-drop list_base m in
      ap length back_is ∙ length-append (take list_base m) ys ∙ omega (arith, front)

-- ---- the whole of one node

module _ (src l : List ℕ) (v : ℕ) (b : Built) (A : Asks src l v b) where
  pub asks_node : (v < 512) × (net_size ≤ length src)
  asks_node = (A.node, A.source)

  pub asks_gather : (f n : ℕ) → n ≡ count_at src v → f ≡ first_at src v → Gathers src l f n
  asks_gather f n en ef = record { source = A.source; long = A.room.stands.long; ends = rw (en, ef) A.ends }

  -- the list begins within an area as long as l
  pub asks_lent : (m : List ℕ) → length m ≡ length l → list_base ≤ length m
  asks_lent m e = omega (arith, e, A.room.stands.long)

  -- and is put back
  pub lent_back : (m ys o : List ℕ) → length m ≡ length l → length ys ≡ length (lent m) → length o ≡ length (back m ys) → length o ≡ length l
  lent_back m ys o e ey eo = eo ∙ length_back m ys (rw e A.room.stands.long) ey ∙ e

module _ (src l : List ℕ) (v : ℕ) (b : Built) (A : Asks src l v b) (c can : Bool) where
  abbrev gate : Gate
  gate = asked_gate c (tr_of l) (gate_at src v)

  abbrev filled : List ℕ
  filled = gathered src l c (first_at src v) (count_at src v)

  -- words before the list are as they were
  filled_same : (i : ℕ) → i < list_base → get_or filled i 0 ≡ get_or l i 0
  unfolding cell
  filled_same i h =
      let e : i + 0 ≡ i = omega arith in
      let g : get_or filled (i + 0) 0 ≡ get_or l (i + 0) 0 = cell_gathered src l c (first_at src v) A.room.stands.long (count_at src v) i 0 (omega arith) in
      rw e at g

  long_filled : 16384 ≤ length filled
  long_filled = rw length_gathered A.room.stands.long

  gate_shaped : shaped gate ≡ true
  gate_shaped = asked_shaped c (tr_of l) (gate_at src v) ∙ A.is_shaped

  gate_kind : gate.kind ≡ kind_at src v
  unfolding gate_at
  gate_kind = asked_kind c (tr_of l) (gate_at src v)

  gate_table : gate.table ≡ low_at src v + 2 ^ 32 * high_at src v
  unfolding gate_at
  gate_table = asked_table c (tr_of l) (gate_at src v)

  gate_ins : gate.ins ≡ take (count_at src v) (drop list_base filled)
  unfolding gate_at
  gate_ins = asked_ins c (tr_of l) (gate_at src v) ∙ sym (listed_gathered src l c v A.room.stands.long A.ends)

  gate_count : length gate.ins ≡ count_at src v
  unfolding gate_at
  gate_count = ap length (asked_ins c (tr_of l) (gate_at src v)) ∙ length-map (ins_at src v) (looked_up c (tr_of l)) ∙ length_ins_at src v

  -- the kind asks for as many inputs as there are
  gate_fits : fits_kind (kind_of (kind_at src v)) (count_at src v) ≡ true
  unfolding shaped fits_code
  gate_fits =
      let f = and_right (ltb gate.kind 15) _ (and_left (fits_code gate.kind (length gate.ins)) _ gate_shaped) in
      rw (gate_kind, gate_count) at f

  module _ (m : List ℕ) (k : Kind) (f n : ℕ) (en : n ≡ count_at src v) (ef : f ≡ first_at src v) (em : m ≡ gathered src l c f n) (ek : k ≡ kind_of (kind_at src v)) where
    is_filled : m ≡ filled
    is_filled = em ∙ ap₂ (gathered src l c) ef en

    long_m : 16384 ≤ length m
    long_m = rw is_filled long_filled

    pub asks_normal : Shaped k (lent m) n
    asks_normal =
        let e : length (lent m) ≡ length m - list_base = ap length (lent_is m [] long_m) ∙ length-drop list_base m in
        let r = A.ends in
        record {
          listed = record { count = omega (arith, long_m); room = omega (arith, long_m) };
          fits = rw (ek, en) gate_fits;
        }

    module _ (ys : List ℕ) (r : Normalization) (ey : length ys ≡ length (lent m)) (en' : normal_of r ys ≡ norm_of can (gate_of k (take n (lent m)))) where
      bare_is : gate_of k (take n (lent m)) ≡ bare gate
      bare_is =
          let e : take n (lent m) ≡ gate.ins = ap₂ take en (lent_is m [] long_m ∙ ap (drop list_base) is_filled) ∙ sym gate_ins in
          ap₂ gate_of (ek ∙ ap kind_of (sym gate_kind)) e

      -- what was normalized is the gate that is asked for
      normal_is : with_table gate.table (normal_of r ys) ≡ norm_of can gate
      normal_is = tabled can gate r ys gate_shaped (en' ∙ ap (norm_of can) bare_is)

      count_few : count_of r ≤ count_at src v
      count_few = go r refl
        where
          go : (q : Normalization) → r ≡ q → count_of q ≤ count_at src v
          go (Copy s) e = omega arith
          go (Node j i t) e =
              let made_is : norm_of can gate ≡ made (record { kind = code_of j; ins = take i ys; table = gate.table }) t =
              sym normal_is ∙ ap (λ (q : Normalization). with_table gate.table (normal_of q ys)) e ∙ node_table j i t ys gate.table in
              let few : length (take i ys) ≤ count_at src v = rw gate_count at (made_few (norm_of can) (norm_law can) gate gate_shaped _ t made_is) in
              let ly : length ys ≡ length m - list_base = ey ∙ ap length (lent_is m [] long_m) ∙ length-drop list_base m in
              let ends = A.ends in
              elim (dec_le i (length ys)) [
                | yes h ↦ omega (arith, few, length-take-le i ys h)
                | no h ↦ absurd (omega (arith, few, ap length (take_all i ys (omega arith)), ly, long_m))
              ]

      agrees : Agree l (back m ys)
      agrees i h = get_or_back m ys long_m i (omega arith) ∙ ap (λ (x : List ℕ). get_or x i 0) is_filled ∙ filled_same i (omega arith)

      same_long : length (back m ys) ≡ length l
      same_long = length_back m ys long_m ey ∙ ap length is_filled ∙ length_gathered src l c (first_at src v) (count_at src v)

      same_cell : (c j : ℕ) → c + j < list_base → cell (back m ys) c j ≡ cell l c j
      unfolding cell
      same_cell c j h = get_or_back m ys long_m (c + j) h ∙ ap (λ (x : List ℕ). get_or x (c + j) 0) is_filled ∙ filled_same (c + j) h

      same_trans : tr_of (back m ys) ≡ tr_of l
      same_trans = tr_of_same (back m ys) l (omega (arith, same_long, A.room.stands.long)) (omega (arith, A.room.stands.long)) (λ w h. same_cell tr_base w (omega arith))

      pub asks_settle : Settles (back m ys) v b r
      asks_settle =
          let f = A.room.fits in
          record {
            room = record {
              stands = stands_agree l (back m ys) agrees same_long b A.room.stands;
              chained = chained_agree l (back m ys) agrees same_long b A.room.stands A.room.chained (λ h q. same_cell head_base h (omega arith)) (λ w q. same_cell link_base w (omega arith));
              more = A.room.more;
              fits = omega (arith, count_few);
            };
            node = A.node;
          }

      pub node_did : (o : List ℕ) (lo hi : ℕ) (s : Built) → lo ≡ low_at src v → hi ≡ high_at src v
          → Did (back m ys) o v b (with_table (lo + 2 ^ 32 * hi) (normal_of r (drop list_base (back m ys)))) s → Did l o v b (norm_of can gate) s
      node_did o lo hi s el eh D =
          let t : lo + 2 ^ 32 * hi ≡ gate.table = ap₂ (λ (x y : ℕ). x + 2 ^ 32 * y) el eh ∙ sym gate_table in
          let nm : with_table (lo + 2 ^ 32 * hi) (normal_of r (drop list_base (back m ys))) ≡ norm_of can gate =
          ap₂ with_table t (ap (normal_of r) (drop_back m ys long_m)) ∙ normal_is in
          let w : work_of (back m ys) b ≡ work_of l b = work≡ same_trans (nodes_of_agree l (back m ys) agrees same_long b A.room.stands b.nodes (omega arith)) in
          record { stands = D.stands; chained = D.chained; work = D.work ∙ ap₂ (λ (x : Norm) (d : Work). dedup_node x v d) nm w }
