-- A gate put behind those that stand there, and what stands when words outside the network change.
use Prim.Native.Nat.{ℕ, ◌+◌, ◌*◌, ◌^◌, ◌≤◌, ◌<◌}
use mathlib.Core.Path.{◌≡◌, refl, sym, ap, ap₂, ◌∙◌, subst}
use mathlib.Core.Bool.{Bool}
use mathlib.Core.List.{List, [], ◌∷◌, ◌++◌}
use mathlib.Core.Option.{none, some}
use native.Mathlib.Omega.{arith}
use native.Mathlib.Numerals.{add-one}
use native.Mathlib.Decide.{ℕ_discrete}
use lib.ListN.{length, take, drop}
use lib.Seq.{get_or-set_other}
use mir.Val.{Fits}
use mir.Syntax.{w32, w64}
use Rattle.laws.specs.Lists.{tab}
use Rattle.laws.proofs.Tabs.{length_tab}
use Rattle.kinds.specs.Kinds.{code_of}
use Rattle.kinds.specs.declared.Kind.{Kind}
use Rattle.model.specs.Signal.{flip, from_var}
use Rattle.model.specs.Gate.{Gate, fanin}
use Rattle.model.specs.Network.{upd, find_gate, place, Work, dedup_node}
use Rattle.tables.specs.Layout.{net_size, tr_base, first_at, count_at, input_at, gate_at, nodes_of, put_gate, put_table, cell, store}
use Rattle.tables.specs.Building.{put_inputs, put_node}
use Rattle.tables.proofs.Places.{Agree, kind_at_agree, first_at_agree, count_at_agree, input_at_agree, low_at_agree, high_at_agree, length_store, cell_store_other, first_at_put_table, first_at_put_gate}
use Rattle.tables.proofs.Gates.{gate_at_same}
use Rattle.tables.proofs.Building.{length_put_inputs, length_put_node, cell_put_node, first_at_put_node, gate_at_put_node, gate_at_put_node_other, nodes_of_same, nodes_of_put_node, packed_put_node}
use Rattle.shape.proofs.FactoringGrown.{fanin_append}
use Rattle.tables.proofs.Holding.{length_nodes_of, fanin_one}
use Rattle.gates.specs.declared.Normalization.{Normalization}
use Rattle.gates.specs.declared.Normalization.TheVariants.{Copy, Node}
use Rattle.gates.specs.Normals.{normal_of}
use Rattle.signal.specs.declared.Signal.{Signal}
use Rattle.shape.proofs.DedupPlace.{find_at}
use Rattle.same_gate.specs.Listed.{list_base, listed, Searched}
use Rattle.lookup.specs.Lists.{as_option}
use Rattle.same_gate.specs.declared.Sought.{Sought}
use Rattle.translation.specs.Tables.{tr_of}
use Rattle.translation.proofs.Translated.{tr_of_same, tr_of_store, tr_of_put_node}
use Rattle.placing.specs.Lists.{with_table, count_of}
use Rattle.lookup.specs.Chains.{bucket_of, head_base, link_base, Chained, joined, Seeks}
use Rattle.placing.specs.States.{Stands, Room, Appended, Placed, Settles, Did}
use Rattle.placing.specs.declared.Built.{Built}
use Rattle.std.specs.Prelude.{Option, Some, None}
use Rattle.placing.specs.declared.place.Spot.{Spot}
use Rattle.placing.proofs.Areas.{part_tab}
use Rattle.lookup.proofs.Chains.{chained_same, length_joined, cell_joined, chained_joined}

-- what may be searched
stands_searched : (l : List ℕ) (b : Built) → Stands l b → Searched l b.nodes
stands_searched l b s =
    let r = s.packed.room in
    record { long = s.long; few = s.packed.few; ends = λ w h. omega (arith, s.packed.ends w h) }

-- ---- words outside the network

module _ (l m : List ℕ) (a : Agree l m) (z : length m ≡ length l) where
  gate_at_agree : (w : ℕ) → w < 512 → first_at l w + count_at l w ≤ 2048 → gate_at m w ≡ gate_at l w
  gate_at_agree w h e =
      gate_at_same m l w w (kind_at_agree l m a w h) (count_at_agree l m a w h)
      (λ j q. ap (λ (x : ℕ). input_at m (x + j)) (first_at_agree l m a w h) ∙ input_at_agree l m a (first_at l w + j) (omega arith))
      (low_at_agree l m a w h) (high_at_agree l m a w h)

  module _ (b : Built) (s : Stands l b) where
    pub nodes_of_agree : (v : ℕ) → v ≤ b.nodes → nodes_of m v ≡ nodes_of l v
    nodes_of_agree v h =
        let few = s.packed.few in
        let r = s.packed.room in
        nodes_of_same m l v (λ w q. gate_at_agree w (omega arith) (omega (arith, s.packed.ends w (omega arith))))

    pub stands_agree : Stands m b
    stands_agree =
        let few = s.packed.few in
        record {
          long = rw z s.long;
          packed = record {
            long = rw z s.packed.long;
            few = s.packed.few;
            ends = λ w h. rw (first_at_agree l m a w (omega arith), count_at_agree l m a w (omega arith)) (s.packed.ends w h);
            room = s.packed.room;
          };
          firsts = λ v h. first_at_agree l m a v (omega arith) ∙ s.firsts v h ∙ sym (ap fanin (nodes_of_agree v (omega arith)));
          total = s.total ∙ sym (ap fanin (nodes_of_agree b.nodes (omega arith)));
        }

    pub chained_agree : Chained l b.nodes → ((h : ℕ) → h < 256 → cell m head_base h ≡ cell l head_base h) → ((v : ℕ) → v < 512 → cell m link_base v ≡ cell l link_base v) → Chained m b.nodes
    chained_agree c hs ls =
        let few = s.packed.few in
        let r = s.packed.room in
        chained_same l m b.nodes (λ w q. gate_at_agree w (omega arith) (omega (arith, s.packed.ends w q))) c hs ls few

store_agree : (l : List ℕ) (b i x : ℕ) → net_size ≤ b → Agree l (store l b i x)
unfolding store
store_agree l b i x h j q = get_or-set_other l (b + i) j x 0 (omega arith)

joined_agree : (l : List ℕ) (v h : ℕ) → Agree l (joined l v h)
unfolding joined
joined_agree l v h i q = store_agree (store l link_base v (cell l head_base h)) head_base h (v + 1) (omega arith) i q ∙ store_agree l link_base v (cell l head_base h) (omega arith) i q

-- where the gate in the list is searched for
pub room_seeks : (l : List ℕ) (b : Built) (g : Sought) (h : ℕ) → Room l b g.n → h ≡ bucket_of (listed l g) → Seeks l b.nodes h (listed l g)
room_seeks l b g h R e = record { searched = stands_searched l b R.stands; chained = R.chained; bucket = e }

-- ---- a gate appended

-- store by store
pub appended : (l p q s m : List ℕ) (b : Built) (h : ℕ) (g : Sought) (r : Built) → p ≡ put_inputs l b.fanin (cell l list_base) g.n → q ≡ put_gate p b.nodes g.kind b.fanin g.n
    → s ≡ put_table q b.nodes g.low g.high → m ≡ joined s b.nodes h → r.nodes ≡ b.nodes + 1 → r.fanin ≡ b.fanin + g.n → Appended l m b h g r
unfolding put_node
appended l p q s m b h g r ep eq es em en ef = record {
  words = em
      ∙ ap (λ (x : List ℕ). joined x b.nodes h) (es ∙ ap (λ (x : List ℕ). put_table x b.nodes g.low g.high) (eq ∙ ap (λ (x : List ℕ). put_gate x b.nodes g.kind b.fanin g.n) ep));
  nodes_is = en;
  fanin_is = ef;
}

-- what the stores ask, of an area as long as l
module _ (l : List ℕ) (b : Built) (n : ℕ) (R : Room l b n) where
  pub append_asks : (16384 ≤ length l) × (b.fanin + n ≤ 2048)
  append_asks = (R.stands.long, R.fits)

  pub append_node : (m : List ℕ) → length m ≡ length l → (b.nodes < 512) × (net_size ≤ length m)
  append_node m e = (R.more, omega (arith, e, R.stands.long))

  pub append_join : (m : List ℕ) (h : ℕ) → length m ≡ length l → h < 256 → (16384 ≤ length m) × (b.nodes < 512) × (h < 256)
  append_join m h e q = (rw e R.stands.long, R.more, q)

  pub append_first : Fits w32 b.fanin
  append_first = record { fits = omega (arith, R.fits) }

  pub append_inputs : Fits w32 n
  append_inputs = record { fits = omega (arith, R.fits) }

  pub append_nodes : Fits w64 (b.nodes + 1)
  append_nodes = record { fits = omega (arith, R.more) }

  pub append_fanin : Fits w64 (b.fanin + n)
  append_fanin = record { fits = omega (arith, R.fits) }

module _ (l : List ℕ) (b : Built) (g : Sought) (R : Room l b g.n) where
  abbrev put : List ℕ
  put = put_node l b.nodes g.kind b.fanin (cell l list_base) g.n g.low g.high

  abbrev long : net_size ≤ length l
  long = R.stands.packed.long

  same_below : (w : ℕ) → w ≤ b.nodes → nodes_of put w ≡ nodes_of l w
  same_below w h =
      let few = R.more in
      nodes_of_same put l w (λ u q. gate_at_put_node_other l b.nodes g.kind b.fanin (cell l list_base) g.n g.low g.high R.more R.fits long u (omega arith) (omega arith) (R.stands.packed.ends u (omega arith)))

  first_put : first_at put b.nodes ≡ b.fanin
  unfolding put_node
  first_put =
      let y : net_size ≤ length (put_inputs l b.fanin (cell l list_base) g.n) = rw length_put_inputs long in
      first_at_put_table _ b.nodes g.low g.high b.nodes R.more ∙ first_at_put_gate _ b.nodes g.kind b.fanin g.n R.more y

  put_gates : nodes_of put (b.nodes + 1) ≡ nodes_of l b.nodes ++ (listed l g ∷ [])
  unfolding listed
  put_gates = rw add-one (nodes_of_put_node l b.nodes b.fanin R.stands.packed g.kind (cell l list_base) g.n g.low g.high R.more R.fits)

  put_total : b.fanin + g.n ≡ fanin (nodes_of put (b.nodes + 1))
  unfolding listed
  put_total =
      sym (ap fanin put_gates ∙ fanin_append (nodes_of l b.nodes) (listed l g ∷ []) ∙ ap₂ ◌+◌ (sym R.stands.total) (fanin_one (listed l g) ∙ length_tab (cell l list_base) g.n))

  put_firsts : (w : ℕ) → w < b.nodes + 1 → first_at put w ≡ fanin (nodes_of put w)
  put_firsts w h = elim (ℕ_discrete w b.nodes) [
    | yes e ↦ rw e (first_put ∙ R.stands.total ∙ sym (ap fanin (same_below b.nodes (omega arith))))
    | no e ↦ (let few = R.more in
        first_at_put_node l b.nodes g.kind b.fanin (cell l list_base) g.n g.low g.high R.more R.fits long w (omega arith) e
        ∙ R.stands.firsts w (omega arith)
        ∙ sym (ap fanin (same_below w (omega arith))))
  ]

  put_stands : (r : Built) → r.nodes ≡ b.nodes + 1 → r.fanin ≡ b.fanin + g.n → Stands put r
  put_stands r e f = record {
    long = rw length_put_node R.stands.long;
    packed = rw (e, f, add-one) (packed_put_node l b.nodes b.fanin R.stands.packed g.kind (cell l list_base) g.n g.low g.high R.more R.fits);
    firsts = λ v h. put_firsts v (rw e at h);
    total = rw (e, f) put_total;
  }

  put_chained : Chained put b.nodes
  put_chained =
      let few = R.more in
      chained_same l put b.nodes
      (λ u q. gate_at_put_node_other l b.nodes g.kind b.fanin (cell l list_base) g.n g.low g.high R.more R.fits long u (omega arith) (omega arith) (R.stands.packed.ends u q)) R.chained
      (λ h q. cell_put_node l b.nodes g.kind b.fanin (cell l list_base) g.n g.low g.high R.more R.fits head_base h (omega arith))
      (λ v q. cell_put_node l b.nodes g.kind b.fanin (cell l list_base) g.n g.low g.high R.more R.fits link_base v (omega arith)) (omega arith)

  put_gate_lem : gate_at put b.nodes ≡ listed l g
  unfolding listed
  put_gate_lem = gate_at_put_node l b.nodes g.kind b.fanin (cell l list_base) g.n g.low g.high R.more R.fits long

  -- and put before its chain
  module _ (h : ℕ) (eh : h ≡ bucket_of (listed l g)) (r : Built) (rn : r.nodes ≡ b.nodes + 1) (rf : r.fanin ≡ b.fanin + g.n) where
    abbrev grown : List ℕ
    grown = joined put b.nodes h

    abbrev long_put : 16384 ≤ length put
    long_put = (put_stands r rn rf).long

    grown_chained : Chained grown r.nodes
    grown_chained =
        let st = put_stands r rn rf in
        let few = R.more in
        let room = st.packed.room in
        rw rn (chained_joined put b.nodes h long_put put_chained (eh ∙ ap bucket_of (sym put_gate_lem)) R.more
        (λ v q. gate_at_agree put grown (joined_agree put b.nodes h) (length_joined put b.nodes h) v (omega arith) (omega (arith, st.packed.ends v (omega arith)))))

    grown_stands : Stands grown r
    grown_stands = stands_agree put grown (joined_agree put b.nodes h) (length_joined put b.nodes h) r (put_stands r rn rf)

    grown_gates : nodes_of grown r.nodes ≡ nodes_of l b.nodes ++ (listed l g ∷ [])
    grown_gates =
        nodes_of_agree put grown (joined_agree put b.nodes h) (length_joined put b.nodes h) r (put_stands r rn rf) r.nodes (omega arith)
        ∙ ap (nodes_of put) rn ∙ put_gates

    grown_trans : tr_of grown ≡ tr_of l
    grown_trans =
        tr_of_same grown put (rw length_joined (omega (arith, long_put))) (omega (arith, long_put)) (λ v q. cell_joined put b.nodes h tr_base v (omega arith))
        ∙ tr_of_put_node l (omega (arith, R.stands.long)) b.nodes g.kind b.fanin (cell l list_base) g.n g.low g.high R.more R.fits

  -- THE TWO WAYS OF A LOOKUP
  pub place_found : (f : Option ℕ) (w : ℕ) (p : Spot) → as_option f ≡ find_gate (listed l g) (nodes_of l b.nodes) → f ≡ Some w
      → p.built ≡ b → p.node ≡ w → Placed l l b (listed l g) p
  unfolding place
  place_found f w p e q pb pn =
      let s : find_gate (listed l g) (nodes_of l b.nodes) ≡ some w = sym e ∙ ap as_option q in
      let few = R.more in
      let at = find_at (listed l g) (nodes_of l b.nodes) w s in
      record {
        stands = subst (λ (c : Built). Stands l c) (sym pb) R.stands;
        gates = rw (s, pb);
        chained = rw pb R.chained;
        node_is = rw s pn;
        small = omega (arith, at.inside, length_nodes_of l b.nodes);
        trans = refl;
      }

  pub place_new : (m : List ℕ) (h : ℕ) (f : Option ℕ) (r : Built) (p : Spot) → h ≡ bucket_of (listed l g)
      → as_option f ≡ find_gate (listed l g) (nodes_of l b.nodes) → f ≡ None
      → Appended l m b h g r → p.built ≡ r → p.node ≡ b.nodes → Placed l m b (listed l g) p
  unfolding place
  place_new m h f r p eh e q a pb pn =
      let s : find_gate (listed l g) (nodes_of l b.nodes) ≡ none = sym e ∙ ap as_option q in
      let few = R.more in
      rw a.words (record {
        stands = subst (λ (c : Built). Stands (grown h eh r a.nodes_is a.fanin_is) c) (sym pb) (grown_stands h eh r a.nodes_is a.fanin_is);
        chained = rw pb (grown_chained h eh r a.nodes_is a.fanin_is);
        gates = rw (s, pb) (grown_gates h eh r a.nodes_is a.fanin_is);
        node_is = rw s (pn ∙ sym (length_nodes_of l b.nodes));
        small = omega arith;
        trans = grown_trans h eh r a.nodes_is a.fanin_is;
      })

pub work≡ : {d e : Work} → d.trans ≡ e.trans → d.news ≡ e.news → d ≡ e
work≡ p q = λ i. record { trans = p i; news = q i }

-- ---- one node settled

-- the node that was found or put has a signal
module _ {l m : List ℕ} {b : Built} {g : Gate} {p : Spot} (P : Placed l m b g p) where
  pub placed_fits : Fits w32 p.node
  placed_fits = record { fits = omega (arith, P.small) }

  pub placed_node : p.node < 1073741823
  placed_node = omega (arith, P.small)

module _ (l : List ℕ) (v : ℕ) (b : Built) (r : Normalization) (S : Settles l v b r) where
  pub settle_room : (k : Kind) (n : ℕ) (t : Bool) → r ≡ Node k n t → Room l b n
  settle_room k n t e = let c : count_of r ≡ n = ap count_of e in rw c at S.room

  pub settle_copy : (lo hi : ℕ) (m : List ℕ) (s : Signal) → r ≡ Copy s → m ≡ store l tr_base v s.a
      → Did l m v b (with_table (lo + 2 ^ 32 * hi) (normal_of r (drop list_base l))) b
  unfolding dedup_node normal_of
  settle_copy lo hi m s e w =
      let x = s.a in
      let a = store_agree l tr_base v x (omega arith) in
      let z = length_store l tr_base v x in
      let st = S.room.stands in
      rw w (record {
        stands = stands_agree l (store l tr_base v x) a z b st;
        chained = chained_agree l (store l tr_base v x) a z b st S.room.chained (λ h q. cell_store_other l tr_base v x head_base h (omega (arith, S.node))) (λ u q. cell_store_other l tr_base v x link_base u (omega (arith, S.node)));
        work = rw e (work≡ (tr_of_store l v x (omega (arith, st.long)) S.node) (nodes_of_agree l (store l tr_base v x) a z b st b.nodes (omega arith)));
      })

  pub settle_node : (lo hi : ℕ) (k : Kind) (n : ℕ) (t : Bool) (c : ℕ) (m : List ℕ) (p : Spot) (x y : ℕ) (o : List ℕ) → r ≡ Node k n t → c ≡ code_of k
      → Placed l m b (listed l (record { kind = c; n = n; low = lo; high = hi })) p → x ≡ from_var p.node → y ≡ flip x t → o ≡ store m tr_base v y
      → Did l o v b (with_table (lo + 2 ^ 32 * hi) (normal_of r (drop list_base l))) p.built
  unfolding dedup_node normal_of listed
  settle_node lo hi k n t c m p x y o e ec P ex ey w =
      let a = store_agree m tr_base v y (omega arith) in
      let z = length_store m tr_base v y in
      let st = P.stands in
      let room = S.room in
      let cn : count_of r ≡ n = ap count_of e in
      let few : list_base + n ≤ length l = omega (arith, room.fits, room.stands.long) in
      let ins : take n (drop list_base l) ≡ tab (cell l list_base) n = part_tab l list_base n few in
      let signal : y ≡ flip (from_var (place (listed l (record { kind = c; n = n; low = lo; high = hi })) (nodes_of l b.nodes)).pos) t = ey ∙ ap (λ (q : ℕ). flip q t) (ex ∙ ap (λ (q : ℕ). from_var q) P.node_is) in
      rw w (record {
        stands = stands_agree m (store m tr_base v y) a z p.built st;
        chained = chained_agree m (store m tr_base v y) a z p.built st P.chained (λ h q. cell_store_other m tr_base v y head_base h (omega (arith, S.node))) (λ u q. cell_store_other m tr_base v y link_base u (omega (arith, S.node)));
        work = rw (e, ins, ← ec) (work≡
            (tr_of_store m v y (omega (arith, st.long)) S.node ∙ ap₂ (λ (τ : ℕ → ℕ) (q : ℕ). upd τ v q) P.trans signal)
            (nodes_of_agree m (store m tr_base v y) a z p.built st p.built.nodes (omega arith) ∙ P.gates));
      })
