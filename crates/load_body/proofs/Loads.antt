-- The laws of loading as the code meets them: a premise is a test, a callee's promise or an invariant, as it stands in a need.
use mathlib.Core.Path.{◌≡◌, refl, sym, ap, ◌∙◌}
use mathlib.Core.Logic.{◌≢◌}
use mathlib.Core.Bool.{Bool, true, false, cond}
use mathlib.Core.List.{List}
use Prim.Native.Nat.{ℕ, suc, ◌+◌, ◌*◌, ◌/◌, ◌%◌, ◌^◌, ◌≤◌, ◌<◌}
use native.Mathlib.Omega.{arith}
use native.Mathlib.Numerals.{add-one}
use mir.Val.{Fits as FitsIn}
use mir.Syntax.{w32, w64}
use lib.ListN.{length, get_or, take, drop, length-drop}
use lib.Seq.{get_or-drop, length-take-le}
use borrow.Author.Tests.{eq-eqb, ne_eqb}
use Rattle.laws.specs.Lists.{tab}
use Rattle.laws.proofs.Tabs.{take_tab, tab_ext}
use Rattle.model.specs.Gate.{is_lut, fanin}
use Rattle.model.specs.Image.{words, code_at, count_at, size_at, table_at, record_gate, gates_from, end_from, net_in}
use Rattle.model.proofs.Bytes.{length_words}
use Rattle.shape.proofs.Walks.{count_lt_size, end_last, length_gates}
use Rattle.tables.specs.Layout.{nodes_of, put_gate, put_table}
use Rattle.tables.specs.Building.{put_inputs, put_node, put_outputs}
use Rattle.tables.specs.Holding.{Holds}
use Rattle.tables.specs.declared.counts.Counts.{Counts}
use Rattle.shape.proofs.Written.{gate_eq}
use Rattle.tables.proofs.Building.{nodes_of_none, packed_none, nodes_of_put_node, packed_put_node, outputs_of_put_outputs, nodes_of_put_outputs, packed_put_outputs}
use Rattle.tables.proofs.Holding.{holds}
use Rattle.load_body.specs.declared.Place.{Place}
use Rattle.load_body.specs.Loading.{word_from, low_in, high_in, put_record, Copies, Headed, Tabled, Fits, Placed, Records, Loading, Nodes, Outputs, Loadable}
use Rattle.load_body.proofs.Walks.{gates_next, record_inside, record_room, fanin_loaded}

-- the words of a part, one by one
pub tab_words : (ws : List ℕ) (at n : ℕ) → at + n ≤ length ws → tab (word_from ws at) n ≡ take n (drop at ws)
unfolding word_from
tab_words ws at n h = tab_ext _ _ n (λ j p. sym (get_or-drop at ws j 0)) ∙ sym (take_tab (drop at ws) n (rw length-drop (omega arith)))

-- ---- load_table

module _ (b : List ℕ) (at h : ℕ) (l : List ℕ) (v : ℕ) (H : Headed b at h l v) where
  count_is : count_at (words b) at ≡ h / 256
  unfolding count_at
  count_is = ap (λ (x : ℕ). x / 256) (sym H.header)

  code_is : code_at (words b) at ≡ h % 256
  unfolding code_at
  code_is = ap (λ (x : ℕ). x % 256) (sym H.header)

  pub table_none : h % 256 ≢ 14 → (l' : List ℕ) → l' ≡ put_table l v 0 0 → Tabled b at l v l' 0
  unfolding low_in high_in
  table_none t l' e = let p : is_lut (code_at (words b) at) ≡ false = rw code_is (ne_eqb (h % 256) 14 t) in record { area = rw p e; size = rw p; few = omega arith }

  module _ (t : h % 256 ≡ 14) (n : ℕ) (k : n ≡ h / 256) where
    lut : is_lut (code_at (words b) at) ≡ true
    lut = rw code_is (eq-eqb (h % 256) 14 t)

    pub high_inside : at + 2 + n < length b / 4
    unfolding size_at
    high_inside = let f = rw lut at H.inside in omega (arith, count_is)

    pub low_inside : at + 1 + n < length b / 4
    low_inside = omega (arith, high_inside)

    module _ (z : length b < 18446744073709551616) where
      pub table_one : FitsIn w64 (at + 1)
      table_one = record { fits = omega (arith, z, high_inside) }

      pub table_low : FitsIn w64 (at + 1 + n)
      table_low = record { fits = omega (arith, z, high_inside) }

      pub table_two : FitsIn w64 (at + 2)
      table_two = record { fits = omega (arith, z, high_inside) }

      pub table_high : FitsIn w64 (at + 2 + n)
      table_high = record { fits = omega (arith, z, high_inside) }

    pub table_some : (low high : ℕ) → low ≡ get_or (words b) (at + 1 + n) 0 → high ≡ get_or (words b) (at + 2 + n) 0
        → (l' : List ℕ) → l' ≡ put_table l v low high → Tabled b at l v l' 2
    unfolding low_in high_in
    table_some low high a z l' e = record { area = rw (lut, count_is, ← k, ← a, ← z) e; size = rw lut; few = omega arith }

-- ---- load_gate: h is the header that it has read, and n the count

module _ (b : List ℕ) (p : Place) (l : List ℕ) (v : ℕ) (F : Fits b p l v) where
  pub gate_inside : p.at < length b / 4
  gate_inside = omega (arith, F.inside, count_lt_size (words b) p.at)

  module _ (h : ℕ) (e : h ≡ get_or (words b) p.at 0) where
    pub gate_headed : (l' : List ℕ) → length l' ≡ length l → Headed b p.at h l' v
    gate_headed l' s = record { long = rw s F.long; few = F.few; header = e; inside = F.inside }

    module _ (n : ℕ) (k : n ≡ h / 256) where
      count_read : count_at (words b) p.at ≡ n
      count_read = count_is b p.at h l v (gate_headed l refl) ∙ sym k

      pub gate_copies : Copies b (p.at + 1) l p.first n
      gate_copies = record {
        long = F.long;
        inside = omega (arith, F.inside, count_lt_size (words b) p.at, count_read);
        room = omega (arith, F.room, count_read);
      }

      module _ (z : length b < 18446744073709551616) where
        pub gate_one : FitsIn w64 (p.at + 1)
        gate_one = record { fits = omega (arith, z, gate_inside) }

        pub gate_behind : FitsIn w64 (p.at + 1 + n)
        gate_behind = record { fits = omega (arith, z, gate_copies.inside) }

        pub gate_ends : (l2 l3 : List ℕ) (x : ℕ) → Tabled b p.at l2 v l3 x → FitsIn w64 (p.at + 1 + n + x)
        gate_ends l2 l3 x T = record { fits = omega (arith, z, gate_copies.inside, T.few) }

      pub gate_free : FitsIn w64 (p.first + n)
      gate_free = record { fits = omega (arith, gate_copies.room) }

      pub gate_first : FitsIn w32 p.first
      gate_first = record { fits = omega (arith, gate_copies.room) }

      pub gate_placed : (l1 l2 l3 : List ℕ) (x : ℕ) → l1 ≡ put_inputs l p.first (word_from (words b) (p.at + 1)) n
          → l2 ≡ put_gate l1 v (h % 256) p.first (h / 256) → Tabled b p.at l2 v l3 x
          → Placed b p l v l3 (record { at = p.at + 1 + n + x; first = p.first + n })
      unfolding put_record put_node size_at
      gate_placed l1 l2 l3 x e1 e2 T = record {
        area = T.area ∙ rw (count_read, code_is b p.at h l v (gate_headed l refl), ← e1, k, ← e2);
        next = rw count_read (omega (arith, T.size));
        free = rw count_read;
      }

-- ---- load_nodes

pub loading_none : (b l : List ℕ) (n : ℕ) → Records b l n → Loading b l 0 (record { at = 0; first = 0 })
unfolding end_from gates_from fanin
loading_none b l n R = record { packed = packed_none l R.long; nodes = nodes_of_none l; next = refl; free = refl }

-- what a record is in the area is what it is in the model
record_gate_lem : (ws : List ℕ) (at : ℕ) → at + size_at ws at ≤ length ws
    → record { kind = code_at ws at; ins = tab (word_from ws (at + 1)) (count_at ws at); table = low_in ws at + 2 ^ 32 * high_in ws at } ≡ record_gate ws at
unfolding record_gate table_at low_in high_in
record_gate_lem ws at h = gate_eq refl (tab_words ws (at + 1) (count_at ws at) (omega (arith, count_lt_size ws at))) (go (is_lut (code_at ws at)))
  where
    go : (t : Bool)
        → cond t (get_or ws (at + 1 + count_at ws at) 0) 0 + 2 ^ 32 * cond t (get_or ws (at + 2 + count_at ws at) 0) 0
        ≡ cond t (get_or ws (at + 1 + count_at ws at) 0 + get_or ws (at + 2 + count_at ws at) 0 * 4294967296) 0
    go true = omega arith
    go false = refl

module _ (b l₀ : List ℕ) (n : ℕ) (R : Records b l₀ n) (l : List ℕ) (v : ℕ) (p : Place) (L : Loading b l v p) where
  inside : end_from n (words b) 0 ≤ length (words b)
  inside = omega (arith, R.inside, length_words b)

  module _ (h : v < n) where
    pub loading_fits : Fits b p l v
    loading_fits = record {
      long = L.packed.long;
      few = let f = R.few in omega arith;
      inside = rw L.next (omega (arith, R.inside, record_inside v (words b) n h));
      room = rw (L.next, L.free) (omega (arith, R.room, record_room v (words b) n h inside));
    }

    pub loading_next : (l' : List ℕ) (r : Place) → Placed b p l v l' r → Loading b l' (v + 1) r
    unfolding put_record
    loading_next l' r D =
        let ws = words b in
        let at = p.at in
        let e : at ≡ end_from v ws 0 = L.next in
        let F = loading_fits in
        let k = code_at ws at in
        let f = word_from ws (at + 1) in
        let m = count_at ws at in
        let within : at + size_at ws at ≤ length ws = rw (length_words b) F.inside in
        let P = packed_put_node l v p.first L.packed k f m (low_in ws at) (high_in ws at) F.few F.room in
        let N = nodes_of_put_node l v p.first L.packed k f m (low_in ws at) (high_in ws at) F.few F.room in
        let g : nodes_of l' (suc v) ≡ gates_from (suc v) ws 0 =
        rw D.area (N ∙ rw (L.nodes, record_gate_lem ws at within, e) (sym (gates_next v ws))) in
        record {
          packed = rw (add-one v, D.area, D.free) P;
          nodes = rw add-one g;
          next = rw add-one (D.next ∙ rw e (sym (end_last v ws 0)));
          free = rw add-one (D.free ∙ rw (L.free, e) (sym (fanin_loaded v ws (rw (← e) within))));
        }

  pub loading_end : n ≤ v → v ≤ n → Nodes b l n p.at
  loading_end h k =
      let e : v ≡ n = omega arith in
      let q : p.first ≡ fanin (gates_from n (words b) 0) = rw (← e) L.free in
      record { packed = rw (← q, ← e) L.packed; nodes = rw (← e) L.nodes; end = rw (← e) L.next }

-- ---- load_body

module _ (b l : List ℕ) (c : Counts) (A : Loadable b l c) where
  nodes_few : c.nodes ≤ 512
  unfolding net_in
  nodes_few = omega (arith, A.valid.nodes_few, length_gates c.nodes (words b) 0)

  length_outs : length (take c.outs (drop (end_from c.nodes (words b) 0) (words b))) ≡ c.outs
  length_outs = length-take-le c.outs (drop (end_from c.nodes (words b) 0) (words b)) (rw length-drop (omega (arith, A.ends)))

  outs_few : c.outs ≤ 64
  unfolding net_in
  outs_few = omega (arith, A.valid.outs_few, length_outs)

  pub load_records : Records b l c.nodes
  unfolding net_in
  load_records = record {
    long = A.long;
    few = nodes_few;
    inside = omega (arith, A.ends, length_words b);
    room = A.valid.ins_few;
  }

  module _ (l1 : List ℕ) (end : ℕ) (N : Nodes b l1 c.nodes end) where
    outs_inside : end + c.outs ≤ length (words b)
    outs_inside = omega (arith, N.end, A.ends)

    pub load_outputs : Outputs b end l1 c.outs
    load_outputs = record { long = N.packed.long; few = outs_few; inside = omega (arith, outs_inside, length_words b) }

    pub load_holds : (l2 : List ℕ) → l2 ≡ put_outputs l1 (word_from (words b) end) c.outs
        → Holds l2 c (net_in c.inputs c.nodes c.outs (words b))
    unfolding net_in
    load_holds l2 e =
        let ws = words b in
        let P = packed_put_outputs l1 (word_from ws end) c.nodes (fanin (gates_from c.nodes ws 0)) N.packed c.outs in
        rw e
        (holds (put_outputs l1 (word_from ws end) c.outs) c (net_in c.inputs c.nodes c.outs ws) (fanin (gates_from c.nodes ws 0)) P
        A.valid
        refl
        (nodes_of_put_outputs l1 (word_from ws end) c.nodes (fanin (gates_from c.nodes ws 0)) N.packed c.outs ∙ N.nodes)
        (outputs_of_put_outputs l1 (word_from ws end) c.outs outs_few N.packed.long ∙ tab_words ws end c.outs outs_inside ∙ rw N.end))

pub ruleset loads = (load_records, load_outputs, load_holds)
