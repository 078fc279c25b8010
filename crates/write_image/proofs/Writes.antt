-- The laws of writing as the code meets them: a premise is a test, a callee's promise or an invariant, as it stands in a need.
use mathlib.Core.Path.{◌≡◌, refl, sym, ap, ◌∙◌}
use mathlib.Core.Bool.{Bool, true, false, not}
use mathlib.Core.List.{List, ◌∷◌, ◌++◌}
use Prim.Native.Nat.{ℕ, suc, ◌+◌, ◌*◌, ◌≤◌, ◌<◌}
use native.Mathlib.Nat.{le_antisymm}
use native.Mathlib.Omega.{arith}
use native.Mathlib.Numerals.{add-one}
use lib.ListN.{length, set, length-append}
use denote.Enum.Bare.{sameb, same_true, same_false, differs_true, differs_false}
use mir.Val.{Fits}
use mir.Syntax.{w64}
use Rattle.kinds.specs.Kinds.{kind_of}
use Rattle.kinds.specs.contracts.Kind.{the_type}
use Rattle.kinds.specs.declared.Kind.{Kind}
use Rattle.kinds.specs.declared.Kind.TheVariants.{Lut}
use Rattle.laws.specs.Lists.{tab}
use Rattle.laws.proofs.Tabs.{length_tab}
use Rattle.model.specs.Image.{table_words, gate_words, gates_words, body_words, net_words, image_of}
use Rattle.model.specs.Answers.{laid_over}
use Rattle.model.proofs.Bytes.{length_bytes}
use Rattle.words.specs.Stores.{put_word}
use Rattle.tables.specs.Layout.{kind_at, first_at, count_at, input_at, low_at, high_at, output_at, ins_at, gate_at, nodes_of, outputs_of, net_of, cell, tr_base}
use Rattle.tables.specs.Holding.{network_of, Held}
use Rattle.tables.specs.declared.counts.Counts.{Counts}
use Rattle.tables.proofs.Holding.{length_nodes_of, inputs_few, nodes_few, outs_few, kind_known}
use Rattle.image_trailer.specs.Trailers.{put_words, trailer_words, Trailer}
use Rattle.write_image.specs.Writing.{ins_from, outs_from, mapping_in, Node, Inputs, Writes, Put, Room, Outputs, Mapped}
use Rattle.write_image.proofs.Stored.{put_words_append, put_words_laid, put_none, put_more, put_next, laid_none, laid_next}
use Rattle.write_image.proofs.Sizes.{of_lut, of_other, table_plain, table_lut, length_table, record_words, length_record, words_none, words_next, length_next, length_within, length_image, words_few}

-- ---- record_len and image_len

pub node_held : (l : List ℕ) (c : Counts) (v : ℕ) → Held l c → v < c.nodes → Node l v
node_held l c v H h = record { long = H.long; few = omega (arith, nodes_few l c H); ends = H.ends v h; known = kind_known l c H v h }

module _ (l : List ℕ) (v n : ℕ) (a : n ≡ count_at l v) (k : ℕ) (q : k ≡ kind_at l v) (s : Kind) (e : s ≡ kind_of k) (b : Bool) (d : b ≡ sameb the_type s Lut) where
  pub len_lut : Node l v → b ≡ true → n + 3 ≡ length (gate_words (gate_at l v))
  len_lut N t = omega (arith, length_record l v, length_table l v (of_lut l v k q s e N.known (same_true the_type tt s Lut (sym d ∙ t))))

  pub len_plain : b ≡ false → n + 1 ≡ length (gate_words (gate_at l v))
  len_plain t =
      let z : length (table_words (gate_at l v)) ≡ 0 = ap length (table_plain l v (of_other l v k q s e (same_false the_type s Lut (sym d ∙ t)))) in
      omega (arith, length_record l v)

pub len_none : (l : List ℕ) → 0 ≡ length (gates_words (nodes_of l 0))
len_none l = ap length (sym (words_none l))

module _ (l : List ℕ) (c : Counts) (H : Held l c) (v n : ℕ) (I : (v ≤ c.nodes) × (n ≡ length (gates_words (nodes_of l v)))) where
  module _ (h : v < c.nodes) (m : ℕ) (k : m ≡ length (gate_words (gate_at l v))) where
    pub len_next : (v + 1 ≤ c.nodes) × (n + m ≡ length (gates_words (nodes_of l (v + 1))))
    len_next = (omega arith, rw (add-one v) (omega (arith, length_next l v, I.1)))

    pub len_fits : Fits w64 (n + m)
    len_fits = record { fits = omega (arith, length_next l v, words_few l c H (suc v) h, I.1) }

  module _ (h : c.nodes ≤ v) where
    pub len_all : 4 * (n + c.outs + 4) ≡ length (image_of (network_of l c))
    len_all = let z : v ≡ c.nodes = le_antisymm I.0 h in rw (length_image l c, ← z, I.1)

    pub len_few : n ≤ 3584
    len_few = omega (arith, words_few l c H v I.0, I.1)

    pub len_add : Fits w64 (n + c.outs)
    len_add = record { fits = omega (arith, len_few, outs_few l c H) }

    pub len_add4 : Fits w64 (n + c.outs + 4)
    len_add4 = record { fits = omega (arith, len_few, outs_few l c H) }

    pub len_mul : Fits w64 (4 * (n + c.outs + 4))
    len_mul = record { fits = omega (arith, len_few, outs_few l c H) }

-- ---- write_inputs and write_outputs

module _ (l : List ℕ) (first n : ℕ) (b : List ℕ) (at : ℕ) (P : Inputs l first n b at) where
  pub ins_none : b ≡ put_words b at (ins_from l first 0)
  unfolding put_words ins_from tab
  ins_none = refl

  module _ (b' : List ℕ) (j : ℕ) (I : (j ≤ n) × (length b' ≡ length b) × (b' ≡ put_words b at (ins_from l first j))) where
    pub ins_next : j < n → (s : ℕ) → s ≡ input_at l (first + j) → (b'' : List ℕ) → length b'' ≡ length b' → b'' ≡ put_word b' (at + 4 * j) s
        → (j + 1 ≤ n) × (length b'' ≡ length b) × (b'' ≡ put_words b at (ins_from l first (j + 1)))
    unfolding ins_from
    ins_next h s k b'' z q = (omega arith, z ∙ I.1, rw add-one (q ∙ put_next b at (λ i. input_at l (first + i)) j b' I.2 s k))

module _ (l : List ℕ) (n : ℕ) (b : List ℕ) (at : ℕ) (P : Outputs l n b at) where
  pub outs_none : b ≡ put_words b at (outs_from l 0)
  unfolding put_words outs_from tab
  outs_none = refl

  module _ (b' : List ℕ) (j : ℕ) (I : (j ≤ n) × (length b' ≡ length b) × (b' ≡ put_words b at (outs_from l j))) where
    pub outs_next : j < n → (s : ℕ) → s ≡ output_at l j → (b'' : List ℕ) → length b'' ≡ length b' → b'' ≡ put_word b' (at + 4 * j) s
        → (j + 1 ≤ n) × (length b'' ≡ length b) × (b'' ≡ put_words b at (outs_from l (j + 1)))
    unfolding outs_from
    outs_next h s k b'' z q = (omega arith, z ∙ I.1, rw add-one (q ∙ put_next b at (output_at l) j b' I.2 s k))

-- ---- write_table and write_gate

module _ (l : List ℕ) (v : ℕ) (out : List ℕ) (at : ℕ) (W : Writes l v (table_words (gate_at l v)) out at) (k : ℕ) (q : k ≡ kind_at l v) (s : Kind)
    (e : s ≡ kind_of k) (b : Bool) (d : b ≡ not (sameb the_type s Lut)) where
  pub put_plain : b ≡ true → Put out at (table_words (gate_at l v)) out at
  put_plain t = rw (table_plain l v (of_other l v k q s e (differs_true the_type s Lut (sym d ∙ t)))) (put_none out at)

  module _ (t : b ≡ false) where
    is_lut : kind_at l v ≡ 14
    is_lut = of_lut l v k q s e W.node.known (differs_false the_type tt s Lut (sym d ∙ t))

    table_room : at + 8 ≤ length out
    table_room = omega (arith, W.room, length_table l v is_lut)

    pub low_room : at + 4 ≤ length out
    low_room = omega (arith, table_room)

    pub high_room : (n : ℕ) → n ≡ length out → at + 4 + 4 ≤ n
    high_room n s = omega (arith, table_room)

    pub put_lut : (low high : ℕ) → low ≡ low_at l v → high ≡ high_at l v → low < 4294967296 → (out1 out2 : List ℕ) → out1 ≡ put_word out at low
        → out2 ≡ put_word out1 (at + 4) high → Put out at (table_words (gate_at l v)) out2 (at + 8)
    unfolding put_words
    put_lut low high a z f out1 out2 e1 e2 =
        rw (table_lut l v is_lut (rw (← a) f))
        (record { bytes = e2 ∙ rw (e1, a, z); end = omega arith })

module _ (l : List ℕ) (v : ℕ) (out : List ℕ) (at : ℕ) (W : Writes l v (gate_words (gate_at l v)) out at) where
  pub head_room : at + 4 ≤ length out
  head_room = omega (arith, W.room, length_record l v)

  module _ (n : ℕ) (e : n ≡ count_at l v) where
    pub gate_inputs : (first : ℕ) → first ≡ first_at l v → (out1 : List ℕ) → length out1 ≡ length out → Inputs l first n out1 (at + 4)
    gate_inputs first f out1 s = record {
      long = W.node.long;
      inside = omega (arith, W.node.ends);
      room = omega (arith, W.room, length_record l v);
    }

    pub gate_table : (out1 out2 : List ℕ) → length out1 ≡ length out → length out2 ≡ length out1 → Writes l v (table_words (gate_at l v)) out2 (at + 4 + 4 * n)
    gate_table out1 out2 s t = record { node = W.node; room = omega (arith, W.room, length_record l v) }

    pub gate_put : (k first : ℕ) → k ≡ kind_at l v → first ≡ first_at l v → (out1 out2 out3 : List ℕ) (r : ℕ) → out1 ≡ put_word out at (k + 256 * n)
        → out2 ≡ put_words out1 (at + 4) (ins_from l first n) → Put out2 (at + 4 + 4 * n) (table_words (gate_at l v)) out3 r → Put out at (gate_words (gate_at l v)) out3 r
    unfolding put_words ins_from ins_at
    gate_put k first q f out1 out2 out3 r e1 e2 P =
        let h = k + 256 * n in
        let xs = ins_from l first n in
        let ts = table_words (gate_at l v) in
        let lx : length xs ≡ n = length_tab (λ j. input_at l (first + j)) n in
        let ws : gate_words (gate_at l v) ≡ h ∷ (xs ++ ts) = record_words l v ∙ rw (← q, ← e, ← f) in
        rw ws
        (record {
          bytes = P.bytes ∙ rw (e2, e1) (sym (put_words_append (put_word out at h) (at + 4) xs ts ∙ ap (λ (m : ℕ). put_words (put_words (put_word out at h) (at + 4) xs) (at + 4 + 4 * m) ts) lx));
          end = P.end ∙ rw length-append (omega arith);
        })

-- ---- write_nodes

pub nodes_none : (l out : List ℕ) → Put out 0 (gates_words (nodes_of l 0)) out 0
nodes_none l out = rw (words_none l) (put_none out 0)

module _ (l out₀ : List ℕ) (v : ℕ) (out : List ℕ) (at : ℕ) (P : Put out₀ 0 (gates_words (nodes_of l v)) out at) where
  pub node_writes : (c : Counts) → Room l c (gates_words (nodes_of l c.nodes)) out₀ → v < c.nodes → length out ≡ length out₀
      → Writes l v (gate_words (gate_at l v)) out at
  node_writes c R h s = record { node = node_held l c v R.held h; room = omega (arith, R.room, P.end, length_within l v c.nodes h) }

  pub nodes_next : (out' : List ℕ) (r : ℕ) → Put out at (gate_words (gate_at l v)) out' r → Put out₀ 0 (gates_words (nodes_of l (v + 1))) out' r
  nodes_next out' r Q = rw (add-one v, words_next l v, Q.end) (put_more out₀ 0 (gates_words (nodes_of l v)) out at P (gate_words (gate_at l v)) out' Q.bytes)

-- ---- write_image

module _ (l : List ℕ) (c : Counts) where
  length_outs_from : length (outs_from l c.outs) ≡ c.outs
  unfolding outs_from
  length_outs_from = length_tab (output_at l) c.outs

  net_words_lem : (end : ℕ) → end ≡ 0 + 4 * length (gates_words (nodes_of l c.nodes))
      → net_words (network_of l c) ≡ (gates_words (nodes_of l c.nodes) ++ outs_from l c.outs) ++ trailer_words c (end + 4 * c.outs)
  unfolding net_words body_words network_of net_of outs_from outputs_of
  net_words_lem end e =
      let gs = gates_words (nodes_of l c.nodes) in
      let os = outs_from l c.outs in
      let d : 4 * (length (gs ++ os) + 4) ≡ end + 4 * c.outs + 16 = rw length-append (omega (arith, length_outs_from)) in
      rw (length_nodes_of, length_outs_from, d)

module _ (l : List ℕ) (c : Counts) (out : List ℕ) (R : Room l c (net_words (network_of l c)) out) where
  length_words : length (net_words (network_of l c)) ≡ length (gates_words (nodes_of l c.nodes)) + c.outs + 4
  unfolding image_of
  length_words = omega (arith, length_image l c, length_bytes (net_words (network_of l c)))

  pub records_room : Room l c (gates_words (nodes_of l c.nodes)) out
  records_room = record { held = R.held; room = omega (arith, R.room, length_words) }

  module _ (out1 : List ℕ) (end : ℕ) (P : Put out 0 (gates_words (nodes_of l c.nodes)) out1 end) where
    end_few : end ≤ 14336
    end_few = omega (arith, P.end, words_few l c R.held c.nodes (omega arith))

    pub outs_fit : Fits w64 (4 * c.outs)
    outs_fit = record { fits = omega (arith, outs_few l c R.held) }

    pub end_fit : Fits w64 (end + 4 * c.outs)
    end_fit = record { fits = omega (arith, end_few, outs_few l c R.held) }

    pub outs_asked : length out1 ≡ length out → Outputs l c.outs out1 end
    outs_asked s = record { long = R.held.long; few = outs_few l c R.held; room = omega (arith, P.end, R.room, length_words) }

    pub trailer_asked : length out1 ≡ length out → (out2 : List ℕ) → length out2 ≡ length out1 → Trailer c out2 (end + 4 * c.outs)
    trailer_asked s out2 t = record {
      inputs_few = inputs_few l c R.held;
      nodes_few = nodes_few l c R.held;
      outs_few = outs_few l c R.held;
      few = omega (arith, end_few, outs_few l c R.held);
      room = omega (arith, P.end, R.room, length_words);
    }

    pub image_laid : (out2 out3 : List ℕ) → out2 ≡ put_words out1 end (outs_from l c.outs) → out3 ≡ put_words out2 (end + 4 * c.outs) (trailer_words c (end + 4 * c.outs))
        → out3 ≡ laid_over (image_of (network_of l c)) out
    unfolding image_of
    image_laid out2 out3 e2 e3 =
        let gs = gates_words (nodes_of l c.nodes) in
        let os = outs_from l c.outs in
        let tr = trailer_words c (end + 4 * c.outs) in
        let lo = length_outs_from l c in
        let Q = put_more out 0 gs out1 end P os out2 e2 in
        let S = put_more out 0 (gs ++ os) out2 (end + 4 * length os) Q tr out3 (rw lo e3) in
        S.bytes ∙ ap (put_words out 0) (sym (net_words_lem l c end P.end)) ∙ put_words_laid out (net_words (network_of l c)) R.room

-- ---- write_mapping

module _ (l : List ℕ) (old : ℕ) (map₀ : List ℕ) (M : Mapped l old map₀) where
  pub mapping_none : map₀ ≡ laid_over (mapping_in l 0) map₀
  unfolding mapping_in tab
  mapping_none = laid_none map₀

  module _ (map : List ℕ) (i : ℕ) (e : map ≡ laid_over (mapping_in l i) map₀) where
    pub mapping_all : i ≤ old → old ≤ i → map ≡ laid_over (mapping_in l old) map₀
    mapping_all a b = e ∙ ap (λ (k : ℕ). laid_over (mapping_in l k) map₀) (le_antisymm a b)

    pub mapping_next : i < old → (x : ℕ) → x ≡ cell l tr_base i → set map i x ≡ laid_over (mapping_in l (i + 1)) map₀
    unfolding mapping_in tab
    mapping_next h x k =
        rw (e, k, add-one) (laid_next (tab (cell l tr_base) i) map₀ i (cell l tr_base i) (length_tab (cell l tr_base) i) (omega (arith, M.room)))
