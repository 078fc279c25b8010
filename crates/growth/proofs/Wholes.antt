-- Laws of writing the new nodes, and of the whole grown network.
use Prim.Native.Nat.{suc, ℕ, ◌*◌, ◌+◌, ◌-◌, ◌/◌, ◌<◌, ◌≤◌}
use mathlib.Core.Path.{ap, ap₂, refl, sym, ◌∙◌, ◌≡◌}
use mathlib.Core.Logic.{inl, inr}
use mathlib.Core.List.{List, [], append_assoc, append-nil, map, map-append, ◌++◌, ◌∷◌}
use native.Mathlib.Omega.{arith}
use native.Mathlib.Nat.{add-zero}
use native.Mathlib.Numerals.{add-one}
use native.Mathlib.Decide.{dec_lt}
use mir.Syntax.{w64}
use mir.Val.{Fits}
use lib.ListN.{length}
use lib.Dec.{ltb}
use borrow.Author.Tests.{ltb-true}
use Rattle.growth.specs.Growing.{Begun, Ended, Grows, Nodes, Paired, Puts, Whole, either}
use Rattle.kinds.specs.Kinds.{code_of}
use Rattle.laws.specs.Lists.{tab}
use Rattle.model.specs.Gate.{Net, fanin, named, named_ref}
use Rattle.model.specs.Sharing.{Pair, factoring, grown, pair_gate, replaced, taken, two_of}
use Rattle.model.specs.Signal.{ref, rinput}
use Rattle.pairs.specs.Lists.{area_size, left_at, lists_of, pair_at}
use Rattle.pairs.specs.States.{state_of}
use Rattle.shape.specs.Room.{buf_inputs, room_of}
use Rattle.tables.specs.Building.{Packed, put_node, put_outputs}
use Rattle.tables.specs.Holding.{Held, network_of}
use Rattle.tables.specs.Layout.{first_at, input_at, net_of, net_size, nodes_of, output_at, outputs_of}
use Rattle.uses.specs.Loading.{SameLists, Source, lists_in}
use Rattle.uses.specs.Uses.{Named}
use Rattle.growth.proofs.Growings.{is_two, lists_put_node}
use Rattle.laws.proofs.Bools.{and_right}
use Rattle.laws.proofs.Lists.{all_at}
use Rattle.laws.proofs.Tabs.{length_tab, tab_ext}
use Rattle.model.proofs.Words.{input_ref, var_ref}
use Rattle.pairs.proofs.Gates.{get_or_lists, length_list, length_lists}
use Rattle.pairs.proofs.Stated.{pair≡}
use Rattle.shape.proofs.FactoringGrown.{ended, ended_one, fanin_grown, grown_nodes, room_fits, size_grown, valid_grown}
use Rattle.shape.proofs.Named.{Here, here_node, here_word}
use Rattle.tables.proofs.Building.{nodes_of_put_node, nodes_of_put_outputs, outputs_of_put_outputs, packed_put_node, packed_put_outputs}
use Rattle.tables.proofs.Holding.{input_named, inputs_few, length_nodes_of, length_outputs_of, nodes_few, outs_few, size_network, total_few}
use Rattle.uses.proofs.Tallies.{lists_on, lists_same}
use Rattle.kinds.specs.declared.Family.{Family}
use Rattle.tables.specs.declared.counts.Counts.{Counts}
use Rattle.tables.proofs.Holding.{holds as held-network}

-- ---- put_pairs

pub record Pairing (f : Family) (l₀ l : List ℕ) (n k at j : ℕ) : Type 0 where
  pub upto : j ≤ k
  pub same : SameLists l₀ l
  pub packed : Packed l (n + j) (at + 2 * j)
  pub nodes : nodes_of l (n + j) ≡ nodes_of l₀ n ++ map (pair_gate f) (tab (λ i. pair_at l₀ (n + i)) j)

pub pairs_start : (f : Family) (l : List ℕ) (n k at : ℕ) → Paired l n k at → Pairing f l l n k at 0
unfolding tab
pairs_start f l n k at P =
    let e : at + 2 * 0 ≡ at = omega arith in
    record {
      upto = omega arith;
      same = lists_same l;
      packed = rw (add-zero n, e) P.packed;
      nodes = rw (add-zero n) (sym (append-nil (nodes_of l n)));
    }

pair_same : (l₀ l : List ℕ) (a b v : ℕ) → SameLists l₀ l → a ≡ (pair_at l v).fst → b ≡ (pair_at l v).snd → ◌≡◌ {A = Pair} (record { fst = a; snd = b }) (pair_at l₀ v)
unfolding pair_at
pair_same l₀ l a b v S ea eb = pair≡ (ea ∙ S.starts v) (eb ∙ S.lefts v)

built_suc : (f : Family) (l : List ℕ) (n j : ℕ)
    → map (pair_gate f) (tab (λ i. pair_at l (n + i)) (suc j)) ≡ map (pair_gate f) (tab (λ i. pair_at l (n + i)) j) ++ (pair_gate f (pair_at l (n + j)) ∷ [])
unfolding tab
built_suc f l n j = map-append (pair_gate f) (tab (λ i. pair_at l (n + i)) j) (pair_at l (n + j) ∷ [])

module _ (f : Family) (l₀ l : List ℕ) (n k at j : ℕ) (inv : Pairing f l₀ l n k at j) (P : Paired l₀ n k at) where
  module _ (h : j < k) where
    pub pairs_few : n + j < 512
    pairs_few = omega (arith, P.nodes)

    pub pairs_node : Fits w64 (n + j)
    pairs_node = record { fits = omega (arith, P.nodes) }

    pub pairs_two : Fits w64 (2 * j)
    pairs_two = record { fits = omega (arith, P.nodes) }

    pub pairs_at : Fits w64 (at + 2 * j)
    pairs_at = record { fits = omega (arith, P.room) }

    pub pairs_long : area_size ≤ length l
    pairs_long = omega (arith, P.long, inv.same.long)

    room : at + 2 * j + 2 ≤ 2048
    room = omega (arith, P.room)

    pub pairs_puts : Puts l (n + j) (at + 2 * j) 2
    pairs_puts = record { long = inv.packed.long; few = pairs_few; room = room }

    pub pairs_next : (a b : ℕ) (m : List ℕ) → a ≡ (pair_at l (n + j)).fst → b ≡ (pair_at l (n + j)).snd → m ≡ put_node l (n + j) (code_of (two_of f)) (at + 2 * j) (either a b) 2 0 0 → length m ≡ length l
        → Pairing f l₀ m n k at (j + 1)
    pairs_next a b m ea eb em len =
        let c = code_of (two_of f) in
        let x = at + 2 * j in
        let v = n + j in
        let p : ◌≡◌ {A = Pair} (record { fst = a; snd = b }) (pair_at l₀ (n + j)) = pair_same l₀ l a b (n + j) inv.same ea eb in
        let e1 : n + suc j ≡ suc (n + j) = omega arith in
        let e2 : at + 2 * suc j ≡ at + 2 * j + 2 = omega arith in
        rw (em, add-one j)
        (record {
          upto = h;
          same = lists_on l₀ l (put_node l v c x (either a b) 2 0 0) inv.same (lists_put_node l v c x (either a b) 2 0 0 pairs_few room);
          packed = rw (e1, e2) (packed_put_node l v x inv.packed c (either a b) 2 0 0 pairs_few room);
          nodes =
              rw e1
              (nodes_of_put_node l v x inv.packed c (either a b) 2 0 0 pairs_few room
              ∙ ap₂ ◌++◌ inv.nodes (ap (λ g. g ∷ []) (is_two f a b ∙ ap (pair_gate f) p))
              ∙ append_assoc (nodes_of l₀ n) (map (pair_gate f) (tab (λ i. pair_at l₀ (n + i)) j)) (pair_gate f (pair_at l₀ (n + j)) ∷ [])
              ∙ ap (◌++◌ (nodes_of l₀ n)) (sym (built_suc f l₀ n j)));
        })

  pub pairs_end : k ≤ j → Whole f l₀ l n k at
  pairs_end h =
      let a = inv.upto in
      let e : j ≡ k = omega arith in
      rw (← e) (record { long = inv.same.long; packed = inv.packed; nodes = inv.nodes })

pub ruleset pairings = (pairs_start, pairs_few, pairs_node, pairs_two, pairs_at, pairs_long, pairs_puts, pairs_next, pairs_end)

-- ---- what a held network gives to read

named_input : (i n s k : ℕ) → Here i n s → ref s ≡ rinput k → k < i
unfolding named
named_input i n s k e r = ltb-true k i (rw r at (and_right (ltb s 4294967296) (named_ref i n (ref s)) e))

module _ (from : List ℕ) (c : Counts) (H : Held from c) where
  named_use : (s : ℕ) → Here c.inputs c.nodes s → Named s
  named_use s e =
      let word = here_word c.inputs c.nodes s e in
      let few = nodes_few from c H in
      let fewer = inputs_few from c H in
      elim (dec_lt s 2147483648) [
        | yes low ↦ elim (dec_lt s 2) [
          | yes tiny ↦ inl (omega arith)
          | no some ↦ (let w = here_node c.inputs c.nodes s (s / 2 - 1) e (var_ref s (omega arith) low) in inl (omega arith))
        ]
        | no high ↦ (let w = named_input c.inputs c.nodes s (2147483647 - s / 2) e (input_ref s (omega arith)) in inr (omega arith, word))
      ]

  pub source_of : Source from c.nodes
  source_of = record {
    long = H.long;
    few = nodes_few from c H;
    nodes = λ v h. record { long = H.long; few = omega (arith, nodes_few from c H); ends = H.ends v h; names = λ j q. named_use (input_at from (first_at from v + j)) (input_named from c H v h j q) };
    room = total_few from c H;
  }

-- ---- grow

outs_tab : (from : List ℕ) (m : ℕ) → outputs_of from m ≡ tab (output_at from) m
unfolding outputs_of
outs_tab from m = refl

counts≡ : {a b : Counts} → a.inputs ≡ b.inputs → a.nodes ≡ b.nodes → a.outs ≡ b.outs → a ≡ b
counts≡ p q r = λ i. record { inputs = p i; nodes = q i; outs = r i }

-- the end of the pass, in the words' own names
pub ended_is : (f : Family) (from : List ℕ) (c : Counts) → ended f (network_of from c) ≡ factoring (lists_in f from c.nodes) c.nodes
unfolding ended network_of net_of lists_in
ended_is f from c = ap (factoring (taken f (nodes_of from c.nodes))) (length_nodes_of from c.nodes)

pub length_is : (f : Family) (from : List ℕ) (c : Counts) → length (taken f (network_of from c).nodes) ≡ length (lists_in f from c.nodes)
unfolding network_of net_of lists_in
length_is f from c = refl

pub nodes_are : (from : List ℕ) (c : Counts) → (network_of from c).nodes ≡ nodes_of from c.nodes
unfolding network_of net_of
nodes_are from c = refl

outs_are : (from : List ℕ) (c : Counts) → (network_of from c).outs ≡ outputs_of from c.outs
unfolding network_of net_of
outs_are from c = refl

inputs_are : (from : List ℕ) (c : Counts) → (network_of from c).inputs ≡ c.inputs
unfolding network_of net_of
inputs_are from c = refl

grown_inputs : (f : Family) (N : Net) → (grown f N).inputs ≡ N.inputs
unfolding grown
grown_inputs f N = refl

grown_outs : (f : Family) (N : Net) → (grown f N).outs ≡ N.outs
unfolding grown
grown_outs f N = refl

module _ (f : Family) (from l : List ℕ) (c : Counts) (k : ℕ) (E : Ended f from l c k) where
  end_is : ended f (network_of from c) ≡ state_of l (length (lists_in f from c.nodes)) c.nodes k
  end_is = ended_is f from c ∙ sym E.state

  lists_is : (ended f (network_of from c)).lists ≡ lists_of l (length (lists_in f from c.nodes))
  unfolding state_of
  lists_is = ap (λ s. s.lists) end_is

  built_is : (ended f (network_of from c)).built ≡ tab (λ j. pair_at l (c.nodes + j)) k
  unfolding state_of
  built_is = ap (λ s. s.built) end_is

  built_count : length (ended f (network_of from c)).built ≡ k
  built_count = ap length built_is ∙ length_tab (λ j. pair_at l (c.nodes + j)) k

  pub ended_fits : length (ended f (network_of from c)).built ≤ room_of f (network_of from c).nodes
  ended_fits = omega (arith, E.fits, built_count, ap (room_of f) (nodes_are from c))

  few : (c.nodes + k ≤ 512) × (buf_inputs f (nodes_of from c.nodes) + 2 * k ≤ 2048)
  few =
      let r = room_fits f (network_of from c) E.held.valid.nodes_few E.held.valid.ins_few ended_fits in
      let a = size_grown f (network_of from c) in
      let b = fanin_grown f (network_of from c) in
      let d : fanin (grown f (network_of from c)).nodes ≡ buf_inputs f (nodes_of from c.nodes) + 2 * k = rw (← (nodes_are from c), ← built_count) b in
      (omega (arith, r.0, a, size_network from c, built_count), omega (arith, r.1, d))

  one_at : (i : ℕ) → i < length (lists_in f from c.nodes) → left_at l i ≡ 1
  one_at i h =
      let a = rw lists_is at (ended_one f (network_of from c)) in
      let b = all_at (λ x. length x ≡ 1) (lists_of l (length (lists_in f from c.nodes))) [] a i (rw (length_lists l (length (lists_in f from c.nodes))) h) in
      sym (length_list l i) ∙ ap length (sym (get_or_lists l (length (lists_in f from c.nodes)) i h)) ∙ b

  pub grow_begun : Begun f from l c.nodes
  grow_begun = record { source = source_of from c E.held; laid = E.laid; ones = one_at }

  pub grow_nodes : Fits w64 (c.nodes + k)
  grow_nodes = record { fits = omega (arith, few.0) }

  module _ (m : List ℕ) (at : ℕ) (A : Nodes f from l m c.nodes at) where
    pub grow_paired : Paired m c.nodes k at
    grow_paired = record {
      long = omega (arith, E.laid.long, A.same.long);
      packed = A.packed;
      nodes = few.0;
      room = omega (arith, few.1, A.count);
    }

    module _ (o : List ℕ) (W : Whole f m o c.nodes k at) where
      pub grow_long : net_size ≤ length o
      grow_long = W.packed.long

      pub grow_outs : c.outs ≤ 64
      grow_outs = outs_few from c E.held

      pub grow_from : net_size ≤ length from
      grow_from = E.held.long

      pairs_same : tab (λ j. pair_at m (c.nodes + j)) k ≡ tab (λ j. pair_at l (c.nodes + j)) k
      unfolding pair_at
      pairs_same = tab_ext _ _ k (λ j h. pair≡ (A.same.starts (c.nodes + j)) (A.same.lefts (c.nodes + j)))

      whole_nodes : nodes_of o (c.nodes + k) ≡ (grown f (network_of from c)).nodes
      whole_nodes =
          W.nodes
          ∙ ap₂ ◌++◌ (A.nodes ∙ ap₂ (replaced f) (sym (nodes_are from c)) (sym lists_is)) (ap (map (pair_gate f)) (pairs_same ∙ sym built_is))
          ∙ sym (grown_nodes f (network_of from c))

      pub grow_done : (q : List ℕ) → q ≡ put_outputs o (output_at from) c.outs → Grows f from q c (record { inputs = c.inputs; nodes = c.nodes + k; outs = c.outs })
      grow_done q eq =
          let N = network_of from c in
          let r : Counts = record { inputs = c.inputs; nodes = c.nodes + k; outs = c.outs } in
          let p = packed_put_outputs o (output_at from) (c.nodes + k) (at + 2 * k) W.packed c.outs in
          record {
            counts = counts≡
                (sym (grown_inputs f N ∙ inputs_are from c))
                (omega (arith, size_grown f N, size_network from c, built_count))
                (sym (ap length (grown_outs f N ∙ outs_are from c) ∙ length_outputs_of from c.outs));
            holds =
                rw eq
                (held-network (put_outputs o (output_at from) c.outs) r (grown f N) (at + 2 * k) p (valid_grown f N E.held.valid ended_fits)
                (sym (grown_inputs f N ∙ inputs_are from c))
                (nodes_of_put_outputs o (output_at from) (c.nodes + k) (at + 2 * k) W.packed c.outs ∙ whole_nodes)
                (outputs_of_put_outputs o (output_at from) c.outs grow_outs grow_long ∙ sym (grown_outs f N ∙ outs_are from c ∙ outs_tab from c.outs)));
          }

pub ruleset grows = (grow_begun, grow_nodes, grow_paired, grow_long, grow_outs, grow_from, grow_done)
