-- The sweeps over the old nodes: what a turn asks, and what it leaves of the model's state.
use Prim.Native.Nat.{ℕ, suc, ◌+◌, ◌≤◌, ◌<◌}
use mathlib.Core.Path.{◌≡◌, refl, sym, ap, ap₂, ◌∙◌, subst}
use mathlib.Core.Bool.{Bool, true, false, not, cond, beq}
use mathlib.Core.List.{List}
use native.Mathlib.Omega.{arith}
use native.Mathlib.Nat.{le_antisymm}
use native.Mathlib.Numerals.{add-one}
use lib.ListN.{length}
use lib.Dec.{eqb}
use Rattle.laws.proofs.Bools.{true_false}
use Rattle.kinds.specs.Kinds.{kind_of, is_flip_flop}
use Rattle.model.specs.Signal.{flip, from_var}
use Rattle.model.specs.Gate.{Gate, Net, size, is_dff, remap_gate, shaped, fanin}
use Rattle.model.specs.Gate as model
use Rattle.model.specs.Normal.{Norm, copied, made}
use Rattle.model.specs.Network.{place, Work, dedup_node}
use Rattle.tables.specs.Layout.{net_size, tr_base, kind_at, count_at, gate_at, nodes_of, cell}
use Rattle.tables.specs.Holding.{network_of, Held}
use Rattle.tables.specs.declared.counts.Counts.{Counts}
use Rattle.tables.proofs.Building.{nodes_of_none, packed_none}
use Rattle.tables.proofs.Holding.{length_nodes_of, length_ins, size_network, gate_network, nodes_few}
use Rattle.shape.proofs.Named.{shaped_at, wired_ins}
use Rattle.shape.proofs.DedupSweep.{fanin_total, length_total, is_d, asked, up_to, up_to_turn, up_to_skip, up_to_over, up_to_start, up_to_trans, due_left, count, inputs}
use Rattle.shape.proofs.Dedup.{remap_all}
use Rattle.translation.specs.Tables.{tr_of}
use Rattle.translation.proofs.Cleared.{length_cleared, cell_cleared}
use Rattle.placing.specs.Lists.{norm_of}
use Rattle.lookup.specs.Chains.{head_base, emptied}
use Rattle.placing.specs.States.{work_of, Asks, Did, asked_gate}
use Rattle.dedup.specs.States.{Like, Sweeping, numbered, Dedupable}
use Rattle.placing.specs.declared.Built.{Built}
use Rattle.lookup.proofs.Filled.{length_filled, cell_filled_other}
use Rattle.dedup.proofs.Turned.{tr_of_numbered}
use Rattle.lookup.proofs.Chains.{chained_none}
use Rattle.placing.proofs.Lookups.{norm_law}

-- the code's test of the two kinds of sweep
pub beq_turn : (a b : Bool) → beq a b ≡ true → a ≡ b
beq_turn true true e = refl
beq_turn true false e = true_false (sym e)
beq_turn false true e = true_false (sym e)
beq_turn false false e = refl

pub beq_skip : (a b : Bool) → beq a b ≡ false → a ≡ not b
beq_skip true true e = true_false e
beq_skip true false e = refl
beq_skip false true e = refl
beq_skip false false e = true_false e

-- ---- states that agree in n translations

like_node : (n k : ℕ) (nm : Norm) (d e : Work) → Like n d e → Like n (dedup_node nm k d) (dedup_node nm k e)
unfolding dedup_node
like_node n k (copied s) d e q = record { trans = λ v h. ap (λ (x : ℕ). cond (eqb v k) s x) (q.trans v h); news = q.news }
like_node n k (made g z) d e q = record {
  trans = λ v h. ap₂ (λ (x : ℕ) (l : List Gate). cond (eqb v k) (flip (from_var (place g l).pos) z) x) (q.trans v h) q.news;
  news = ap (λ (l : List Gate). (place g l).all) q.news;
}

-- ---- a turn

module _ (src : List ℕ) (c : Counts) (can : Bool) (H : Held src c) where
  abbrev N : Net
  N = network_of src c

  abbrev norm : Gate → Norm
  norm = norm_of can

  -- nodes of the network are nodes of the area
  module _ (k : ℕ) (h : k < c.nodes) where
    in_size : k < size N
    in_size = rw (size_network src c) h

    gate_is : model.gate_at N k ≡ gate_at src k
    gate_is = gate_network src c k h

    pub cell_is : (t : Bool) (x : ℕ) → x ≡ kind_at src k → t ≡ is_flip_flop (kind_of x) → is_d norm N k ≡ t
    unfolding gate_at
    cell_is t x e f = ap is_dff gate_is ∙ ap (λ (y : ℕ). is_flip_flop (kind_of y)) (sym e) ∙ sym f

    gate_shaped : shaped (gate_at src k) ≡ true
    gate_shaped = subst (λ (g : Gate). shaped g ≡ true) gate_is (shaped_at N.nodes H.valid.gates_shaped k in_size)

    gate_length : length (model.gate_at N k).ins ≡ count_at src k
    gate_length = ap (λ (g : Gate). length g.ins) gate_is ∙ length_ins src k

  module _ (l : List ℕ) (cells : Bool) (k : ℕ) (b : Built) (S : Sweeping src l c cells can k b) (h : k < c.nodes) where
    abbrev d : Work
    d = up_to norm N cells k

    module _ (e : is_d norm N k ≡ cells) where
      -- a node that is still to come has its room left
      pub turn_asks : Asks src l k b
      turn_asks =
          let few = nodes_few src c H in
          let kk : k ≤ size N = (let q = in_size k h in omega arith) in
          let n1 = count norm N (norm_law can) H.valid.gates_shaped cells k kk in
          let n2 = due_left norm N (λ g. 1) cells k (in_size k h) e in
          let n3 = length_total N.nodes in
          let n4 : length (nodes_of l b.nodes) ≡ length d.news = ap length S.like.news in
          let n5 = length_nodes_of l b.nodes in
          let n6 = size_network src c in
          let f1 = inputs norm N (norm_law can) H.valid.gates_shaped cells k kk in
          let f2 = due_left norm N (λ g. length g.ins) cells k (in_size k h) e in
          let f3 = fanin_total N.nodes in
          let f4 : fanin (nodes_of l b.nodes) ≡ fanin d.news = ap fanin S.like.news in
          let f5 = S.stands.total in
          let f6 = H.valid.ins_few in
          let f7 = gate_length k h in
          record {
            source = H.long;
            node = omega arith;
            ends = H.ends k h;
            is_shaped = gate_shaped k h;
            room = record { stands = S.stands; chained = S.chained; more = omega arith; fits = omega arith };
          }

      -- the gate that the words ask for is the one that the model asks for
      asked_same : norm (asked_gate cells (tr_of l) (gate_at src k)) ≡ asked norm N d.trans k
      asked_same =
          ap (λ (g : Gate). norm (asked_gate cells (tr_of l) g)) (sym (gate_is k h))
          ∙ ap norm (ap (λ (t : Bool). asked_gate t (tr_of l) (model.gate_at N k)) (sym e) ∙ ap (λ (g : Gate). cond (is_d norm N k) (model.gate_at N k) g) turned)
        where
          turned : remap_gate (tr_of l) (model.gate_at N k) ≡ remap_gate d.trans (model.gate_at N k)
          turned = λ i. record {
            kind = (model.gate_at N k).kind;
            ins = remap_all (tr_of l) d.trans N.inputs (size N) (model.gate_at N k).ins (wired_ins N H.valid.signals k (in_size k h))
                (λ m q. S.like.trans m (rw (size_network src c) at q)) i;
            table = (model.gate_at N k).table;
          }

      pub turn_did : (m : List ℕ) (r : Built) → Did l m k b (norm (asked_gate cells (tr_of l) (gate_at src k))) r → Sweeping src m c cells can (k + 1) r
      turn_did m r D =
          let w : work_of m r ≡ dedup_node (asked norm N d.trans k) k (work_of l b) = D.work ∙ ap (λ (x : Norm). dedup_node x k (work_of l b)) asked_same in
          let q : Like c.nodes (work_of m r) (up_to norm N cells (suc k)) =
          subst (λ (x : Work). Like c.nodes x (up_to norm N cells (suc k))) (sym w)
          (subst (λ (y : Work). Like c.nodes (dedup_node (asked norm N d.trans k) k (work_of l b)) y) (sym (up_to_turn norm N cells k e))
          (like_node c.nodes k (asked norm N d.trans k) (work_of l b) d S.like)) in
          record { held = H; stands = D.stands; chained = D.chained; like = rw add-one q }

    pub turn_skip : is_d norm N k ≡ not cells → Sweeping src l c cells can (k + 1) b
    turn_skip e = record {
      held = H;
      stands = S.stands;
      chained = S.chained;
      like = rw add-one (subst (λ (y : Work). Like c.nodes (work_of l b) y) (sym (up_to_skip norm N cells k e)) S.like);
    }

-- ---- the loop

module _ (src l : List ℕ) (c : Counts) (cells can : Bool) (v : ℕ) (b : Built) (S : Sweeping src l c cells can v b) where
  pub sweep_kind : v < c.nodes → (v < 512) × (net_size ≤ length src)
  sweep_kind h = (omega (arith, nodes_few src c S.held), S.held.long)

  pub sweep_end : v ≤ c.nodes → c.nodes ≤ v → Sweeping src l c cells can c.nodes b
  sweep_end a z = subst (λ (k : ℕ). Sweeping src l c cells can k b) (le_antisymm a z) S

module _ (src l : List ℕ) (c : Counts) (cells can : Bool) (v : ℕ) (b : Built) (S : Sweeping src l c cells can v b) (h : v < c.nodes) (x : ℕ) (t : Bool)
    (ex : x ≡ kind_at src v) (et : t ≡ is_flip_flop (kind_of x)) (w : Bool) (ew : w ≡ beq t cells) where
  pub sweep_asks : w ≡ true → Asks src l v b
  sweep_asks q = turn_asks src c can S.held l cells v b S h (cell_is src c can S.held v h t x ex et ∙ beq_turn t cells (sym ew ∙ q))

  pub sweep_turn : w ≡ true → (m : List ℕ) (r : Built) → Did l m v b (norm_of can (asked_gate cells (tr_of l) (gate_at src v))) r → Sweeping src m c cells can (v + 1) r
  sweep_turn q m r D = turn_did src c can S.held l cells v b S h (cell_is src c can S.held v h t x ex et ∙ beq_turn t cells (sym ew ∙ q)) m r D

  pub sweep_skip : w ≡ false → Sweeping src l c cells can (v + 1) b
  sweep_skip q = turn_skip src c can S.held l cells v b S h (cell_is src c can S.held v h t x ex et ∙ beq_skip t cells (sym ew ∙ q))

-- ---- where the sweeps begin

pub sweep_start : (src l e m : List ℕ) (c : Counts) (can : Bool) (b : Built) → Dedupable src l c → e ≡ emptied l 256 → m ≡ numbered e c.nodes → b.nodes ≡ 0 → b.fanin ≡ 0
    → Sweeping src m c true can 0 b
unfolding fanin
sweep_start src l e m c can b D ee em bn bf =
    let few = nodes_few src c D.held in
    let y : 16384 ≤ length e = rw (ee, length_cleared) D.long in
    let z : 16384 ≤ length (numbered e c.nodes) = rw length_filled y in
    rw em (record {
      held = D.held;
      stands = record {
        long = z;
        packed = rw (bn, bf) (packed_none (numbered e c.nodes) (omega arith));
        firsts = λ v h. absurd (omega arith);
        total = rw (bn, bf) (sym (ap fanin (nodes_of_none (numbered e c.nodes))));
      };
      chained = rw bn (chained_none (numbered e c.nodes)
          (λ h q. cell_filled_other e tr_base _ c.nodes head_base h (λ i p. omega arith) ∙ ap (λ (x : List ℕ). cell x head_base h) ee ∙ cell_cleared l head_base 256 h (omega (arith, D.long)) q));
      like = record {
        trans = λ v h. tr_of_numbered e y c.nodes v few h ∙ sym (up_to_trans (norm_of can) (network_of src c) v);
        news = rw bn (nodes_of_none (numbered e c.nodes) ∙ sym (up_to_start (norm_of can) (network_of src c)));
      };
    })

pub sweep_over : (src l : List ℕ) (c : Counts) (can : Bool) (b : Built) → Sweeping src l c true can c.nodes b → Sweeping src l c false can 0 b
sweep_over src l c can b S = record {
  held = S.held;
  stands = S.stands;
  chained = S.chained;
  like = subst (λ (y : Work). Like c.nodes (work_of l b) y)
      (ap (up_to (norm_of can) (network_of src c) true) (sym (size_network src c)) ∙ sym (up_to_over (norm_of can) (network_of src c))) S.like;
}
