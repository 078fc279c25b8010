-- The walk over what outputs reach, in the tables; and the whole.
use mathlib.Core.Path.{◌≡◌, refl, sym, ap, ap₂, ◌∙◌, subst}
use mathlib.Core.Logic.{◌⊎◌, inl, inr}
use mathlib.Core.Bool.{Bool, true, false}
use Prim.Native.Nat.{ℕ, zero, suc, ◌+◌, ◌-◌, ◌<◌, ◌≤◌}
use native.Mathlib.Omega.{arith}
use native.Mathlib.Decide.{ℕ_discrete}
use mathlib.Core.List.{List, [], ◌∷◌, ◌++◌, append-nil}
use lib.ListN.{length}
use Rattle.laws.specs.Bools.{bit}
use Rattle.laws.specs.Lists.{tab}
use Rattle.model.specs.Gate.{size}
use Rattle.model.specs.Network.{vars, deps, rising, translation, Walk, go_at, step_at, walk, first_walk, walk_left, seen, cleanup_order, cleanup}
use Rattle.shape.proofs.Sums.{upd_same, upd_other, bit_pos, bit_zero, sum_same}
use Rattle.shape.proofs.Cleanup.{K, last_walk, turn, stay, first_K, walk_empty, cleanup_order_lem}
use Rattle.tables.specs.Layout.{span, first_at, count_at, output_at, cell, store, mark_base, stack_base}
use Rattle.tables.specs.Holding.{network_of}
use Rattle.tables.specs.declared.counts.Counts.{Counts}
use Rattle.tables.proofs.Places.{length_store, cell_store, cell_store_other}
use Rattle.tables.proofs.Holding.{size_network}
use Rattle.translation.specs.Tables.{cleared_table}
use Rattle.translation.proofs.Cleared.{length_cleared, cell_cleared}
use Rattle.remap.specs.Tables.{Sound, ins_from, stack_of, order_from}
use Rattle.remap.specs.Remapping.{with_nodes, Orders, Remapped}
use Rattle.remap.proofs.Tabled.{stack_of_same, length_stack_of, deps_at, outs_at, held_inside, held_outs_inside, held_sound, mark_cond, unseen_most}
use Rattle.cleanup.specs.Marking.{Pushed, PushIns, PushOuts, Cleanable, Walking, left_of, Walked, Cleaned}
use Rattle.keep_marked.specs.Orders.{Marked, Keeping}

-- ---- the start

module _ (from l z : List ℕ) (c : Counts) (A : Cleanable from l c) (q : z ≡ cleared_table l mark_base c.nodes) where
  ok : Sound from c
  ok = held_sound from c A.held

  pub walk_outs : (o : ℕ) → o ≡ c.outs → PushOuts from z o
  walk_outs o e = record {
    long = ok.long;
    room = rw q (let r = A.room in omega (arith, length_cleared l mark_base c.nodes));
    few = rw e ok.outs_few;
    named = λ j h x. let few = ok.few in omega (arith, ok.outs_named j (rw e at h) x);
  }

  pub walk_start : (e : List ℕ) (r : ℕ) → Pushed z e (vars (tab (output_at from) c.outs)) 0 r c.outs → Walking from e c r
  unfolding stack_of
  walk_start e r P =
      let few = ok.few in
      let room = A.room in
      let stk : vars (network_of from c).outs ≡ stack_of e r = ap vars (outs_at from c) ∙ sym (P.stk ∙ append-nil (vars (tab (output_at from) c.outs))) in
      record {
        ok = ok;
        room = P.room;
        state = first_walk (network_of from c);
        marks = λ v h. P.marks v (omega arith) ∙ rw q (cell_cleared l mark_base c.nodes v (omega arith) h);
        stk = stk;
        inv = first_K (network_of from c) (held_outs_inside from c A.held);
        deep = (let os = ok.outs_few in let t = P.top in omega (arith, ap length stk, length_stack_of e r, unseen_most from c ok (λ x. false)));
        fuel = walk_left (network_of from c) (first_walk (network_of from c));
        rest = refl;
      }

pub walk_table : (from l : List ℕ) (c : Counts) (n : ℕ) → Cleanable from l c → n ≡ c.nodes → 6208 + n ≤ length l
walk_table from l c n A e = let r = A.room in let s = held_sound from c A.held in let few = s.few in omega arith

-- ---- one turn

left_of_lem : (from l : List ℕ) (c : Counts) (sp : ℕ) (w : Walk) → ((v : ℕ) → v < c.nodes → cell l mark_base v ≡ bit (w.vis v)) → w.stk ≡ stack_of l sp → left_of from l c sp ≡ walk_left (network_of from c) w
unfolding left_of
left_of_lem from l c sp w m k =
    ap₂ ◌+◌ (sym (length_stack_of l sp) ∙ ap length (sym k))
    (rw (size_network from c) (sum_same _ _ c.nodes (λ u h. mark_cond (w.vis u) (cell l mark_base u) (length (deps (network_of from c) u)) (m u h))))

module _ (from l : List ℕ) (c : Counts) (sp : ℕ) (L : Walking from l c sp) where
  walk_deep : sp ≤ 2560
  walk_deep = let d = L.deep in omega (arith, length_stack_of l sp, ap length L.stk)

  pub walk_stack : 0 < sp → 6720 + (sp - 1) < length l
  walk_stack p = let room = L.room in omega (arith, walk_deep)

  module _ (top v : ℕ) (p : 0 < sp) (e : top ≡ sp - 1) (q : v ≡ cell l stack_base top) where
    stk_is : L.state.stk ≡ v ∷ stack_of l top
    unfolding stack_of
    stk_is = let z : sp ≡ suc top = omega arith in L.stk ∙ ap (stack_of l) z ∙ ap (λ x. x ∷ stack_of l top) (sym q)

    node_below : v < c.nodes
    node_below = let z = (rw stk_is at L.inv.stack).0.1 in omega (arith, size_network from c)

    pub walk_node : v < 512
    walk_node = let few = L.ok.few in omega (arith, node_below)

    pub walk_mark : 6208 + v < length l
    walk_mark = let room = L.room in omega (arith, walk_node)

    turned : K (network_of from c) (step_at (network_of from c) L.state.stk L.state) × ((L.state.stk ≡ []) ⊎ (walk_left (network_of from c) (step_at (network_of from c) L.state.stk L.state) < walk_left (network_of from c) L.state))
    turned = turn (network_of from c) (held_inside from c L.ok.held) L.state L.inv

    module _ (b : Bool) (vb : L.state.vis v ≡ b) where
      next_is : step_at (network_of from c) L.state.stk L.state ≡ go_at (network_of from c) b v (stack_of l top) L.state
      next_is = ap (λ k. step_at (network_of from c) k L.state) stk_is ∙ ap (λ x. go_at (network_of from c) x v (stack_of l top) L.state) vb

      next_less : walk_left (network_of from c) (go_at (network_of from c) b v (stack_of l top) L.state) < walk_left (network_of from c) L.state
      next_less = elim turned.1 [
        | inl z ↦ absurd (omega (arith, ap length stk_is, ap length z))
        | inr h ↦ (let w = ap (walk_left (network_of from c)) next_is in omega arith)
      ]

      next_rest : (f : ℕ) → walk (network_of from c) f L.state ≡ last_walk (network_of from c)
          → (g : ℕ) × (walk (network_of from c) g (go_at (network_of from c) b v (stack_of l top) L.state) ≡ last_walk (network_of from c))
      unfolding walk
      next_rest zero h = absurd (omega (arith, ap length stk_is, ap length (ap (λ (x : Walk). x.stk) h ∙ walk_empty (network_of from c) (held_inside from c L.ok.held) (held_outs_inside from c L.ok.held))))
      next_rest (suc f) h = (f, ap (walk (network_of from c) f) (sym next_is) ∙ h)

      walked_of : (l' : List ℕ) (sp' : ℕ) → span ≤ length l' → ((u : ℕ) → u < c.nodes → cell l' mark_base u ≡ bit ((go_at (network_of from c) b v (stack_of l top) L.state).vis u))
          → (go_at (network_of from c) b v (stack_of l top) L.state).stk ≡ stack_of l' sp' → Walked from l l' c sp sp'
      walked_of l' sp' room m k =
          let less = next_less in
          let g = next_rest L.fuel L.rest in
          record {
            live = record {
              ok = L.ok;
              room = room;
              state = go_at (network_of from c) b v (stack_of l top) L.state;
              marks = m;
              stk = k;
              inv = subst (K (network_of from c)) next_is turned.0;
              deep = let d = L.deep in omega arith;
              fuel = g.0;
              rest = g.1;
            };
            less = omega (arith, left_of_lem from l' c sp' (go_at (network_of from c) b v (stack_of l top) L.state) m k, left_of_lem from l c sp L.state L.marks L.stk);
          }

    pub walk_skip : (m : ℕ) → m ≡ cell l mark_base v → 0 < m → Walked from l l c sp top
    walk_skip m y h =
        let vb : L.state.vis v ≡ true = bit_pos (L.state.vis v) (let z = L.marks v node_below in omega arith) in
        walked_of true vb l top L.room L.marks refl

    -- a is l with v marked
    module _ (m : ℕ) (y : m ≡ cell l mark_base v) (h : m ≤ 0) (a : List ℕ) (ea : a ≡ store l mark_base v 1) (f n : ℕ) (ef : f ≡ first_at from v) (ec : n ≡ count_at from v) where
      hidden : L.state.vis v ≡ false
      hidden = bit_zero (L.state.vis v) (let z = L.marks v node_below in omega arith)

      pub walk_ins : PushIns from a f n top
      walk_ins =
          let dp = walk_deep in
          let rm = L.room in
          let few = L.ok.few in
          let ends = L.ok.ends v node_below in
          record {
            long = L.ok.long;
            room = rw ea (omega (arith, length_store l mark_base v 1));
            fits = omega arith;
            named = λ j x z. let bl = L.ok.named v j node_below (rw ec at x) (rw ef at z) in rw ef (omega arith);
            deep = omega arith;
          }

      stack_same : stack_of a top ≡ stack_of l top
      stack_same = stack_of_same a l top (λ i x. let w = walk_node in rw ea (cell_store_other l mark_base v 1 stack_base i (omega arith)))

      pub walk_done : (g : List ℕ) (end : ℕ) → Pushed a g (vars (ins_from from f n)) top end n → Walked from l g c sp end
      walk_done g end P =
          let few = L.ok.few in
          let rm = L.room in
          let wd = walk_node in
          let ds : deps (network_of from c) v ≡ vars (ins_from from f n) = rw (ef, ec) (deps_at from c v node_below) in
          walked_of false hidden g end P.room
          (λ u x. P.marks u (omega arith) ∙ elim (ℕ_discrete u v) [
            | yes z ↦ rw (z, ea) (cell_store l mark_base v 1 (omega arith) ∙ sym (ap bit (upd_same L.state.vis v true)))
            | no z ↦ rw ea (cell_store_other l mark_base v 1 mark_base u (omega arith)) ∙ L.marks u x ∙ sym (ap bit (upd_other L.state.vis v true u z))
          ])
          (ap₂ ◌++◌ ds (sym stack_same) ∙ sym P.stk)

  pub walk_end : sp ≤ 0 → Marked from l c
  unfolding stack_of
  walk_end h =
      let z : sp ≡ 0 = omega arith in
      let e : L.state.stk ≡ [] = L.stk ∙ ap (stack_of l) z in
      let st : L.state ≡ last_walk (network_of from c) = sym (stay (network_of from c) L.fuel L.state e) ∙ L.rest in
      record {
        ok = L.ok;
        room = L.room;
        marks = λ v p. L.marks v p ∙ ap (λ (w : Walk). bit (w.vis v)) st;
      }

-- ---- the whole

module _ (from l g : List ℕ) (c : Counts) (m : ℕ) (A : Cleanable from l c) (G : Keeping from g c c.nodes m) where
  order_is : order_from g 0 m ≡ cleanup_order (network_of from c)
  order_is = G.order ∙ ap (rising (seen (network_of from c))) (sym (size_network from c))

  pub clean_orders : Orders from g c m
  clean_orders = record {
    ok = G.marked.ok;
    room = G.marked.room;
    order = rw order_is (cleanup_order_lem (network_of from c) A.held.valid.signals);
  }

  pub clean_done : (e : List ℕ) → Remapped from g e c m → Cleaned from e c (with_nodes c m)
  unfolding cleanup
  clean_done e R = record {
    room = R.room;
    holds = rw order_is at R.holds;
    map = λ v h. R.map v h ∙ ap (λ (x : List ℕ). translation (size (network_of from c)) x v) order_is;
  }

pub ruleset cleans = (clean_orders, clean_done)
