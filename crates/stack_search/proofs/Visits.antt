-- One turn of the search, in the tables, and its end.
use mathlib.Core.Path.{◌≡◌, refl, sym, ap, ap₂, ◌∙◌, subst}
use mathlib.Core.Logic.{◌≢◌, ◌⊎◌, inl, inr}
use mathlib.Core.Bool.{Bool, true, false, not, ◌&&◌}
use Prim.Native.Nat.{ℕ, zero, suc, ◌+◌, ◌-◌, ◌<◌, ◌≤◌}
use native.Mathlib.Nat.{le_refl}
use native.Mathlib.Omega.{arith}
use native.Mathlib.Decide.{ℕ_discrete}
use mathlib.Core.List.{List, [], ◌∷◌, ◌++◌}
use lib.ListN.{length, length-append}
use mir.Val.{Fits}
use mir.Syntax.{w32}
use Rattle.laws.specs.Bools.{bit}
use Rattle.model.specs.Gate.{size}
use Rattle.model.specs.Network.{Search, search, sort_result, search_left, next_at, pop_at, is_d, deps, vars, down, upd, rising, topo_order}
use Rattle.shape.proofs.Sums.{upd_same, upd_other, bit_pos, bit_zero, bit_le, sum_same, sum_le}
use Rattle.shape.proofs.Search.{J, turn, stay, result_empty, down_cong}
use Rattle.shape.proofs.Sort.{order_most}
use Rattle.tables.specs.Layout.{span, first_at, count_at, cell, store, count_base, mark_base, stack_base, order_base}
use Rattle.tables.specs.Holding.{network_of}
use Rattle.tables.specs.declared.counts.Counts.{Counts}
use Rattle.tables.proofs.Places.{length_store, cell_store, cell_store_other}
use Rattle.tables.proofs.Holding.{size_network}
use Rattle.remap.specs.Tables.{ins_from, stack_of, order_from}
use Rattle.remap.proofs.Tabled.{stack_of_same, order_from_same, length_stack_of, length_order_from, deps_at, held_inside, mark_cond}
use Rattle.count_down.specs.Lowering.{down_ins, Lowered, Downs}
use Rattle.stack_search.specs.Searching.{Rep, Live, left_of, Turned, Flips}
use Rattle.count_down.proofs.Downs.{DownRel, down_rel}

-- the measure is the model's
left_of_lem : (from l : List ℕ) (c : Counts) (sp pos : ℕ) (s : Search) → Rep l c.nodes sp pos s → left_of from l c sp ≡ search_left (network_of from c) s
unfolding left_of
left_of_lem from l c sp pos s R =
    ap₂ ◌+◌ (sym (length_stack_of l sp) ∙ ap length (sym R.stk))
    (rw (size_network from c) (sum_same _ _ c.nodes (λ u h. mark_cond (s.vis u) (cell l mark_base u) (length (deps (network_of from c) u)) (R.marks u h))))

module _ (from l : List ℕ) (c : Counts) (sp pos : ℕ) (L : Live from l c sp pos) where
  live_deep : sp ≤ 2560
  live_deep = let d = L.deep in omega (arith, length_stack_of l sp, ap length L.rep.stk)

  pub visit_stack : 0 < sp → 6720 + (sp - 1) < length l
  visit_stack p = let room = L.room in omega (arith, live_deep)

  module _ (top v : ℕ) (p : 0 < sp) (e : top ≡ sp - 1) (q : v ≡ cell l stack_base top) where
    stk_is : L.state.stk ≡ v ∷ stack_of l top
    unfolding stack_of
    stk_is = let z : sp ≡ suc top = omega arith in L.rep.stk ∙ ap (stack_of l) z ∙ ap (λ x. x ∷ stack_of l top) (sym q)

    node_below : v < c.nodes
    node_below = let z = (rw stk_is at L.inv.zeros).0.1 in omega (arith, size_network from c)

    pub visit_node : v < 512
    visit_node = let few = L.ok.few in omega (arith, node_below)

    pub visit_mark : 6208 + v < length l
    visit_mark = let room = L.room in omega (arith, visit_node)

    pub visit_fits : Fits w32 v
    visit_fits = record { fits = omega (arith, visit_node) }

    turned : J (network_of from c) (next_at (network_of from c) L.state.stk L.state) × ((L.state.stk ≡ []) ⊎ (search_left (network_of from c) (next_at (network_of from c) L.state.stk L.state) < search_left (network_of from c) L.state))
    turned = turn (network_of from c) (held_inside from c L.ok.held) L.state L.inv

    -- what a turn leaves, for the state that it comes to
    module _ (b : Bool) (vb : L.state.vis v ≡ b) where
      next_is : next_at (network_of from c) L.state.stk L.state ≡ pop_at (network_of from c) b v (stack_of l top) L.state
      next_is = ap (λ k. next_at (network_of from c) k L.state) stk_is ∙ ap (λ x. pop_at (network_of from c) x v (stack_of l top) L.state) vb

      next_J : J (network_of from c) (pop_at (network_of from c) b v (stack_of l top) L.state)
      next_J = subst (J (network_of from c)) next_is turned.0

      next_less : search_left (network_of from c) (pop_at (network_of from c) b v (stack_of l top) L.state) < search_left (network_of from c) L.state
      next_less = elim turned.1 [
        | inl z ↦ absurd (omega (arith, ap length stk_is, ap length z))
        | inr h ↦ (let w = ap (search_left (network_of from c)) next_is in omega arith)
      ]

      next_rest : (f : ℕ) → search (network_of from c) f L.state ≡ sort_result (network_of from c)
          → (g : ℕ) × (search (network_of from c) g (pop_at (network_of from c) b v (stack_of l top) L.state) ≡ sort_result (network_of from c))
      unfolding search
      next_rest zero h = absurd (omega (arith, ap length stk_is, ap length (ap (λ (x : Search). x.stk) h ∙ result_empty (network_of from c) (held_inside from c L.ok.held))))
      next_rest (suc f) h = (f, ap (search (network_of from c) f) (sym next_is) ∙ h)

      live_of : (l' : List ℕ) (sp' pos' : ℕ) → span ≤ length l' → Rep l' c.nodes sp' pos' (pop_at (network_of from c) b v (stack_of l top) L.state) → Turned from l l' c sp (record { sp = sp'; pos = pos' })
      live_of l' sp' pos' room R =
          let less = next_less in
          let g = next_rest L.fuel L.rest in
          record {
            live = record {
              ok = L.ok;
              room = room;
              state = pop_at (network_of from c) b v (stack_of l top) L.state;
              rep = R;
              inv = next_J;
              deep = let d = L.deep in omega arith;
              fuel = g.0;
              rest = g.1;
            };
            less = omega (arith, left_of_lem from l' c sp' pos' (pop_at (network_of from c) b v (stack_of l top) L.state) R, left_of_lem from l c sp pos L.state L.rep);
          }

    -- visited before
    pub visit_skip : (m : ℕ) → m ≡ cell l mark_base v → 0 < m → Turned from l l c sp (record { sp = top; pos = pos })
    visit_skip m y h =
        let vb : L.state.vis v ≡ true = bit_pos (L.state.vis v) (let z = L.rep.marks v node_below in omega arith) in
        live_of true vb l top pos L.room (record {
          marks = L.rep.marks;
          counts = L.rep.counts;
          stk = refl;
          ord = L.rep.ord;
          top = L.rep.top;
        })

    module _ (m : ℕ) (y : m ≡ cell l mark_base v) (h : m ≤ 0) where
      hidden : L.state.vis v ≡ false
      hidden = bit_zero (L.state.vis v) (let z = L.rep.marks v node_below in omega arith)

      pub visit_pos : 1 ≤ pos
      visit_pos =
          let t = L.rep.top in
          omega (
            arith,
            (next_J false hidden).len,
            sum_le (λ u. bit (not (is_d (network_of from c) u) && upd L.state.vis v true u)) (size (network_of from c)) (λ u. bit_le (not (is_d (network_of from c) u) && upd L.state.vis v true u)),
            size_network from c,
            ap length L.rep.ord,
            length_order_from l (c.nodes - pos) pos,
          )

      -- a is l with v marked, and b with v before the order
      module _ (a b : List ℕ) (next : ℕ) (ea : a ≡ store l mark_base v 1) (en : next ≡ pos - 1) (eb : b ≡ store a order_base next v) where
        wide : (v < 512) × (c.nodes ≤ 512)
        wide = let few = L.ok.few in let x = node_below in (omega arith, few)

        len : length b ≡ length l
        len = rw (eb, ea) (length_store (store l mark_base v 1) order_base next v ∙ length_store l mark_base v 1)

        low : next < 512
        low = let t = L.rep.top in let w = wide in let x = visit_pos in omega arith

        mark_same : cell b mark_base v ≡ 1
        mark_same =
            let w = wide.0 in let rm = L.room in let lw = low in
            rw (eb, ea) (cell_store_other (store l mark_base v 1) order_base next v mark_base v (omega arith) ∙ cell_store l mark_base v 1 (omega arith))

        mark_other : (u : ℕ) → u < 512 → u ≢ v → cell b mark_base u ≡ cell l mark_base u
        mark_other u p d =
            let lw = low in
            rw (eb, ea) (cell_store_other (store l mark_base v 1) order_base next v mark_base u (omega arith) ∙ cell_store_other l mark_base v 1 mark_base u (omega arith))

        count_same : (u : ℕ) → u < 512 → cell b count_base u ≡ cell l count_base u
        count_same u p =
            let lw = low in let w = wide.0 in
            rw (eb, ea) (cell_store_other (store l mark_base v 1) order_base next v count_base u (omega arith) ∙ cell_store_other l mark_base v 1 count_base u (omega arith))

        stack_same : (k : ℕ) → stack_of b k ≡ stack_of l k
        stack_same k = stack_of_same b l k (λ i p.
            let lw = low in let w = wide.0 in
            rw (eb, ea) (cell_store_other (store l mark_base v 1) order_base next v stack_base i (omega arith) ∙ cell_store_other l mark_base v 1 stack_base i (omega arith)))

        order_head : cell b order_base next ≡ v
        order_head = let lw = low in let rm = L.room in rw eb (cell_store a order_base next v (rw ea (omega (arith, length_store l mark_base v 1))))

        order_rest : (i : ℕ) → i < 512 → i ≢ next → cell b order_base i ≡ cell l order_base i
        order_rest i p d =
            let w = wide.0 in
            rw (eb, ea) (cell_store_other (store l mark_base v 1) order_base next v order_base i (omega arith) ∙ cell_store_other l mark_base v 1 order_base i (omega arith))

        pub visit_downs : (f n : ℕ) → f ≡ first_at from v → n ≡ count_at from v → Downs from b f n top
        visit_downs f n ef ec =
            let dp = live_deep in
            let rm = L.room in
            let few = L.ok.few in
            let ends = L.ok.ends v node_below in
            record {
              long = L.ok.long;
              room = omega (arith, len);
              fits = omega arith;
              named = λ j x z. rw ef (let bl = L.ok.named v j node_below (rw ec at x) (rw ef at z) in omega arith);
              deep = omega arith;
            }

        order_of : (f n : ℕ) (w : List ℕ) → w ≡ (down_ins from f b top n).words → DownRel b (down_ins from f b top n) (down (vars (ins_from from f n)) (cell b count_base) (stack_of b top)) (top + n)
            → v ∷ L.state.ord ≡ order_from w next (c.nodes - next)
        unfolding order_from
        order_of f n w words R =
            let few = L.ok.few in
            let ps = visit_pos in
            let tp = L.rep.top in
            let k : c.nodes - next ≡ suc (c.nodes - pos) = omega arith in
            let sn : suc next ≡ pos = omega arith in
            let lw = low in
            rw (k, sn)
            (ap₂ ◌∷◌
            (sym (ap (λ (z : List ℕ). cell z order_base next) words ∙ R.order next low ∙ order_head))
            (L.rep.ord ∙ sym (order_from_same w l (c.nodes - pos) pos (λ i x z. ap (λ (z : List ℕ). cell z order_base i) words ∙ R.order i (omega arith) ∙ order_rest i (omega arith) (omega arith)))))

        pub visit_done : (w : List ℕ) (f n end : ℕ) → f ≡ first_at from v → n ≡ count_at from v → Lowered (down_ins from f b top n) w end → Turned from l w c sp (record { sp = end; pos = next })
        visit_done w f n end ef ec K =
            let D = visit_downs f n ef ec in
            let R = down_rel from b f top D.room n D.deep D.named in
            let few = L.ok.few in
            let few2 = wide.0 in
            let vn = node_below in
            let ps = visit_pos in
            let tp = L.rep.top in
            let ds : deps (network_of from c) v ≡ vars (ins_from from f n) = rw (ef, ec) (deps_at from c v node_below) in
            let C = down_cong c.nodes (deps (network_of from c) v) (cell b count_base) L.state.cnt (stack_of b top)
            (rw (size_network from c) at (held_inside from c L.ok.held v (rw (size_network from c) node_below)))
            (λ d x. count_same d (omega arith) ∙ L.rep.counts d x) in
            let words = K.words in
            live_of false hidden w end next (rw words (let rm = D.room in omega (arith, R.len))) (record {
              marks = λ u x. ap (λ (z : List ℕ). cell z mark_base u) words ∙ R.marks u (omega arith) ∙ elim (ℕ_discrete u v) [
                | yes z ↦ rw z (mark_same ∙ sym (ap bit (upd_same L.state.vis v true)))
                | no z ↦ mark_other u (omega arith) z ∙ L.rep.marks u x ∙ sym (ap bit (upd_other L.state.vis v true u z))
              ];
              counts = λ u x. ap (λ (z : List ℕ). cell z count_base u) words ∙ R.cnt u (omega arith) ∙ ap (λ (z : List ℕ). (down z (cell b count_base) (stack_of b top)).cnt u) (sym ds) ∙ C.cnt u x ∙ ap (λ k. (down (deps (network_of from c) v) L.state.cnt k).cnt u) (stack_same top);
              stk = sym (ap₂ stack_of words K.sp ∙ R.stk ∙ ap (λ (z : List ℕ). (down z (cell b count_base) (stack_of b top)).stk) (sym ds) ∙ C.stk ∙ ap (λ k. (down (deps (network_of from c) v) L.state.cnt k).stk) (stack_same top));
              ord = order_of f n w words R;
              top = omega arith;
            })

  -- the end: nothing on the stack
  pub visit_end : sp ≤ 0 → Flips from l c c.nodes pos
  unfolding stack_of
  visit_end h =
      let z : sp ≡ 0 = omega arith in
      let e : L.state.stk ≡ [] = L.rep.stk ∙ ap (stack_of l) z in
      let st : L.state ≡ sort_result (network_of from c) = sym (stay (network_of from c) L.fuel L.state e) ∙ L.rest in
      let ord : (sort_result (network_of from c)).ord ≡ order_from l pos (c.nodes - pos) = ap (λ (x : Search). x.ord) (sym st) ∙ L.rep.ord in
      let sz = size_network from c in
      let whole : topo_order (network_of from c) ≡ rising (is_d (network_of from c)) c.nodes ++ order_from l pos (c.nodes - pos) = ap₂ ◌++◌ (ap (rising (is_d (network_of from c))) sz) ord in
      let tp = L.rep.top in
      record {
        ok = L.ok;
        room = L.room;
        whole = whole;
        fits = omega (arith, ap length whole, length-append (rising (is_d (network_of from c)) c.nodes) (order_from l pos (c.nodes - pos)), length_order_from l (c.nodes - pos) pos, order_most (network_of from c) (held_inside from c L.ok.held), sz);
        top = tp;
        low = le_refl c.nodes;
      }

pub ruleset visits = (visit_stack, visit_node, visit_mark, visit_fits, visit_skip, visit_pos, visit_downs, visit_done, visit_end)
