-- Flip-flops go before what is ordered, and what the whole comes to.
use mathlib.Core.Path.{◌≡◌, refl, sym, ap, ap₂, ◌∙◌}
use mathlib.Core.Bool.{Bool, true, false}
use Prim.Native.Nat.{ℕ, suc, ◌+◌, ◌-◌, ◌<◌, ◌≤◌}
use native.Mathlib.Omega.{arith}
use native.Mathlib.Numerals.{add-one}
use mathlib.Core.List.{List, [], ◌∷◌, ◌++◌, append_assoc, append-nil}
use lib.ListN.{length, length-append}
use borrow.Author.Tests.{eq-eqb, ne_eqb}
use Rattle.kinds.specs.Kinds.{kind_of, is_flip_flop}
use Rattle.model.specs.Gate.{size}
use Rattle.model.specs.Network.{is_d, topo_order, rising, push_if, sorts, topo_sort, translation}
use Rattle.shape.proofs.Sort.{sort_order}
use Rattle.tables.specs.Layout.{kind_at, cell, store, order_base}
use Rattle.tables.specs.Holding.{network_of}
use Rattle.tables.specs.declared.counts.Counts.{Counts}
use Rattle.tables.proofs.Places.{length_store, cell_store, cell_store_other}
use Rattle.tables.proofs.Holding.{size_network}
use Rattle.remap.specs.Tables.{Sound, order_from}
use Rattle.remap.specs.Remapping.{Orders, Remapped}
use Rattle.remap.proofs.Tabled.{order_from_same, length_order_from, is_d_at, held_sound}
use Rattle.stack_search.specs.Searching.{Flips}
use Rattle.topo_sort.specs.Sorts.{Sortable, sorting_of, Ordering, Sorted}
use Rattle.std.specs.Prelude.{Result, Ok, Err, ⊤}
use Rattle.refusals.specs.declared.Refusal.{Refusal}
use Rattle.refusals.specs.declared.Refusal.TheVariants.{Looped}

module _ (from l : List ℕ) (c : Counts) (i pos : ℕ) (F : Flips from l c (i + 1) pos) where
  flip_below : i < c.nodes
  flip_below = let h = F.low in omega arith

  pub flip_node : i < 512
  flip_node = let h = flip_below in let few = F.ok.few in omega arith

  module _ (k : ℕ) (t : Bool) (e : k ≡ kind_at from i) (q : t ≡ is_flip_flop (kind_of k)) where
    flop : is_d (network_of from c) i ≡ t
    flop = is_d_at from c i flip_below ∙ sym (q ∙ ap (λ (x : ℕ). is_flip_flop (kind_of x)) e)

    step : (b : Bool) → t ≡ b → rising (is_d (network_of from c)) (i + 1) ≡ rising (is_d (network_of from c)) i ++ push_if b i []
    step b y = rw (add-one i) (ap (λ x. rising (is_d (network_of from c)) i ++ push_if x i []) (flop ∙ y))

    pub flip_pos : t ≡ true → 1 ≤ pos
    flip_pos y = let h = F.fits in omega (arith, ap length (step true y), length-append (rising (is_d (network_of from c)) i) (i ∷ []))

    pub flip_done : (m : List ℕ) (next : ℕ) → t ≡ true → next ≡ pos - 1 → m ≡ store l order_base next i → Flips from m c i next
    unfolding order_from
    flip_done m next y en em =
        let ps = flip_pos y in
        let tp = F.top in
        let few = F.ok.few in
        let room = F.room in
        let low = F.low in
        let h = F.fits in
        let k : c.nodes - next ≡ suc (c.nodes - pos) = omega arith in
        let sn : suc next ≡ pos = omega arith in
        let R : List ℕ = rising (is_d (network_of from c)) i in
        let head : cell m order_base next ≡ i = rw em (cell_store l order_base next i (omega arith)) in
        let rest : order_from m pos (c.nodes - pos) ≡ order_from l pos (c.nodes - pos) = order_from_same m l (c.nodes - pos) pos (λ u a b. rw em (cell_store_other l order_base next i order_base u (omega arith))) in
        record {
          ok = F.ok;
          room = rw em (omega (arith, length_store l order_base next i));
          whole =
              F.whole
              ∙ ap (λ x. x ++ order_from l pos (c.nodes - pos)) (step true y)
              ∙ append_assoc R (i ∷ []) (order_from l pos (c.nodes - pos))
              ∙ rw (k, sn) (ap (λ x. R ++ x) (sym (ap₂ ◌∷◌ head rest)));
          fits = omega (arith, ap length (step true y), length-append R (i ∷ []));
          top = omega arith;
          low = omega arith;
        }

    pub flip_none : t ≡ false → Flips from l c i pos
    flip_none y =
        let R : List ℕ = rising (is_d (network_of from c)) i in
        let low = F.low in
        let h = F.fits in
        let w : rising (is_d (network_of from c)) (i + 1) ≡ R = step false y ∙ append-nil R in
        record {
          ok = F.ok;
          room = F.room;
          whole = F.whole ∙ ap (λ x. x ++ order_from l pos (c.nodes - pos)) w;
          fits = omega (arith, ap length w);
          top = F.top;
          low = omega arith;
        }

pub flip_next : (from l : List ℕ) (c : Counts) (i pos : ℕ) → Flips from l c i pos → 0 < i → Flips from l c (i - 1 + 1) pos
flip_next from l c i pos F h = let e : i - 1 + 1 ≡ i = omega arith in rw e F

pub flip_end : (from l : List ℕ) (c : Counts) (i pos : ℕ) → Flips from l c i pos → i ≤ 0 → Flips from l c 0 pos
flip_end from l c i pos F h = let e : i ≡ 0 = omega arith in rw e at F

pub ruleset flips = (flip_node, flip_pos, flip_done, flip_none, flip_next, flip_end)

-- ---- the order

never : {X : Type 0} → sorting_of false ≡ Ok tt → X
never e = absurd cc

pub order_sound : (from l : List ℕ) (c : Counts) → Sortable from l c → Sound from c
order_sound from l c S = held_sound from c S.held

module _ (from l : List ℕ) (c : Counts) (pos : ℕ) (F : Flips from l c 0 pos) where
  long : length (topo_order (network_of from c)) ≡ c.nodes - pos
  long = ap length F.whole ∙ length_order_from l (c.nodes - pos) pos

  pub order_loop : 0 < pos → Ordering from l c (Err Looped)
  order_loop h =
      let tp = F.top in
      record {
        room = F.room;
        answer = sym (ap sorting_of (ne_eqb (length (topo_order (network_of from c))) (size (network_of from c)) (λ e. omega (arith, long, size_network from c))));
        order = λ e. never e;
      }

  pub order_full : pos ≤ 0 → Ordering from l c (Ok tt)
  order_full h =
      let z : pos ≡ 0 = omega arith in
      record {
        room = F.room;
        answer = sym (ap sorting_of (eq-eqb (length (topo_order (network_of from c))) (size (network_of from c)) (omega (arith, long, size_network from c))));
        order = λ e. sym (F.whole ∙ ap₂ (λ a b. order_from l a b) z (let w : c.nodes - pos ≡ c.nodes = omega arith in w));
      }

-- ---- the network

full : (b : Bool) → Ok tt ≡ sorting_of b → b ≡ true
full true e = refl
full false e = never (sym e)

module _ (from l : List ℕ) (c : Counts) (r : Result ⊤ Refusal) (O : Ordering from l c r) where
  pub sort_orders : (k : List ℕ) (n : ℕ) → Sortable from k c → n ≡ c.nodes → r ≡ Ok tt → Orders from l c n
  sort_orders k n S en e = record {
    ok = held_sound from c S.held;
    room = O.room;
    order = rw (en, O.order e) (sort_order (network_of from c) S.held.valid.signals (full (sorts (network_of from c)) (sym e ∙ O.answer)));
  }

  pub sort_done : (g : List ℕ) → r ≡ Ok tt → Remapped from l g c c.nodes → Sorted from g c (Ok tt)
  unfolding topo_sort
  sort_done g e R = record {
    room = R.room;
    answer = sym e ∙ O.answer;
    holds = λ q. rw (O.order e) at R.holds;
    map = λ q v h. R.map v h ∙ ap (λ (x : List ℕ). translation (size (network_of from c)) x v) (O.order e);
  }
