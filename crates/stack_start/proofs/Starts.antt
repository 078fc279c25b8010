-- How the search starts.
use mathlib.Core.Path.{◌≡◌, refl, sym, ap, ap₂, ◌∙◌}
use mathlib.Core.Bool.{Bool, true, false, not, ◌&&◌}
use Prim.Native.Nat.{ℕ, ◌+◌, ◌-◌, ◌<◌, ◌≤◌, zero-le}
use native.Mathlib.Nat.{not-suc-le-zero, le_refl}
use native.Mathlib.Omega.{arith}
use native.Mathlib.Numerals.{add-one}
use native.Mathlib.Decide.{ℕ_discrete}
use mathlib.Core.List.{List, [], ◌∷◌}
use lib.ListN.{length}
use lib.Dec.{eqb}
use borrow.Author.Tests.{eq-eqb, ne_eqb}
use Rattle.kinds.specs.Kinds.{kind_of, is_flip_flop}
use Rattle.laws.specs.Bools.{bit}
use Rattle.model.specs.Gate.{Net, size}
use Rattle.model.specs.Network.{users, is_d, descend, push_if, begin, search_left}
use Rattle.shape.proofs.Search.{ready, begin_J}
use Rattle.tables.specs.Layout.{kind_at, cell, store, count_base, mark_base, stack_base}
use Rattle.tables.specs.Holding.{network_of}
use Rattle.tables.specs.declared.counts.Counts.{Counts}
use Rattle.tables.proofs.Places.{length_store, cell_store, cell_store_other}
use Rattle.tables.proofs.Holding.{size_network}
use Rattle.remap.specs.Tables.{Sound, stack_of, order_from}
use Rattle.remap.proofs.Tabled.{stack_of_same, length_stack_of, is_d_at, unseen_most}
use Rattle.count_deps.specs.Counting.{Counted}
use Rattle.stack_search.specs.Searching.{Live}
use Rattle.stack_start.specs.Starting.{Started}

pub start_zero : (from l : List ℕ) (c : Counts) → Sound from c → Counted from l c → Started from l c 0 0
unfolding stack_of
start_zero from l c ok C = record {
  ok = ok;
  room = C.room;
  counts = C.counts;
  marks = λ u p. absurd (not-suc-le-zero p);
  stk = refl;
  few = zero-le;
}

module _ (from l : List ℕ) (c : Counts) (v sp : ℕ) (S : Started from l c v sp) (p : v < c.nodes) where
  wide : v < 512
  wide = let few = S.ok.few in omega arith

  -- the node's mark is written
  module _ (m : List ℕ) (x : ℕ) (e : m ≡ store l mark_base v x) where
    len : length m ≡ length l
    len = rw e (length_store l mark_base v x)

    counts' : (d : ℕ) → d < 512 → cell m count_base d ≡ users (network_of from c) (is_d (network_of from c)) d
    counts' d h = rw e (cell_store_other l mark_base v x count_base d (omega arith) ∙ S.counts d h)

    mark : cell m mark_base v ≡ x
    mark = let r = S.room in let h = wide in rw e (cell_store l mark_base v x (omega arith))

    marks' : x ≡ bit (is_d (network_of from c) v) → (u : ℕ) → u < v + 1 → cell m mark_base u ≡ bit (is_d (network_of from c) u)
    marks' q u h = elim (ℕ_discrete u v) [
      | yes y ↦ rw y (mark ∙ q)
      | no y ↦ rw e (cell_store_other l mark_base v x mark_base u (omega arith)) ∙ S.marks u (omega arith)
    ]

    stack : stack_of m sp ≡ descend (network_of from c) (ready (network_of from c)) v []
    stack = stack_of_same m l sp (λ i h. rw e (let w = wide in cell_store_other l mark_base v x stack_base i (omega arith))) ∙ S.stk

    kept : x ≡ bit (is_d (network_of from c) v) → ready (network_of from c) v ≡ false → Started from m c (v + 1) sp
    kept q r = record {
      ok = S.ok;
      room = let h = S.room in omega (arith, len);
      counts = counts';
      marks = marks' q;
      stk = rw (add-one v) (stack ∙ sym (ap (λ b. push_if b v (descend (network_of from c) (ready (network_of from c)) v [])) r));
      few = let h = S.few in omega arith;
    }

    pushed : (w : List ℕ) → w ≡ store m stack_base sp v → x ≡ bit (is_d (network_of from c) v) → ready (network_of from c) v ≡ true → Started from w c (v + 1) (sp + 1)
    unfolding stack_of
    pushed w y q r =
        let few = S.few in
        let room = S.room in
        let wd = wide in
        record {
          ok = S.ok;
          room = rw y (omega (arith, len, length_store m stack_base sp v));
          counts = λ d h. rw y (cell_store_other m stack_base sp v count_base d (omega arith)) ∙ counts' d h;
          marks = λ u h. rw y (cell_store_other m stack_base sp v mark_base u (omega arith)) ∙ marks' q u h;
          stk = rw (add-one v, add-one sp)
              (ap₂ ◌∷◌ (rw y (cell_store m stack_base sp v (omega (arith, len))))
              (stack_of_same w m sp (λ i h. rw y (cell_store_other m stack_base sp v stack_base i (omega arith))) ∙ stack)
              ∙ sym (ap (λ b. push_if b v (descend (network_of from c) (ready (network_of from c)) v [])) r));
          few = omega arith;
        }

  flop : (k : ℕ) (t : Bool) → k ≡ kind_at from v → t ≡ is_flip_flop (kind_of k) → is_d (network_of from c) v ≡ t
  flop k t e q = is_d_at from c v p ∙ sym (q ∙ ap (λ (x : ℕ). is_flip_flop (kind_of x)) e)

  readiness : (t : Bool) → is_d (network_of from c) v ≡ t → ready (network_of from c) v ≡ (not t && eqb (users (network_of from c) (is_d (network_of from c)) v) 0)
  readiness t e = ap (λ b. not b && eqb (users (network_of from c) (is_d (network_of from c)) v) 0) e

  module _ (k : ℕ) (t : Bool) (m : List ℕ) (e : k ≡ kind_at from v) (q : t ≡ is_flip_flop (kind_of k)) where
    pub start_flip : t ≡ true → m ≡ store l mark_base v 1 → Started from m c (v + 1) sp
    start_flip y s =
        let f : is_d (network_of from c) v ≡ true = flop k t e q ∙ y in
        kept m 1 s (sym (ap bit f)) (readiness true f)

    pub start_skip : (r : ℕ) → t ≡ false → m ≡ store l mark_base v 0 → r ≡ cell m count_base v → 0 < r → Started from m c (v + 1) sp
    start_skip r y s z h =
        let f : is_d (network_of from c) v ≡ false = flop k t e q ∙ y in
        kept m 0 s (sym (ap bit f)) (readiness false f ∙ ne_eqb (users (network_of from c) (is_d (network_of from c)) v) 0 (λ n. let w = counts' m 0 s v wide in omega arith))

    pub start_push : (r : ℕ) (w : List ℕ) → t ≡ false → m ≡ store l mark_base v 0 → r ≡ cell m count_base v → r ≤ 0 → w ≡ store m stack_base sp v → Started from w c (v + 1) (sp + 1)
    start_push r w y s z h o =
        let f : is_d (network_of from c) v ≡ false = flop k t e q ∙ y in
        pushed m 0 s w o (sym (ap bit f)) (readiness false f ∙ eq-eqb (users (network_of from c) (is_d (network_of from c)) v) 0 (let w = counts' m 0 s v wide in omega arith))

pub start_done : (from l : List ℕ) (c : Counts) (v sp : ℕ) → Started from l c v sp → v ≤ c.nodes → c.nodes ≤ v → Live from l c sp c.nodes
unfolding order_from
start_done from l c v sp S p q =
    let N : Net = network_of from c in
    let e : v ≡ c.nodes = omega arith in
    let few = S.ok.few in
    let sfew = S.few in
    let sz = size_network from c in
    let stk : descend N (ready N) (size N) [] ≡ stack_of l sp = rw sz (sym (rw e at S.stk)) in
    record {
      ok = S.ok;
      room = S.room;
      state = begin N;
      rep = record {
        marks = λ u h. S.marks u (omega arith);
        counts = λ d h. S.counts d (omega arith);
        stk = stk;
        ord = sym (ap (order_from l c.nodes) (let z : c.nodes - c.nodes ≡ 0 = omega arith in z));
        top = le_refl c.nodes;
      };
      inv = begin_J N;
      deep = omega (arith, ap length stk, length_stack_of l sp, unseen_most from c S.ok (is_d N));
      fuel = search_left N (begin N);
      rest = refl;
    }

pub ruleset starts = (start_zero, start_flip, start_skip, start_push, start_done)
