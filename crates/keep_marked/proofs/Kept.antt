-- The order of what is marked, node by node.
use mathlib.Core.Path.{◌≡◌, sym, ap, ap₂, ◌∙◌}
use mathlib.Core.Bool.{Bool, true, false}
use Prim.Native.Nat.{ℕ, ◌+◌, ◌<◌, ◌≤◌, zero-le}
use native.Mathlib.Omega.{arith}
use native.Mathlib.Numerals.{add-one}
use mathlib.Core.List.{List, [], ◌∷◌, ◌++◌, append-nil}
use lib.ListN.{length}
use Rattle.model.specs.Network.{rising, push_if, seen}
use Rattle.shape.proofs.Sums.{bit_pos, bit_zero}
use Rattle.tables.specs.Layout.{cell, store, mark_base, order_base}
use Rattle.tables.specs.Holding.{network_of}
use Rattle.tables.specs.declared.counts.Counts.{Counts}
use Rattle.tables.proofs.Places.{length_store, cell_store, cell_store_other}
use Rattle.remap.proofs.Tabled.{order_from_same, order_from_zero, order_from_last}
use Rattle.keep_marked.specs.Orders.{Marked, Keeping}

pub keep_start : (from l : List ℕ) (c : Counts) → Marked from l c → Keeping from l c 0 0
keep_start from l c M = record { marked = M; order = order_from_zero l; few = zero-le }

module _ (from l : List ℕ) (c : Counts) (v k : ℕ) (G : Keeping from l c v k) (p : v < c.nodes) where
  pub keep_mark : 6208 + v < length l
  keep_mark = let r = G.marked.room in let few = G.marked.ok.few in omega arith

  pub keep_room : 5184 + k < length l
  keep_room = let r = G.marked.room in let few = G.marked.ok.few in let f = G.few in omega arith

  module _ (m : ℕ) (y : m ≡ cell l mark_base v) where
    pub keep_yes : (e : List ℕ) → 0 < m → e ≡ store l order_base k v → Keeping from e c (v + 1) (k + 1)
    keep_yes e h w =
        let few = G.few in
        let nn = G.marked.ok.few in
        let room = G.marked.room in
        let vb : seen (network_of from c) v ≡ true = bit_pos (seen (network_of from c) v) (let z = G.marked.marks v p in omega arith) in
        record {
          marked = record {
            ok = G.marked.ok;
            room = rw w (omega (arith, length_store l order_base k v));
            marks = λ u x. rw w (cell_store_other l order_base k v mark_base u (omega arith)) ∙ G.marked.marks u x;
          };
          order = rw (add-one v, add-one k)
              (order_from_last e k
              ∙ ap₂ (λ (a b : List ℕ). a ++ b)
              (order_from_same e l k 0 (λ i a b. rw w (cell_store_other l order_base k v order_base i (omega arith))) ∙ G.order)
              (ap (λ (x : ℕ). x ∷ []) (rw w (cell_store l order_base k v (omega arith))) ∙ sym (ap (λ (b : Bool). push_if b v []) vb)));
          few = omega arith;
        }

    pub keep_no : m ≤ 0 → Keeping from l c (v + 1) k
    keep_no h =
        let few = G.few in
        let vb : seen (network_of from c) v ≡ false = bit_zero (seen (network_of from c) v) (let z = G.marked.marks v p in omega arith) in
        record {
          marked = G.marked;
          order = rw (add-one v) (G.order ∙ sym (ap (λ (b : Bool). rising (seen (network_of from c)) v ++ push_if b v []) vb ∙ append-nil (rising (seen (network_of from c)) v)));
          few = omega arith;
        }

pub keep_end : (from l : List ℕ) (c : Counts) (v k : ℕ) → Keeping from l c v k → v ≤ c.nodes → c.nodes ≤ v → Keeping from l c c.nodes k
keep_end from l c v k G a b = let e : v ≡ c.nodes = omega arith in rw e at G
