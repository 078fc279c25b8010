-- The mapping, written node by node of the order.
use Prim.Native.Nat.{ℕ, suc, ◌+◌, ◌≤◌, ◌<◌}
use mathlib.Core.Path.{◌≡◌, refl, sym, ap, ◌∙◌}
use mathlib.Core.Logic.{◌≢◌}
use mathlib.Core.List.{List, [], ◌∷◌, ◌++◌}
use native.Mathlib.Omega.{arith}
use native.Mathlib.Numerals.{add-one}
use native.Mathlib.Decide.{ℕ_discrete}
use mir.Val.{Fits}
use mir.Syntax.{w32}
use lib.ListN.{length, get_or, set, length-set, replicate, length-replicate}
use lib.Seq.{get_or-set_same, get_or-set_other}
use Rattle.model.specs.Signal.{from_var}
use Rattle.model.specs.Network.{fill, translation}
use Rattle.tables.specs.Layout.{cell, store, tr_base, order_base}
use Rattle.tables.proofs.Places.{length_store, cell_store, cell_store_other}
use Rattle.shape.proofs.Remap.{translation_removed}
use Rattle.translation.specs.Tables.{cleared_table}
use Rattle.translation.proofs.Cleared.{length_cleared, cell_cleared, cell_cleared_other}
use Rattle.remap.specs.Tables.{order_from}
use Rattle.remap.specs.Remapping.{Numbering, Numbers, Numbered}
use Rattle.remap.proofs.Tabled.{length_order_from, order_from_same, order_from_zero, order_from_last}

fill_snoc : (a t : List ℕ) (b x : ℕ) → fill t b (a ++ (x ∷ [])) ≡ set (fill t b a) x (from_var (b + length a))
fill_snoc [] t b x = ap (λ (y : ℕ). set t x (from_var y)) (let z : b ≡ b + 0 = omega arith in z)
fill_snoc (y ∷ a) t b x =
    fill_snoc a (set t y (from_var b)) (suc b) x
    ∙ ap (λ (w : ℕ). set (fill (set t y (from_var b)) (suc b) a) x (from_var w)) (let z : suc b + length a ≡ b + suc (length a) = omega arith in z)

length_fill : (a t : List ℕ) (b : ℕ) → length (fill t b a) ≡ length t
length_fill [] t b = refl
length_fill (y ∷ a) t b = length_fill a (set t y (from_var b)) (suc b) ∙ length-set t y (from_var b)

-- one more node in the order
module _ (l : List ℕ) (n k : ℕ) where
  split : fill (replicate n 0) 0 (order_from l 0 (suc k)) ≡ set (fill (replicate n 0) 0 (order_from l 0 k)) (cell l order_base k) (from_var k)
  split =
      ap (fill (replicate n 0) 0) (order_from_last l k)
      ∙ fill_snoc (order_from l 0 k) (replicate n 0) 0 (cell l order_base k)
      ∙ ap (λ (w : ℕ). set (fill (replicate n 0) 0 (order_from l 0 k)) (cell l order_base k) (from_var w)) (let y : 0 + length (order_from l 0 k) ≡ k = omega (arith, length_order_from l k 0) in y)

  long : length (fill (replicate n 0) 0 (order_from l 0 k)) ≡ n
  long = length_fill (order_from l 0 k) (replicate n 0) 0 ∙ length-replicate {A = ℕ} n 0

  map_same : cell l order_base k < n → translation n (order_from l 0 (suc k)) (cell l order_base k) ≡ from_var k
  unfolding translation
  map_same h = ap (λ (t : List ℕ). get_or t (cell l order_base k) 0) split ∙ get_or-set_same (fill (replicate n 0) 0 (order_from l 0 k)) (cell l order_base k) (from_var k) 0 (omega (arith, long))

  map_other : (v : ℕ) → v ≢ cell l order_base k → translation n (order_from l 0 (suc k)) v ≡ translation n (order_from l 0 k) v
  unfolding translation
  map_other v d = ap (λ (t : List ℕ). get_or t v 0) split ∙ get_or-set_other (fill (replicate n 0) 0 (order_from l 0 k)) (cell l order_base k) v (from_var k) 0 d

-- z is l with the mapping's table cleared
module _ (l z : List ℕ) (n m : ℕ) (C : Numbering l n m) (q : z ≡ cleared_table l tr_base n) where
  z_order : (j : ℕ) → cell z order_base j ≡ cell l order_base j
  z_order j = let most = C.most in rw q (cell_cleared_other l tr_base n order_base j (λ i p. omega arith))

  pub number_none : Numbers z z n 0
  number_none =
      let r = C.room in
      let most = C.most in
      record {
        room = rw q (omega (arith, length_cleared l tr_base n));
        map = λ v h. rw q (cell_cleared l tr_base n v (omega arith) h) ∙ sym (ap (λ (os : List ℕ). translation n os v) (order_from_zero z) ∙ translation_removed n [] v refl);
        order = λ j. refl;
      }

  module _ (e : List ℕ) (k : ℕ) (S : Numbers z e n k) where
    pub number_order : k < m → 5184 + k < length e
    number_order h = let r = S.room in let few = C.few in omega arith

    pub number_small : k < m → k < 1073741823
    number_small h = let few = C.few in omega arith

    pub number_word : k < m → Fits w32 k
    number_word h = record { fits = omega (arith, C.few) }

    module _ (v : ℕ) (h : k < m) (w : v ≡ cell e order_base k) where
      v_is : v ≡ cell z order_base k
      v_is = w ∙ S.order k

      low : v < n
      low = rw (v_is, z_order k) (C.named k h)

      pub number_place : 4672 + v < length e
      number_place = let r = S.room in let most = C.most in omega (arith, low)

      pub number_next : (e' : List ℕ) (s : ℕ) → s ≡ from_var k → e' ≡ store e tr_base v s → Numbers z e' n (k + 1)
      number_next e' s y q =
          let r = S.room in
          let most = C.most in
          let lw = low in
          rw (add-one k)
          (record {
            room = rw q (omega (arith, length_store e tr_base v s));
            map = λ u p. rw q (elim (ℕ_discrete u v) [
              | yes x ↦ rw x (cell_store e tr_base v s (omega arith) ∙ y ∙ sym (ap (translation n (order_from z 0 (suc k))) v_is ∙ map_same z n k (rw v_is at low)))
              | no d ↦ cell_store_other e tr_base v s tr_base u (omega arith) ∙ S.map u p ∙ sym (map_other z n k u (λ x. d (x ∙ sym v_is)))
            ]);
            order = λ j. rw q (cell_store_other e tr_base v s order_base j (omega arith)) ∙ S.order j;
          })

    pub number_done : k ≤ m → m ≤ k → Numbered l e n m
    number_done a b =
        let k≡m : k ≡ m = omega arith in
        let os : order_from z 0 k ≡ order_from l 0 m = ap (order_from z 0) k≡m ∙ order_from_same z l m 0 (λ i x y. z_order i) in
        record {
          numbers = record {
            room = S.room;
            map = λ v h. S.map v h ∙ ap (λ (o : List ℕ). translation n o v) os;
            order = λ j. S.order j ∙ z_order j;
          };
        }
