-- What reach says: a signal, a list, the gates are named where their reach is within the nodes, and sorted where it is within
-- the gate's own number.
use mathlib.Core.Path.{◌≡◌, refl, sym, ap₂, ◌∙◌}
use mathlib.Core.List.{List, [], ◌∷◌}
use mathlib.Core.Bool.{Bool, true, false, ◌&&◌, ◌||◌}
use Prim.Native.Nat.{ℕ, suc, ◌<◌}
use native.Mathlib.Omega.{arith}
use native.Mathlib.Decide.{dec_le}
use lib.Dec.{leb, ltb}
use borrow.Author.Tests.{ltb-true, ltb-false, lt-ltb, le-leb, lt-leb}
use Rattle.laws.proofs.Bools.{and_left, and_right}
use Rattle.laws.proofs.Choices.{by_bool}
use Rattle.model.specs.Signal.{Ref, rzero, rnode, rinput, ref}
use Rattle.model.specs.Gate.{Gate, is_dff, named_ref, named, all_named, gates_named, below_ref, all_below, sorted_from}
use Rattle.model.specs.Normal.{most}
use Rattle.model.proofs.Order.{most_le, most_gt}
use Rattle.model.proofs.Named.{named_word, named_ref_lem}
use Rattle.wiring.specs.Reach.{reach_ref, reach_of, reach_all, named_reach, sorted_reach}

-- ---- the greatest of two

most_within : (a b n : ℕ) → leb (most a b) n ≡ (leb a n && leb b n)
most_within a b n = elim (dec_le a b) [
  | yes l ↦ elim (dec_le b n) [
    | yes m ↦ rw (← most_le a b l, le-leb b n m, le-leb a n (omega arith))
    | no m ↦ rw (← most_le a b l, lt-leb b n (omega arith)) (sym (both_no (leb a n)))
  ]
  | no l ↦ elim (dec_le a n) [
    | yes m ↦ rw (← most_gt a b (omega arith), le-leb a n m, le-leb b n (omega arith))
    | no m ↦ rw (← most_gt a b (omega arith), lt-leb a n (omega arith))
  ]
]
  where
    both_no : (x : Bool) → (x && false) ≡ false
    both_no true = refl
    both_no false = refl

suc_within : (v n : ℕ) → leb (suc v) n ≡ ltb v n
suc_within v n = by_bool (ltb v n)
    (λ e. le-leb (suc v) n (let l = ltb-true v n e in omega arith) ∙ sym e)
    (λ e. lt-leb (suc v) n (let l = ltb-false v n e in omega arith) ∙ sym e)

-- ---- a signal

ref_named : (i n : ℕ) → n < 4294967295 → (r : Ref) → leb (reach_ref i r) n ≡ named_ref i n r
ref_named i n l rzero = le-leb 0 n (omega arith)
ref_named i n l (rnode v) = suc_within v n
ref_named i n l (rinput k) = by_bool (ltb k i)
    (λ e. rw e (le-leb 0 n (omega arith)))
    (λ e. rw e (lt-leb 4294967295 n l))

ref_below : (i n v : ℕ) (r : Ref) → named_ref i n r ≡ true → leb (reach_ref i r) v ≡ below_ref v r
ref_below i n v rzero e = le-leb 0 v (omega arith)
ref_below i n v (rnode w) e = suc_within w v
ref_below i n v (rinput k) e = rw e (le-leb 0 v (omega arith))

reach_named : (i n s : ℕ) → n < 4294967295 → leb (reach_of i s) n ≡ named i n s
unfolding reach_of named
reach_named i n s l = by_bool (ltb s 4294967296)
    (λ e. rw e (ref_named i n l (ref s)))
    (λ e. rw e (lt-leb 4294967295 n l))

reach_below : (i n v s : ℕ) → named i n s ≡ true → leb (reach_of i s) v ≡ below_ref v (ref s)
unfolding reach_of
reach_below i n v s e = rw (lt-ltb s 4294967296 (named_word i n s e)) (ref_below i n v (ref s) (named_ref_lem i n s e))

-- ---- a list

pub all_named_lem : (i n : ℕ) (l : List ℕ) → n < 4294967295 → leb (reach_all i l) n ≡ all_named i n l
unfolding reach_all all_named
all_named_lem i n [] m = le-leb 0 n (omega arith)
all_named_lem i n (s ∷ l) m = most_within (reach_of i s) (reach_all i l) n ∙ ap₂ {C = Bool} (λ x y. x && y) (reach_named i n s m) (all_named_lem i n l m)

all_below_lem : (i n v : ℕ) (l : List ℕ) → all_named i n l ≡ true → leb (reach_all i l) v ≡ all_below v l
unfolding reach_all all_named all_below
all_below_lem i n v [] e = le-leb 0 v (omega arith)
all_below_lem i n v (s ∷ l) e =
    most_within (reach_of i s) (reach_all i l) v
    ∙ ap₂ {C = Bool} (λ x y. x && y)
    (reach_below i n v s (and_left (named i n s) (all_named i n l) e))
    (all_below_lem i n v l (and_right (named i n s) (all_named i n l) e))

-- ---- the gates

pub gates_named_lem : (i n : ℕ) (gs : List Gate) → n < 4294967295 → named_reach i n gs ≡ gates_named i n gs
unfolding named_reach gates_named
gates_named_lem i n [] m = refl
gates_named_lem i n (g ∷ gs) m = ap₂ {C = Bool} (λ x y. x && y) (all_named_lem i n g.ins m) (gates_named_lem i n gs m)

pub gates_sorted : (i n v : ℕ) (gs : List Gate) → gates_named i n gs ≡ true → sorted_reach i v gs ≡ sorted_from v gs
unfolding sorted_reach sorted_from gates_named
gates_sorted i n v [] e = refl
gates_sorted i n v (g ∷ gs) e =
    ap₂ {C = Bool} (λ x y. (is_dff g || x) && y)
    (all_below_lem i n v g.ins (and_left (all_named i n g.ins) (gates_named i n gs) e))
    (gates_sorted i n (suc v) gs (and_right (all_named i n g.ins) (gates_named i n gs) e))
