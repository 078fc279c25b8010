-- Laws of the walk over the signals: one signal, a list of them, the records.
use mathlib.Core.Path.{◌≡◌, refl, sym, ap, ◌∙◌}
use mathlib.Core.List.{List, ◌∷◌}
use mathlib.Core.Bool.{Bool, true, false, not, ◌&&◌, ◌||◌, and-true}
use Prim.Native.Nat.{ℕ, zero, suc, ◌+◌, ◌-◌, ◌/◌, ◌%◌, ◌≤◌, ◌<◌}
use native.Mathlib.Omega.{arith}
use native.Mathlib.Nat.{sub-zero}
use native.Mathlib.Numerals.{sub-one, add-one}
use native.Mathlib.Decide.{ℕ_discrete, dec_le}
use lib.ListN.{length, get_or, take, drop}
use lib.Seq.{drop-cons}
use lib.Dec.{leb, ltb}
use borrow.Author.Tests.{ltb-true, ltb-false, lt-ltb, le-ltb, not-true, not-false}
use Rattle.std.specs.Prelude.{max}
use Rattle.laws.proofs.Bools.{and_assoc}
use Rattle.kinds.specs.Kinds.{kind_of, is_flip_flop}
use Rattle.kinds.specs.declared.Kind.{Kind}
use Rattle.model.specs.Signal.{rinput, is_input}
use Rattle.model.specs.Normal.{most}
use Rattle.model.specs.Image.{words, code_at, count_at, size_at, record_gate, gates_from}
use Rattle.model.proofs.Bytes.{length_words}
use Rattle.model.proofs.Words.{constant_ref, var_ref, input_ref}
use Rattle.model.proofs.Order.{most_le, most_gt}
use Rattle.records.specs.Layouts.{size_of}
use Rattle.wiring.specs.Reach.{reach_ref, reach_of, reach_all, reach_from, named_reach, sorted_reach, wiring_from}
use Rattle.wiring.specs.declared.Wiring.{Wiring}
use Rattle.records.proofs.Fits.{size_is, count_is}

-- ---- one signal, as the tests of the crate `signal` tell it

module _ (s : ℕ) (t : Bool) (e : t ≡ is_input s) where
  pub high_input : not t ≡ false → 2147483648 ≤ s
  high_input q = ltb-false s 2147483648 (not-true (ltb s 2147483648) (sym e ∙ not-false t q))

  low_input : not t ≡ true → s < 2147483648
  low_input q = ltb-true s 2147483648 (not-false (ltb s 2147483648) (sym e ∙ not-true t q))

  -- a constant or a node: its index
  pub reach_low : (i d : ℕ) → not t ≡ true → d ≡ s / 2 → d ≡ reach_of i s
  unfolding reach_of
  reach_low i d q z =
      let l = low_input q in
      rw (lt-ltb s 4294967296 (omega arith)) (elim (ℕ_discrete (s / 2) 0) [
        | yes o ↦ z ∙ o ∙ sym (ap (reach_ref i) (constant_ref s o))
        | no o ↦
            let w : s / 2 ≡ suc (s / 2 - 1) = omega arith in
            z ∙ w ∙ sym (ap (reach_ref i) (var_ref s (omega arith) l))
      ])

  module _ (i k : ℕ) (w : s < 4294967296) (q : not t ≡ false) (z : k ≡ 2147483647 - s / 2) where
    input_is : reach_of i s ≡ reach_ref i (rinput k)
    unfolding reach_of
    input_is = rw (lt-ltb s 4294967296 w, z) (ap (reach_ref i) (input_ref s (high_input q)))

    pub reach_input : k < i → 0 ≡ reach_of i s
    reach_input l = sym (input_is ∙ rw (lt-ltb k i l))

    pub reach_absent : i ≤ k → 4294967295 ≡ reach_of i s
    reach_absent l = sym (input_is ∙ rw (le-ltb k i l))

pub ruleset signs = (high_input, reach_low, reach_input, reach_absent)

-- ---- the greatest of two

most_max : (a b : ℕ) → max a b ≡ most a b
most_max a b = elim (dec_le a b) [
  | yes h ↦ rw (← most_le a b h) (omega arith)
  | no h ↦ rw (← most_gt a b (omega arith)) (omega arith)
]

zero_most : (a : ℕ) → a ≡ most 0 a
zero_most a = most_le 0 a (omega arith)

most_zero : (a : ℕ) → most a 0 ≡ a
most_zero a = elim (ℕ_discrete a 0) [ yes e ↦ rw e (sym (zero_most 0)) | no e ↦ sym (most_gt a 0 (omega arith)) ]

most_most : (a b c : ℕ) → most a (most b c) ≡ most (most a b) c
most_most a b c = elim (dec_le a b) [
  | yes l ↦ elim (dec_le b c) [
    | yes m ↦ rw (← most_le b c m, ← most_le a b l, ← most_le a c (omega arith), ← most_le b c m)
    | no m ↦ rw (← most_gt b c (omega arith), ← most_le a b l, ← most_gt b c (omega arith))
  ]
  | no l ↦ elim (dec_le b c) [
    | yes m ↦ rw (← most_le b c m, ← most_gt a b (omega arith))
    | no m ↦ rw (← most_gt b c (omega arith), ← most_gt a b (omega arith), ← most_gt a c (omega arith))
  ]
]

-- ---- the signals from a position on

-- a part, taken apart at its first element
part_cons : (k : ℕ) (ws : List ℕ) (at s : ℕ) → 0 < k → at < length ws → s ≡ get_or ws at 0
    → take k (drop at ws) ≡ s ∷ take (k - 1) (drop (at + 1) ws)
part_cons zero ws at s p l e = absurd (omega arith)
part_cons (suc k) ws at s p l e = rw (drop-cons ws at 0, ← e, sub-one, add-one)

pub list_start : (l : List ℕ) (i k from : ℕ) → reach_from i k (words l) from ≡ most 0 (reach_from i (from + k - from) (words l) from)
list_start l i k from =
    let e : k ≡ from + k - from = omega arith in
    zero_most (reach_from i k (words l) from) ∙ ap (λ (j : ℕ). most 0 (reach_from i j (words l) from)) e

-- the loop of `reach`: its invariant is x ≡ most top (the reach of what is left)
module _ (l : List ℕ) (i x top end at : ℕ) (inv : x ≡ most top (reach_from i (end - at) (words l) at)) where
  pub list_done : end ≤ at → top ≡ x
  unfolding reach_from reach_all
  list_done z =
      let e : end - at ≡ 0 = omega arith in
      sym (inv ∙ ap (λ (j : ℕ). most top (reach_from i j (words l) at)) e ∙ most_zero top)

  pub list_step : at < end → end ≤ length l / 4 → (s : ℕ) → s ≡ get_or (words l) at 0 → (r : ℕ) → r ≡ reach_of i s
      → x ≡ most (max top r) (reach_from i (end - (at + 1)) (words l) (at + 1))
  unfolding reach_from reach_all
  list_step p f s e r z =
      let w : at < length (words l) = omega (arith, length_words l) in
      let k : end - at - 1 ≡ end - (at + 1) = omega arith in
      let rest = reach_all i (take (end - at - 1) (drop (at + 1) (words l))) in
      inv
      ∙ simp (part_cons (end - at) (words l) at s (omega arith) w e, ← z) (most_most top r rest)
      ∙ ap (λ (y : ℕ). most y rest) (sym (most_max top r))
      ∙ ap (λ (j : ℕ). most (max top r) (reach_all i (take j (drop (at + 1) (words l))))) k

pub ruleset lists = (list_start, list_done, list_step)

-- ---- the records from a position on

-- the answers so far, and of what is left
unfoldable pub joined : Bool → Bool → Wiring → Wiring
joined a d w = record { named = a && w.named; sorted = d && w.sorted }

wiring_eq : {v w : Wiring} → v.named ≡ w.named → v.sorted ≡ w.sorted → v ≡ w
wiring_eq p q = λ i. record { named = p i; sorted = q i }

join_start : (w : Wiring) → w ≡ joined true true w
unfolding joined
join_start w = refl

join_join : (a d a' d' : Bool) (w : Wiring) → joined a d (joined a' d' w) ≡ joined (a && a') (d && d') w
unfolding joined
join_join a d a' d' w = wiring_eq (sym (and_assoc a a' w.named)) (sym (and_assoc d d' w.sorted))

-- one record: the reach of its inputs, and whether it is a flip-flop
one_record : (ws : List ℕ) (i n v j at h s r : ℕ) → h ≡ get_or ws at 0 → s ≡ size_of h → r ≡ reach_from i (h / 256) ws (at + 1)
    → (f : Bool) → f ≡ is_flip_flop (kind_of (h % 256))
    → wiring_from i n v (suc j) ws at ≡ joined (leb r n) (f || leb r v) (wiring_from i n (suc v) j ws (at + s))
unfolding wiring_from gates_from named_reach sorted_reach record_gate code_at joined reach_from
one_record ws i n v j at h s r e z q f g =
    let c : count_at ws at ≡ h / 256 = count_is ws at h e in
    let o : size_at ws at ≡ s = size_is ws at h e ∙ sym z in
    wiring_eq (simp (q, c, o)) (simp (q, c, o, ← e, g))

pub gates_start : (b : List ℕ) (i n : ℕ) → wiring_from i n 0 n (words b) 0 ≡ joined true true (wiring_from i n 0 (n - 0) (words b) 0)
gates_start b i n =
    join_start (wiring_from i n 0 n (words b) 0) ∙ ap (λ (k : ℕ). joined true true (wiring_from i n 0 k (words b) 0)) (sym (sub-zero n))

-- the loop of `of_records`
module _ (b : List ℕ) (i n v : ℕ) (x : Wiring) (a d : Bool) (at : ℕ) (inv : x ≡ joined a d (wiring_from i n v (n - v) (words b) at)) where
  pub gates_done : n ≤ v → ◌≡◌ {A = Wiring} (record { named = a; sorted = d }) x
  unfolding joined wiring_from gates_from named_reach sorted_reach
  gates_done l =
      let e : n - v ≡ 0 = omega arith in
      sym (inv ∙ ap (λ (j : ℕ). joined a d (wiring_from i n v j (words b) at)) e ∙ wiring_eq (and-true a) (and-true d))

  pub gates_step : v < n → (h : ℕ) → h ≡ get_or (words b) at 0 → (r : ℕ) → r ≡ reach_from i (h / 256) (words b) (at + 1)
      → (k : Kind) → k ≡ kind_of (h % 256) → (f : Bool) → f ≡ is_flip_flop k → (s : ℕ) → s ≡ size_of h
      → x ≡ joined (a && leb r n) (d && (f || leb r v)) (wiring_from i n (v + 1) (n - (v + 1)) (words b) (at + s))
  gates_step p h e r q k y f g s z =
      let j : n - v ≡ suc (n - (v + 1)) = omega arith in
      let o : v + 1 ≡ suc v = omega arith in
      inv
      ∙ ap (λ (m : ℕ). joined a d (wiring_from i n v m (words b) at)) j
      ∙ ap (joined a d) (one_record (words b) i n v (n - (v + 1)) at h s r e z q f (g ∙ ap is_flip_flop y))
      ∙ join_join a d (leb r n) (f || leb r v) (wiring_from i n (suc v) (n - (v + 1)) (words b) (at + s))
      ∙ ap (λ (m : ℕ). joined (a && leb r n) (d && (f || leb r v)) (wiring_from i n m (n - (v + 1)) (words b) (at + s))) (sym o)

pub ruleset gates = (gates_start, gates_done, gates_step)
