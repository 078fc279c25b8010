-- Laws of words pushed at the end of the input table, one by one or from the same network.
use Prim.Native.Nat.{suc, zero, ℕ, ◌+◌, ◌-◌, ◌<◌, ◌≤◌}
use mathlib.Core.Path.{ap, refl, sym, ◌∙◌, ◌≡◌}
use mathlib.Core.List.{List, [], ◌++◌, ◌∷◌}
use native.Mathlib.Omega.{arith}
use native.Mathlib.Nat.{add-zero, le_refl}
use lib.ListN.{get_or, length}
use lib.Seq.{take-length}
use lib.Dec.{leb}
use borrow.Author.Tests.{le-leb, leb-false, leb-true, lt-leb}
use Rattle.std.specs.Prelude.{Some, None}
use Rattle.merge_dependencies.specs.Pushing.{Pushes, Reading, behind, put_words}
use Rattle.laws.specs.Lists.{tab}
use Rattle.tables.specs.Building.{CopiesInputs, Packed, inputs_from, put_inputs}
use Rattle.tables.specs.Layout.{count_at, first_at, gate_at, input_at, ins_at, put_input}
use Rattle.laws.proofs.Choices.{by_bool}
use Rattle.laws.proofs.Tabs.{length_tab, take_tab}
use Rattle.tables.proofs.Building.{count_at_put_inputs, first_at_put_inputs, high_at_put_inputs, input_at_put_inputs_below, kind_at_put_inputs, length_put_inputs, low_at_put_inputs}
use Rattle.tables.proofs.Gates.{gate_at_same}
use Rattle.tables.proofs.Holding.{length_ins_at}

-- ---- words by a list and by a function

pub put_words_append : (a b l : List ℕ) (at : ℕ) → put_words l at (a ++ b) ≡ put_words (put_words l at a) (at + length a) b
unfolding put_words
put_words_append [] b l at = rw (add-zero at)
put_words_append (x ∷ a) b l at = let e : suc at + length a ≡ at + suc (length a) = omega arith in rw (← e) (put_words_append a b (put_input l at x) (suc at))

pub put_inputs_words : (l : List ℕ) (at : ℕ) (f : ℕ → ℕ) (n : ℕ) → put_inputs l at f n ≡ put_words l at (tab f n)
unfolding put_inputs put_words tab
put_inputs_words l at f zero = refl
put_inputs_words l at f (suc n) =
    rw (put_inputs_words l at f n) (sym (put_words_append (tab f n) (f n ∷ []) l at ∙ ap (λ k. put_input (put_words l at (tab f n)) (at + k) (f n)) (length_tab f n)))

pub tab_words : (ws : List ℕ) → tab (λ j. get_or ws j 0) (length ws) ≡ ws
tab_words ws = sym (take_tab ws (length ws) (le_refl _)) ∙ take-length ws

pub put_words_inputs : (l : List ℕ) (at : ℕ) (ws : List ℕ) → put_words l at ws ≡ put_inputs l at (λ j. get_or ws j 0) (length ws)
put_words_inputs l at ws = sym (put_inputs_words l at (λ j. get_or ws j 0) (length ws) ∙ ap (put_words l at) (tab_words ws))

-- ---- what stands below stays

module _ (l : List ℕ) (at : ℕ) (ws : List ℕ) where
  pub length_put_words : length (put_words l at ws) ≡ length l
  length_put_words = ap length (put_words_inputs l at ws) ∙ length_put_inputs l at _ (length ws)

  module _ (w : ℕ) (h : w < 512) (r : at + length ws ≤ 2048) (e : first_at l w + count_at l w ≤ at) where
    pub gate_at_put_words : gate_at (put_words l at ws) w ≡ gate_at l w
    gate_at_put_words =
        let f : ℕ → ℕ = λ j. get_or ws j 0 in
        let n = length ws in
        let p = put_inputs l at (λ j. get_or ws j 0) n in
        ap (λ x. gate_at x w) (put_words_inputs l at ws)
        ∙ gate_at_same p l w w (kind_at_put_inputs l at f w h n) (count_at_put_inputs l at f w h n)
        (λ j q. ap (λ x. input_at p (x + j)) (first_at_put_inputs l at f w h n) ∙ input_at_put_inputs_below l at f n (first_at l w + j) (omega arith))
        (low_at_put_inputs l at f w n r)
        (high_at_put_inputs l at f w n r)

  pub packed_put_words : (v : ℕ) → Packed l v at → at + length ws ≤ 2048 → Packed (put_words l at ws) v (at + length ws)
  packed_put_words v P r = record {
    long = rw length_put_words P.long;
    few = P.few;
    ends = λ w q.
        let few = P.few in
        let f : ℕ → ℕ = λ j. get_or ws j 0 in
        let a = first_at_put_inputs l at f w (omega arith) (length ws) in
        let b = count_at_put_inputs l at f w (omega arith) (length ws) in
        rw (put_words_inputs l at ws, a, b) (omega (arith, P.ends w q));
    room = r;
  }

-- ---- the answer

module _ (at n : ℕ) where
  pub behind_fits : at + n ≤ 2048 → behind at n ≡ Some (at + n)
  unfolding behind
  behind_fits h = rw (le-leb (at + n) 2048 h)

  pub behind_none : 2048 < at + n → behind at n ≡ None
  unfolding behind
  behind_none h = rw (lt-leb (at + n) 2048 h)

  module _ (k : ℕ) (e : Some k ≡ behind at n) where
    pub behind_le : at + n ≤ 2048
    unfolding behind
    behind_le = by_bool (leb (at + n) 2048)
        (λ t. leb-true (at + n) 2048 t)
        (λ t. let q : Some k ≡ None = e ∙ rw t in absurd cc)

    pub behind_is : k ≡ at + n
    behind_is = let q : Some k ≡ Some (at + n) = e ∙ behind_fits behind_le in cc

  pub behind_over : None ≡ behind at n → 2048 < at + n
  unfolding behind
  behind_over e = by_bool (leb (at + n) 2048)
      (λ t. let q : None ≡ Some (at + n) = e ∙ rw t in absurd cc)
      (λ t. leb-false (at + n) 2048 t)

-- ---- push

pub push_done : (l m : List ℕ) (at s : ℕ) → at < 2048 → m ≡ put_input l at s → Pushes l m at (s ∷ []) (Some (at + 1))
unfolding put_words
push_done l m at s h e = record { answer = sym (behind_fits at 1 (omega arith)); words = λ q. e }

pub push_full : (l : List ℕ) (at s : ℕ) → 2048 ≤ at → Pushes l l at (s ∷ []) None
push_full l at s h = record { answer = sym (behind_none at 1 (omega arith)); words = λ q. absurd (omega arith) }

pub ruleset pushes = (push_done, push_full)

-- ---- open_node

-- the inputs of node w, as a list
ins_at_words : (l : List ℕ) (w at : ℕ) → put_inputs l at (inputs_from l (first_at l w)) (count_at l w) ≡ put_words l at (ins_at l w)
unfolding ins_at inputs_from
ins_at_words l w at = put_inputs_words l at (λ j. input_at l (first_at l w + j)) (count_at l w)

module _ (l : List ℕ) (v w at : ℕ) (P : Reading l v w at) where
  module _ (n : ℕ) (en : n ≡ count_at l w) where
    pub open_full : 2048 - at < n → Pushes l l at (ins_at l w) None
    open_full h =
        let a = length_ins_at l w in
        let r = P.packed.room in
        let q : 2048 < at + length (ins_at l w) = omega arith in
        record { answer = sym (behind_none at (length (ins_at l w)) q); words = λ p. absurd (omega arith) }

    module _ (h : n ≤ 2048 - at) (f : ℕ) (ef : f ≡ first_at l w) where
      pub open_copies : CopiesInputs l l f at n
      open_copies = record { source = P.packed.long; long = P.packed.long; ends = let r = P.packed.room in omega (arith, P.packed.ends w P.below); room = let r = P.packed.room in omega arith }

      pub open_done : (m : List ℕ) → m ≡ put_inputs l at (inputs_from l f) n → Pushes l m at (ins_at l w) (Some (at + n))
      open_done m em =
          let a = length_ins_at l w in
          let r = P.packed.room in
          let e : length (ins_at l w) ≡ n = a ∙ sym en in
          record {
            answer = rw e (sym (behind_fits at n (omega arith)));
            words = λ q. em ∙ rw (en, ef) (ins_at_words l w at);
          }

pub ruleset open_nodes = (open_full, open_copies, open_done)
