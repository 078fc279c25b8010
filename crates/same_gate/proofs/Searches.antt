-- The search for an equal gate, word by word.
use Prim.Native.Nat.{ℕ, suc, ◌+◌, ◌*◌, ◌^◌, ◌≤◌, ◌<◌}
use mathlib.Core.Path.{◌≡◌, refl, sym, ap, ◌∙◌}
use mathlib.Core.Bool.{Bool, true, false, ◌&&◌, and-false}
use mathlib.Core.List.{List, [], ◌∷◌, ◌++◌}
use mathlib.Core.Option.{Option, none, some}
use native.Mathlib.Omega.{arith}
use native.Mathlib.Nat.{le_antisymm}
use native.Mathlib.Decide.{ℕ_discrete}
use native.Mathlib.Numerals.{add-one}
use lib.ListN.{length, get_or}
use lib.Dec.{eqb}
use borrow.Author.Tests.{eq-eqb, ne_eqb}
use mir.Val.{Fits}
use mir.Syntax.{w64}
use Rattle.laws.specs.Lists.{tab}
use Rattle.laws.proofs.Tabs.{length_tab, get_or_tab}
use Rattle.laws.proofs.Choices.{by_bool}
use Rattle.model.specs.Gate.{Gate}
use Rattle.model.specs.Network.{same_list, same_gate, find_step, find_gate}
use Rattle.shape.proofs.DedupPlace.{same_list_eq}
use Rattle.tables.specs.Layout.{net_size, kind_at, first_at, count_at, input_at, low_at, high_at, ins_at, gate_at, cell}
use Rattle.same_gate.specs.declared.Sought.{Sought}
use Rattle.same_gate.specs.Listed.{list_base, same_ins, listed, Searched}

-- ---- equal lists

same_list_refl : (l : List ℕ) → same_list l l ≡ true
unfolding same_list
same_list_refl [] = refl
same_list_refl (x ∷ l) = rw (eq-eqb x x refl, same_list_refl l)

same_list_length : (a b : List ℕ) → (length a ≡ length b → ⊥) → same_list a b ≡ false
same_list_length a b d = by_bool (same_list a b) (λ e. absurd (d (ap length (same_list_eq a b e)))) (λ e. e)

module _ (l : List ℕ) (f : ℕ) where
  abbrev ours : ℕ → ℕ
  ours = cell l list_base

  abbrev theirs : ℕ → ℕ
  theirs j = input_at l (f + j)

  pub same_none : same_ins l f 0 ≡ true
  unfolding same_ins tab same_list
  same_none = refl

  pub same_more : (j : ℕ) → same_ins l f j ≡ true → cell l list_base j ≡ input_at l (f + j) → same_ins l f (j + 1) ≡ true
  unfolding same_ins tab
  same_more j e q =
      let h : tab ours j ≡ tab theirs j = same_list_eq (tab ours j) (tab theirs j) e in
      rw add-one (rw (h, q) (same_list_refl (tab theirs j ++ (theirs j ∷ []))))

  pub same_differ : (n j : ℕ) → j < n → (cell l list_base j ≡ input_at l (f + j) → ⊥) → false ≡ same_ins l f n
  unfolding same_ins
  same_differ n j h d = by_bool (same_list (tab ours n) (tab theirs n))
      (λ e. absurd (d (sym (get_or_tab ours n j 0 h) ∙ ap (λ (m : List ℕ). get_or m j 0) (same_list_eq (tab ours n) (tab theirs n) e) ∙ get_or_tab theirs n j 0 h)))
      (λ e. sym e)

  -- the loop
  module _ (n : ℕ) (P : (16384 ≤ length l) × (f + n ≤ 2048)) (j : ℕ) where
    module _ (h : j < n) where
      pub same_word : list_base + j < length l
      same_word = omega (arith, P.0, P.1)

      pub same_place : Fits w64 (f + j)
      same_place = record { fits = omega (arith, P.1) }

      pub same_input : (f + j < 2048) × (net_size ≤ length l)
      same_input = (omega (arith, P.1), omega (arith, P.0))

    pub same_end : j ≤ n → n ≤ j → same_ins l f j ≡ true → true ≡ same_ins l f n
    same_end a b e = sym e ∙ ap (same_ins l f) (le_antisymm a b)

-- a table is its two words
table_eq : (a b c d : ℕ) → a < 2 ^ 32 → c < 2 ^ 32 → (eqb a c && eqb b d) ≡ eqb (a + 2 ^ 32 * b) (c + 2 ^ 32 * d)
table_eq a b c d p q = elim (ℕ_discrete a c) [
  | yes e ↦ elim (ℕ_discrete b d) [
    | yes f ↦ rw (eq-eqb a c e, eq-eqb b d f) (sym (eq-eqb (a + 2 ^ 32 * b) (c + 2 ^ 32 * d) (omega arith)))
    | no f ↦ rw (eq-eqb a c e, ne_eqb b d f) (sym (ne_eqb (a + 2 ^ 32 * b) (c + 2 ^ 32 * d) (λ x. f (omega arith))))
  ]
  | no e ↦ rw (ne_eqb a c e) (sym (ne_eqb (a + 2 ^ 32 * b) (c + 2 ^ 32 * d) (λ x. e (omega arith))))
]

-- ---- the gate in the list, and node w's

module _ (l : List ℕ) (w : ℕ) (s : Searched l (w + 1)) where
  pub node_in_lem : (w < 512) × (net_size ≤ length l)
  node_in_lem = (omega (arith, s.few), omega (arith, s.long))

-- its inputs stand in the input table
pub inputs_in_lem : (l : List ℕ) (w n f : ℕ) → Searched l (w + 1) → f ≡ first_at l w → n ≡ count_at l w → (16384 ≤ length l) × (f + n ≤ 2048)
inputs_in_lem l w n f s e q = (s.long, rw (e, q) (s.ends w (omega arith)))

module _ (l : List ℕ) (w : ℕ) (g : Sought) where
  pub kind_differs : (g.kind ≡ kind_at l w → ⊥) → false ≡ same_gate (listed l g) (gate_at l w)
  unfolding same_gate listed gate_at
  kind_differs h = rw (ne_eqb _ _ h)

  pub count_differs : (g.n ≡ count_at l w → ⊥) → false ≡ same_gate (listed l g) (gate_at l w)
  unfolding same_gate listed gate_at ins_at
  count_differs h =
      simp (
        same_list_length (tab (cell l list_base) g.n) (tab (λ j. input_at l (first_at l w + j)) (count_at l w))
            (λ e. h (sym (length_tab (cell l list_base) g.n) ∙ e ∙ length_tab (λ j. input_at l (first_at l w + j)) (count_at l w))),
        and-false,
      )

  pub inputs_differ : (t : Bool) → g.n ≡ count_at l w → t ≡ same_ins l (first_at l w) g.n → t ≡ false → false ≡ same_gate (listed l g) (gate_at l w)
  unfolding same_gate listed gate_at ins_at same_ins
  inputs_differ t c e f = rw (← c, ← e, f) (sym (and-false (eqb g.kind (kind_at l w))))

  -- all else agrees: the table decides
  pub table_decides : (t : Bool) → g.kind ≡ kind_at l w → g.n ≡ count_at l w → t ≡ same_ins l (first_at l w) g.n → t ≡ true
      → g.low < 2 ^ 32 → low_at l w < 2 ^ 32 → (eqb g.low (low_at l w) && eqb g.high (high_at l w)) ≡ same_gate (listed l g) (gate_at l w)
  unfolding same_gate listed gate_at ins_at same_ins
  table_decides t p c e f a b = rw (eq-eqb _ _ p, ← c, ← e, f) (table_eq g.low g.high (low_at l w) (high_at l w) a b)

-- ---- the first of a list

-- a gate that was not found so far
pub find_none : (g h : Gate) (l : List Gate) → find_gate g l ≡ none → same_gate g h ≡ false → find_gate g (l ++ (h ∷ [])) ≡ none
unfolding find_gate
find_none g h [] e f = rw f
find_none g h (x ∷ l) e f = go (same_gate g x) (find_gate g l) e (find_none g h l)
  where
    go : (b : Bool) (r : Option ℕ) → find_step b r ≡ none → (r ≡ none → same_gate g h ≡ false → find_gate g (l ++ (h ∷ [])) ≡ none) → find_step b (find_gate g (l ++ (h ∷ []))) ≡ none
    go true r q ih = cc
    go false none q ih = rw (ih refl f)
    go false (some j) q ih = cc

-- what was found stays found
pub find_some : (g h : Gate) (l : List Gate) (j : ℕ) → find_gate g l ≡ some j → find_gate g (l ++ (h ∷ [])) ≡ some j
unfolding find_gate
find_some g h [] j e = cc
find_some g h (x ∷ l) j e = go (same_gate g x) (find_gate g l) e (find_some g h l)
  where
    go : (b : Bool) (r : Option ℕ) → find_step b r ≡ some j → ((k : ℕ) → r ≡ some k → find_gate g (l ++ (h ∷ [])) ≡ some k) → find_step b (find_gate g (l ++ (h ∷ []))) ≡ some j
    go true r q ih = q
    go false none q ih = cc
    go false (some k) q ih = rw (ih k refl) q

pub find_here : (g h : Gate) (l : List Gate) → find_gate g l ≡ none → same_gate g h ≡ true → find_gate g (l ++ (h ∷ [])) ≡ some (length l)
unfolding find_gate
find_here g h [] e f = rw f
find_here g h (x ∷ l) e f = go (same_gate g x) (find_gate g l) e (find_here g h l)
  where
    go : (b : Bool) (r : Option ℕ) → find_step b r ≡ none → (r ≡ none → same_gate g h ≡ true → find_gate g (l ++ (h ∷ [])) ≡ some (length l))
        → find_step b (find_gate g (l ++ (h ∷ []))) ≡ some (suc (length l))
    go true r q ih = cc
    go false none q ih = rw (ih refl f)
    go false (some j) q ih = cc

pub searched_less : (l : List ℕ) (n w : ℕ) → Searched l n → w < n → Searched l (w + 1)
searched_less l n w s h = let few = s.few in record { long = s.long; few = omega arith; ends = λ u q. s.ends u (omega arith) }
