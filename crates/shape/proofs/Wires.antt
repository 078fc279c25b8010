-- What signals name: the test `is_var`, and the nodes of a list of signals in their order.
use mathlib.Core.Path.{◌≡◌, refl, sym, ap, ◌∙◌}
use Prim.Native.Nat.{ℕ, ◌-◌, ◌/◌, ◌≤◌, ◌<◌, suc-le-suc, zero-le}
use native.Mathlib.Omega.{arith}
use native.Mathlib.Decide.{ℕ_discrete, dec_lt}
use mathlib.Core.Bool.{true, false, not, and-false}
use mathlib.Core.List.{List, [], ◌∷◌, ◌++◌, append-nil}
use lib.ListN.{length}
use lib.Dec.{ltb}
use borrow.Author.Tests.{eq-eqb, ne_eqb, lt-ltb, le-ltb}
use Rattle.laws.specs.Lists.{All}
use Rattle.laws.proofs.Choices.{by_bool, clash}
use Rattle.model.specs.Signal.{Ref, rzero, rnode, rinput, ref, is_inverted, flip, is_var, remap_order}
use Rattle.model.specs.Gate.{Net, gate_at, size, wired}
use Rattle.model.specs.Network.{var_cons, vars}
use Rattle.model.proofs.Words.{constant_ref, var_ref, input_ref, remap_constant, remap_input, remap_var}
use Rattle.model.proofs.Names.{Names, In, zero_names, input_names, node_names, wired_ins, wired_out}
use Rattle.shape.specs.Forms.{Below, Inside, OutsInside}

-- ---- is_var

pub var_is : (s : ℕ) → 2 ≤ s → s < 2147483648 → is_var s ≡ true
unfolding is_var
var_is s h l = rw (lt-ltb s 2147483648 l, ne_eqb (s / 2) 0 (omega arith))

pub var_low : (s : ℕ) → is_var s ≡ true → 2 ≤ s
unfolding is_var
var_low s h = elim (ℕ_discrete (s / 2) 0) [
  | yes e ↦ clash h (rw (eq-eqb (s / 2) 0 e) (and-false (not (not (ltb s 2147483648)))))
  | no e ↦ omega arith
]

pub var_high : (s : ℕ) → is_var s ≡ true → s < 2147483648
unfolding is_var
var_high s h = elim (dec_lt s 2147483648) [ yes l ↦ l | no l ↦ clash h (rw (le-ltb s 2147483648 (omega arith))) ]

pub var_names : (s : ℕ) → is_var s ≡ true → ref s ≡ rnode (s / 2 - 1)
var_names s h = var_ref s (var_low s h) (var_high s h)

-- what a signal that is no node's names
pub data Other (r : Ref) : Type 0 where
  is_zero : r ≡ rzero → Other r
  an_input : (k : ℕ) → r ≡ rinput k → Other r

pub other_names : (s : ℕ) → is_var s ≡ false → Other (ref s)
other_names s h = elim (dec_lt s 2147483648) [
  | yes l ↦ elim (ℕ_discrete (s / 2) 0) [
    | yes e ↦ is_zero (constant_ref s e)
    | no e ↦ clash (var_is s (omega arith) l) h
  ]
  | no l ↦ an_input (2147483647 - s / 2) (input_ref s (omega arith))
]

module _ (τ : ℕ → ℕ) (s : ℕ) where
  pub remap_node : is_var s ≡ true → remap_order τ s ≡ flip (τ (s / 2 - 1)) (is_inverted s)
  remap_node h = remap_var τ s (var_low s h) (var_high s h)

  pub remap_other : is_var s ≡ false → remap_order τ s ≡ s
  remap_other h = elim (dec_lt s 2147483648) [
    | yes l ↦ elim (ℕ_discrete (s / 2) 0) [
      | yes e ↦ remap_constant τ s e
      | no e ↦ clash (var_is s (omega arith) l) h
    ]
    | no l ↦ remap_input τ s (omega arith)
  ]

-- translations that agree below n
pub remap_same : (τ ρ : ℕ → ℕ) (n s : ℕ) → Below n s → ((v : ℕ) → v < n → τ v ≡ ρ v) → remap_order τ s ≡ remap_order ρ s
remap_same τ ρ n s b h = by_bool (is_var s)
    (λ e. remap_node τ s e ∙ ap (λ x. flip x (is_inverted s)) (h (s / 2 - 1) (b e)) ∙ sym (remap_node ρ s e))
    (λ e. remap_other τ s e ∙ sym (remap_other ρ s e))

-- ---- names

pub names_below : (n s : ℕ) → Names (λ x. x < n) s → Below n s
names_below n s h e = h (s / 2 - 1) (var_names s e)

pub below_names : (n s : ℕ) → Below n s → Names (λ x. x < n) s
below_names n s h = by_bool (is_var s)
    (λ e. node_names (λ x. x < n) s (s / 2 - 1) (var_names s e) (h e))
    (λ e. none (other_names s e))
  where
    none : Other (ref s) → Names (λ x. x < n) s
    none (is_zero z) m f = zero_names z f
    none (an_input k z) m f = input_names z f

-- ---- the nodes that a list of signals names

pub in_vars : (P : ℕ → Type 0) (l : List ℕ) → In P l → All P (vars l)
unfolding vars
in_vars P [] h = tt
in_vars P (s ∷ l) h = go (ref s) refl (in_vars P l h.1)
  where
    go : (r : Ref) → ref s ≡ r → All P (vars l) → All P (var_cons r (vars l))
    go rzero e a = a
    go (rnode w) e a = (h.0 w e, a)
    go (rinput k) e a = a

pub vars_in : (P : ℕ → Type 0) (l : List ℕ) → All P (vars l) → In P l
unfolding vars
vars_in P [] h = tt
vars_in P (s ∷ l) h = ((go (ref s) refl h).0, vars_in P l (go (ref s) refl h).1)
  where
    go : (r : Ref) → ref s ≡ r → All P (var_cons r (vars l)) → Names P s × All P (vars l)
    go rzero e a = ((λ m f. zero_names e f), a)
    go (rnode w) e a = (node_names P s w e a.0, a.1)
    go (rinput k) e a = ((λ m f. input_names e f), a)

var_cons_node : (s : ℕ) (l : List ℕ) → is_var s ≡ true → var_cons (ref s) l ≡ (s / 2 - 1) ∷ l
var_cons_node s l h = ap (λ r. var_cons r l) (var_names s h)

var_cons_other : (s : ℕ) (l : List ℕ) → is_var s ≡ false → var_cons (ref s) l ≡ l
var_cons_other s l h = go (other_names s h)
  where
    go : Other (ref s) → var_cons (ref s) l ≡ l
    go (is_zero e) = ap (λ r. var_cons r l) e
    go (an_input k e) = ap (λ r. var_cons r l) e

pub vars_one_node : (s : ℕ) → is_var s ≡ true → vars (s ∷ []) ≡ (s / 2 - 1) ∷ []
unfolding vars
vars_one_node s h = var_cons_node s [] h

pub vars_one_other : (s : ℕ) → is_var s ≡ false → vars (s ∷ []) ≡ []
unfolding vars
vars_one_other s h = var_cons_other s [] h

pub vars_append : (a b : List ℕ) → vars (a ++ b) ≡ vars a ++ vars b
unfolding vars
vars_append [] b = refl
vars_append (s ∷ a) b = ap (var_cons (ref s)) (vars_append a b) ∙ cons_append (ref s)
  where
    cons_append : (r : Ref) → var_cons r (vars a ++ vars b) ≡ var_cons r (vars a) ++ vars b
    cons_append rzero = refl
    cons_append (rnode w) = refl
    cons_append (rinput k) = refl

pub vars_snoc_node : (l : List ℕ) (s : ℕ) → is_var s ≡ true → vars (l ++ (s ∷ [])) ≡ vars l ++ ((s / 2 - 1) ∷ [])
vars_snoc_node l s h = vars_append l (s ∷ []) ∙ ap (λ x. vars l ++ x) (vars_one_node s h)

pub vars_snoc_other : (l : List ℕ) (s : ℕ) → is_var s ≡ false → vars (l ++ (s ∷ [])) ≡ vars l
vars_snoc_other l s h = vars_append l (s ∷ []) ∙ ap (λ x. vars l ++ x) (vars_one_other s h) ∙ append-nil (vars l)

pub vars_length : (l : List ℕ) → length (vars l) ≤ length l
unfolding vars
vars_length [] = zero-le
vars_length (s ∷ l) = by_bool (is_var s)
    (λ e. rw (var_cons_node s (vars l) e) (suc-le-suc (vars_length l)))
    (λ e. rw (var_cons_other s (vars l) e) (omega (arith, vars_length l)))

-- ---- a network whose signals are all named

module _ (N : Net) (w : wired N ≡ true) where
  pub wired_inside : Inside N
  wired_inside v h = in_vars (λ m. m < size N) (gate_at N v).ins (wired_ins N w v h)

  pub wired_outs_inside : OutsInside N
  wired_outs_inside = in_vars (λ m. m < size N) N.outs (wired_out N w)
