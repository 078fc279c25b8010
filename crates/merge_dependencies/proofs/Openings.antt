-- Laws of what an input becomes: the test, and the words that it pushes.
use Prim.Native.Nat.{ℕ, ◌+◌, ◌-◌, ◌/◌, ◌<◌, ◌≤◌}
use mathlib.Core.Path.{ap, refl, sym, ◌∙◌, ◌≡◌}
use mathlib.Core.Bool.{Bool, cond, false, not, true, ◌&&◌}
use mathlib.Core.List.{List, [], ◌∷◌}
use native.Mathlib.Omega.{arith}
use mir.Syntax.{w64}
use mir.Val.{Fits}
use lib.ListN.{length}
use lib.Dec.{leb}
use borrow.Author.Tests.{not-true}
use Rattle.std.specs.Prelude.{Option}
use Rattle.merge_dependencies.specs.Pushing.{Becoming, Opening, Pushes, Reading, opens}
use Rattle.kinds.specs.Kinds.{in_family, kind_of}
use Rattle.kinds.specs.declared.Family.{Family}
use Rattle.kinds.specs.declared.Kind.{Kind}
use Rattle.model.specs.Gate.{Gate}
use Rattle.model.specs.Sharing.{inside, opened}
use Rattle.model.specs.Signal.{is_inverted, is_var, ref}
use Rattle.tables.specs.Layout.{count_at, gate_at, ins_at, kind_at}
use Rattle.laws.proofs.Bools.{and_assoc, and_left}
use Rattle.laws.proofs.Choices.{by_bool}
use Rattle.shape.proofs.Wires.{Other, an_input, is_zero, other_names, var_low, var_names}
use Rattle.tables.proofs.Holding.{length_ins}

-- ---- opens

pub kind_gate : (l : List ℕ) (w : ℕ) → (gate_at l w).kind ≡ kind_at l w
unfolding gate_at
kind_gate l w = refl

module _ (l : List ℕ) (v s used : ℕ) (P : Opening l v s used) where
  pub opens_other : (f : Family) (limit : ℕ) (b : Bool) → b ≡ is_var s → not b ≡ true → false ≡ opens f (gate_at l) limit used s
  unfolding opens
  opens_other f limit b eb h = let e : is_var s ≡ false = sym eb ∙ not-true b h in rw e

  module _ (b : Bool) (eb : b ≡ is_var s) (h : not b ≡ false) where
    is_node : is_var s ≡ true
    is_node = by_bool b (λ e. sym eb ∙ e) (λ e. let q : true ≡ false = rw e at h in cc)

    pub opens_low : 2 ≤ s
    opens_low = var_low s is_node

    module _ (x w : ℕ) (ex : x ≡ s / 2 - 1) (ew : w ≡ x) where
      there : w < v
      there = let q = P.below is_node in omega arith

      pub opens_few : w < 512
      opens_few = let few = P.few in let q = there in omega arith

      pub opens_fits : (n : ℕ) → n ≡ count_at l w → Fits w64 (used + n)
      opens_fits n en = let small = P.small in record { fits = omega (arith, P.ends w there) }

      pub opens_done : (f : Family) (limit k n lim : ℕ) (i t : Bool) (K : Kind) → i ≡ is_inverted s → k ≡ kind_at l w → K ≡ kind_of k → t ≡ in_family K f → n ≡ count_at l w → lim ≡ limit
          → ((not i && t) && leb (used + n) lim) ≡ opens f (gate_at l) limit used s
      unfolding opens
      opens_done f limit k n lim i t K ei ek eK et en el =
          let e : s / 2 - 1 ≡ w = sym (ew ∙ ex) in
          rw (is_node, e, kind_gate l w, length_ins l w, ei, et, eK, ek, en, el)

pub ruleset openings = (opens_other, opens_low, opens_few, opens_fits)

-- ---- merge_one

pub opened_is : (f : Family) (G : ℕ → Gate) (limit used s : ℕ) → opened f G limit used s (ref s) ≡ cond (opens f G limit used s) (G (s / 2 - 1)).ins (s ∷ [])
unfolding opens
opened_is f G limit used s = by_bool (is_var s)
    (λ e. ap (opened f G limit used s) (var_names s e) ∙ rw (e, and_assoc (not (is_inverted s)) (inside f (G (s / 2 - 1))) (leb (used + length (G (s / 2 - 1)).ins) limit)))
    (λ e. other (other_names s e) ∙ rw e)
  where
    other : Other (ref s) → opened f G limit used s (ref s) ≡ s ∷ []
    other (is_zero z) = ap (opened f G limit used s) z
    other (an_input k z) = ap (opened f G limit used s) z

pub ins_gate : (l : List ℕ) (w : ℕ) → (gate_at l w).ins ≡ ins_at l w
unfolding gate_at
ins_gate l w = refl

module _ (l : List ℕ) (v s used at : ℕ) (P : Becoming l v s used at) where
  module _ (f : Family) (limit : ℕ) (b : Bool) (eb : b ≡ opens f (gate_at l) limit used s) where
    module _ (h : b ≡ true) where
      is_var_lem : is_var s ≡ true
      unfolding opens
      is_var_lem = and_left (is_var s) _ (sym eb ∙ h)

      pub one_low : 2 ≤ s
      one_low = var_low s is_var_lem

      module _ (x w : ℕ) (ex : x ≡ s / 2 - 1) (ew : w ≡ x) where
        pub one_reading : Reading l v w at
        one_reading = record { packed = P.packed; below = let q = P.opening.below is_var_lem in omega arith }

        pub one_opened : (m : List ℕ) (r : Option ℕ) → Pushes l m at (ins_at l w) r → Pushes l m at (opened f (gate_at l) limit used s (ref s)) r
        one_opened m r q =
            let e : s / 2 - 1 ≡ w = sym (ew ∙ ex) in
            rw (opened_is f (gate_at l) limit used s, ← eb, h, e, ins_gate l w) q

    pub one_kept : b ≡ false → (m : List ℕ) (r : Option ℕ) → Pushes l m at (s ∷ []) r → Pushes l m at (opened f (gate_at l) limit used s (ref s)) r
    one_kept h m r q = rw (opened_is f (gate_at l) limit used s, ← eb, h) q

pub ruleset ones = (one_low, one_reading, one_opened, one_kept)
