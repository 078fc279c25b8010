-- Inputs at the front of the list: what made_2 and made_3 leave there, and the first words by their number.
use mathlib.Core.Path.{◌≡◌, refl, sym, ap, ◌∙◌}
use Prim.Native.Nat.{ℕ, ◌≤◌}
use native.Mathlib.Nat.{not-suc-le-zero, le_of_suc-le-suc}
use native.Mathlib.Omega.{arith}
use mathlib.Core.Bool.{Bool}
use mathlib.Core.List.{List, [], ◌∷◌, map}
use lib.ListN.{length, take, get_or}
use lib.Seq.{take_all}
use Rattle.signal.specs.declared.Signal.{Signal}
use Rattle.kinds.specs.declared.Kind.{Kind}
use Rattle.model.specs.Normal.{made, gate_of}
use Rattle.gates.specs.Normals.{normal_of}
use Rattle.gates.specs.declared.Normalization.TheVariants.{Node}

-- the inputs at the front, all written
pub put_is : (k : Kind) (z : Bool) (l : List ℕ) (ins : List Signal) (i n : ℕ) → take i l ≡ map (λ (s : Signal). s.a) (take i ins) → i ≡ n → length ins ≡ n
    → normal_of (Node k n z) l ≡ made (gate_of k (map (λ (s : Signal). s.a) ins)) z
unfolding normal_of
put_is k z l ins i n e f h =
    ap (λ (m : List ℕ). made (gate_of k m) z) (ap (λ (j : ℕ). take j l) (sym f) ∙ e ∙ ap (map (λ (s : Signal). s.a)) (take_all i ins (omega arith)))

-- the first n words, by their number
abbrev w : List ℕ → ℕ → ℕ
w l i = get_or l i 0

pub first1 : (l : List ℕ) → 3 ≤ length l → take 1 l ≡ w l 0 ∷ []
first1 [] h = absurd (not-suc-le-zero h)
first1 (a ∷ l) h = refl

pub first2 : (l : List ℕ) → 3 ≤ length l → take 2 l ≡ w l 0 ∷ w l 1 ∷ []
first2 [] h = absurd (not-suc-le-zero h)
first2 (a ∷ []) h = absurd (not-suc-le-zero (le_of_suc-le-suc h))
first2 (a ∷ b ∷ l) h = refl

pub first3 : (l : List ℕ) → 3 ≤ length l → take 3 l ≡ w l 0 ∷ w l 1 ∷ w l 2 ∷ []
first3 [] h = absurd (not-suc-le-zero h)
first3 (a ∷ []) h = absurd (not-suc-le-zero (le_of_suc-le-suc h))
first3 (a ∷ b ∷ []) h = absurd (not-suc-le-zero (le_of_suc-le-suc (le_of_suc-le-suc h)))
first3 (a ∷ b ∷ c ∷ l) h = refl
