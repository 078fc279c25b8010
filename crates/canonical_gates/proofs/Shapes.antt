-- A gate's inputs by how many it has, and its tests.
use mathlib.Core.Path.{◌≡◌, refl, ap, ◌∙◌}
use Prim.Native.Nat.{ℕ, ◌≤◌}
use native.Mathlib.Omega.{arith}
use mathlib.Core.Bool.{Bool, false, not, ◌&&◌}
use mathlib.Core.List.{List, [], ◌∷◌, ◌++◌, map}
use lib.ListN.{length, take, get_or}
use lib.Seq.{take-append-le, take_all, length-take-le}
use Rattle.std.proofs.lemmas.List.{length-map}
use Rattle.kinds.specs.declared.Kind.{Kind}
use Rattle.model.specs.Signal.{neg, is_constant}
use Rattle.model.specs.Normal.{Norm, make_and_n, sorted_n, proper}
use Rattle.gates.specs.Normals.{Shaped}
use Rattle.gates.proofs.Fronts.{first1, first2, first3}

module _ (k : Kind) (l : List ℕ) (n : ℕ) (p : Shaped k l n) where
  pub shaped_count : n ≤ length l
  shaped_count = p.listed.count

  pub length_shaped : length (take n l) ≡ n
  length_shaped = length-take-le n l p.listed.count

  pub one_shaped : n ≡ 1 → take n l ≡ get_or l 0 0 ∷ []
  one_shaped e = rw (e, first1 l p.listed.room)

  pub two_shaped : n ≡ 2 → take n l ≡ get_or l 0 0 ∷ get_or l 1 0 ∷ []
  two_shaped e = rw (e, first2 l p.listed.room)

  pub three_shaped : n ≡ 3 → take n l ≡ get_or l 0 0 ∷ get_or l 1 0 ∷ get_or l 2 0 ∷ []
  three_shaped e = rw (e, first3 l p.listed.room)

pub ruleset shapes = (shaped_count, length_shaped, one_shaped, two_shaped, three_shaped)

pub proper_none : (l : List ℕ) → length l ≡ 0 → false ≡ proper l
unfolding proper sorted_n
proper_none [] e = refl
proper_none (x ∷ l) e = absurd (omega arith)

pub proper_some : (l : List ℕ) (s c : Bool) → s ≡ sorted_n l → c ≡ is_constant (get_or l 0 0) → (s && not c) ≡ proper l
unfolding proper
proper_some l s c f g = cc

pub ruleset propers = (proper_none, proper_some)

-- the inputs inverted at the front
module _ (l a r : List ℕ) (n : ℕ) (e : a ≡ map neg (take n l)) (h : n ≤ length l) where
  all : take n (a ++ r) ≡ map neg (take n l)
  all =
      let s : length a ≡ n = ap length e ∙ simp (length-map, length-take-le n l h) in
      take-append-le n a r (omega arith) ∙ take_all n a (omega arith) ∙ e

  pub or_all : (z : Bool) (x : Norm) → x ≡ make_and_n (take n (a ++ r)) z → x ≡ make_and_n (map neg (take n l)) z
  or_all z x q = q ∙ ap (λ t. make_and_n t z) all

pub ruleset inverses = (or_all)
