-- The gates that canonical leaves are normal forms of gates of its source; so And (or Xor) gates have two or more inputs, none twice.
use mathlib.Core.Path.{◌≡◌, sym, ap, subst, ◌∙◌}
use Prim.Native.Nat.{ℕ, ◌/◌, ◌≤◌, ◌<◌}
use native.Mathlib.Nat.{le_refl}
use native.Mathlib.Omega.{arith}
use mathlib.Core.Bool.{Bool, true, false, ◌&&◌}
use mathlib.Core.List.{List, [], map, ◌∷◌}
use lib.ListN.{length}
use lib.Dec.{ltb}
use borrow.Author.Tests.{eqb-true, ltb-true}
use Rattle.kinds.specs.Kinds.{kind_of, in_family}
use Rattle.kinds.proofs.Codes.{kind_code}
use Rattle.kinds.specs.declared.Kind.{Kind}
use Rattle.kinds.specs.declared.Kind.TheVariants.{And2, Xor2, And3, Xor3, Maj, Mux, AndN, OrN, NandN, NorN, XorN, XnorN, Buf, Dff, Lut}
use Rattle.kinds.specs.declared.Family.{Family}
use Rattle.laws.specs.Lists.{All, Distinct}
use Rattle.laws.proofs.Bools.{true_false, and_left, and_right}
use Rattle.laws.proofs.Lists.{all_each, all_at, all_append, all_map, map_all}
use Rattle.laws.proofs.Choices.{by_bool}
use Rattle.model.specs.Signal.{remap_order}
use Rattle.model.specs.Gate.{Gate, Net, Valid, is_dff, remap_gate, no_gate, gate_at, size, fits_kind, shaped, all_shaped, is_topo_sorted}
use Rattle.model.specs.Normal.{made, gate_of, make_canonical, no_inv, proper, canonical_k, is_canonical}
use Rattle.model.specs.Network.{dedup_node, dedup_combs, remap_dff, dedup_with, canonical}
use Rattle.model.specs.Sharing.{inside}
use Rattle.shape.proofs.Named.{shaped_at}
use Rattle.shape.proofs.DedupNormal.{dff_is}
use Rattle.shape.proofs.DedupPlace.{Grown, same, more, grown}
use Rattle.shape.proofs.DedupSweep.{shaped_remap, is_d, asked_gate, asked, up_to, up_to_start, sweep}
use Rattle.meaning.proofs.Shapes.{gate_with, by_shape}
use Rattle.meaning.proofs.Canonical.{Canon, canon_of_canonical}
use Rattle.meaning.proofs.Again.{Rise, proper_rise}
use Rattle.meaning.proofs.Tidy.{Tidy}

-- what a gate keeps under any renaming, it keeps where it is looked up
pub asked_keeps : (N : Net) (P : Gate → Type 0) → ((τ : ℕ → ℕ) (g : Gate) → P g → P (remap_gate τ g)) → (τ : ℕ → ℕ) (n : ℕ) → P (gate_at N n)
    → P (asked_gate make_canonical N τ n)
asked_keeps N P renamed τ n p = by_bool (is_dff (gate_at N n)) (λ d. rw d p) (λ d. rw d (renamed τ (gate_at N n) p))

pub asked_shaped : (N : Net) → all_shaped N.nodes ≡ true → (τ : ℕ → ℕ) (n : ℕ) → n < size N → shaped (asked_gate make_canonical N τ n) ≡ true
asked_shaped N ok τ n l = asked_keeps N (λ g. shaped g ≡ true) (λ τ g s. shaped_remap τ g ∙ s) τ n (shaped_at N.nodes ok n l)

-- ---- what holds of every flip-flop, and of every normal form of a gate with the source's R, holds of every gate of the result

module _ (N : Net) (ok : all_shaped N.nodes ≡ true) (R P : Gate → Type 0)
    (renamed : (τ : ℕ → ℕ) (g : Gate) → R g → R (remap_gate τ g))
    (normal : (g h : Gate) (z : Bool) → shaped g ≡ true → R g → make_canonical g ≡ made h z → Canon (made h z) → P h)
    (cell : (l : List ℕ) → P (gate_of Dff l))
    (source : All R N.nodes) where
  Made : Gate → Type 0
  Made g = (shaped g ≡ true) × P g

  asked_made : (τ : ℕ → ℕ) (n : ℕ) → n < size N → (h : Gate) (z : Bool) → asked make_canonical N τ n ≡ made h z → Made h
  unfolding Made
  asked_made τ n l h z e =
      let s = asked_shaped N ok τ n l in
      let c : Canon (made h z) = subst Canon e (canon_of_canonical (asked_gate make_canonical N τ n) s) in
      (c.fits, normal (asked_gate make_canonical N τ n) h z s (asked_keeps N R renamed τ n (all_at R N.nodes no_gate source n l)) e c)

  news_made : (b : Bool) (k : ℕ) → k ≤ size N → All Made (up_to make_canonical N b k).news
  news_made = sweep make_canonical N (λ b k d. All Made d.news) (rw (up_to_start make_canonical N) tt) turn (λ b k h e p. p) (λ p. p)
    where
      turn : (b : Bool) (k : ℕ) → k < size N → is_d make_canonical N k ≡ b → All Made (up_to make_canonical N b k).news
          → All Made (dedup_node (asked make_canonical N (up_to make_canonical N b k).trans k) k (up_to make_canonical N b k)).news
      turn b k h e p = go _ (grown (asked make_canonical N (up_to make_canonical N b k).trans k) k (up_to make_canonical N b k))
        where
          go : (m : List Gate) → Grown (asked make_canonical N (up_to make_canonical N b k).trans k) (up_to make_canonical N b k).news m → All Made m
          go m (same q) = rw q p
          go m (more g z q r) = rw r (all_append Made (up_to make_canonical N b k).news (g ∷ []) p (asked_made (up_to make_canonical N b k).trans k h g z q, tt))

  turned : (τ : ℕ → ℕ) (l : List Gate) → All Made l → All P (map (remap_dff make_canonical N τ) l)
  unfolding Made
  turned τ l =
      map_all P (remap_dff make_canonical N τ) l
      (λ g h. by_bool (is_dff g) (λ d. rw d (subst P (sym (ap (remap_gate τ) (dff_is g h.0 d))) (cell (map (remap_order τ) g.ins)))) (λ d. rw d h.1))

  pub canonical_all : All P (canonical N).nodes
  unfolding dedup_with
  canonical_all = turned (dedup_combs make_canonical N (size N)).trans (dedup_combs make_canonical N (size N)).news (news_made false (size N) (le_refl _))

-- ---- gates of a family

-- rising indices do not repeat
rise_distinct : (l : List ℕ) → Rise l → Distinct l
rise_distinct [] r = tt
rise_distinct (x ∷ l) r = (all_map l (λ y q e. let k : y / 2 ≡ x / 2 = ap (λ i. i / 2) e in omega arith) r.0, rise_distinct l r.1)

proper_distinct : (l : List ℕ) → proper l ≡ true → Distinct l
proper_distinct l h = rise_distinct l (proper_rise l h)

-- two or more inputs, none twice
pub record Several (g : Gate) : Type 0 where
  pub many : 1 < length g.ins
  pub distinct : Distinct g.ins

kind_several : (f : Family) (k : Kind) (l : List ℕ) (t : ℕ) → fits_kind k (length l) ≡ true → canonical_k k l ≡ true → in_family k f ≡ true → Several (gate_with k l t)
unfolding canonical_k
kind_several f And2 l t e c i = record { many = (let n = eqb-true (length l) 2 e in omega arith); distinct = proper_distinct l c }
kind_several f Xor2 l t e c i = record { many = (let n = eqb-true (length l) 2 e in omega arith); distinct = proper_distinct l (and_left (proper l) (no_inv l) c) }
kind_several f And3 l t e c i = record { many = (let n = eqb-true (length l) 3 e in omega arith); distinct = proper_distinct l c }
kind_several f Xor3 l t e c i = record { many = (let n = eqb-true (length l) 3 e in omega arith); distinct = proper_distinct l (and_left (proper l) (no_inv l) c) }
kind_several f AndN l t e c i = record {
  many = (let n = ltb-true 3 (length l) (and_right (proper l) (ltb 3 (length l)) c) in omega arith);
  distinct = proper_distinct l (and_left (proper l) (ltb 3 (length l)) c);
}
kind_several f XorN l t e c i =
    let d = and_left (proper l && ltb 3 (length l)) (no_inv l) c in
    record { many = (let n = ltb-true 3 (length l) (and_right (proper l) (ltb 3 (length l)) d) in omega arith); distinct = proper_distinct l (and_left (proper l) (ltb 3 (length l)) d) }
kind_several f Maj l t e c i = true_false (sym i)
kind_several f Mux l t e c i = true_false (sym i)
kind_several f OrN l t e c i = true_false (sym i)
kind_several f NandN l t e c i = true_false (sym i)
kind_several f NorN l t e c i = true_false (sym i)
kind_several f XnorN l t e c i = true_false (sym i)
kind_several f Buf l t e c i = true_false (sym i)
kind_several f Dff l t e c i = true_false (sym i)
kind_several f Lut l t e c i = true_false (sym i)

family_several : (f : Family) (g : Gate) → shaped g ≡ true → is_canonical g ≡ true → inside f g ≡ true → Several g
unfolding is_canonical
family_several f g e = by_shape (λ (g : Gate). is_canonical g ≡ true → inside f g ≡ true → Several g) g e (λ k l t s b. rw (kind_code k) (kind_several f k l t s))

-- GATES OF A FAMILY have two or more inputs in a canonical network, none twice
pub canonical_several : (f : Family) (N : Net) → Valid N → is_topo_sorted N ≡ true → All (λ (g : Gate). inside f g ≡ true → Several g) (canonical N).nodes
unfolding kind_of
canonical_several f N A t =
    canonical_all N A.gates_shaped (λ g. Unit {0}) (λ g. inside f g ≡ true → Several g)
    (λ τ g r. tt)
    (λ g h z e r q c. family_several f h c.fits c.is)
    (λ l i. true_false (sym i))
    (all_each (λ g. Unit {0}) N.nodes (λ g. tt))

-- CANONICAL NETWORKS ARE TIDY
pub canonical_tidy : (f : Family) (N : Net) → Valid N → is_topo_sorted N ≡ true → Tidy f (canonical N)
canonical_tidy f N A t = all_map (canonical N).nodes (λ g s e. (s (and_left (inside f g) (ltb 1 (length g.ins)) e)).distinct) (canonical_several f N A t)
