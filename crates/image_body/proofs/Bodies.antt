-- Laws of a body: one for each answer of `check_body`.
use mathlib.Core.Path.{◌≡◌, refl, sym, ap, subst, ◌∙◌}
use mathlib.Core.List.{List}
use mathlib.Core.Bool.{Bool, true, false, not, cond, ◌&&◌, and-false}
use Prim.Native.Nat.{ℕ, ◌+◌, ◌-◌, ◌/◌, ◌≤◌, ◌<◌}
use native.Mathlib.Omega.{arith}
use lib.ListN.{length, take, drop}
use lib.Dec.{eqb, leb}
use borrow.Author.Tests.{lt-leb, le-leb, eq-eqb, ne_eqb, eqb-true, eqb-false, not-true, not-false}
use Rattle.laws.proofs.Bools.{and_left, and_right}
use Rattle.laws.proofs.Choices.{by_bool}
use Rattle.model.specs.Gate.{fanin, gates_named, wired, is_topo_sorted}
use Rattle.model.specs.Image.{words, sound_from, end_from, gates_from, net_in, laid}
use Rattle.model.proofs.Bytes.{length_words}
use Rattle.shape.proofs.Walks.{length_gates}
use Rattle.records.specs.Layouts.{laid_from}
use Rattle.wiring.specs.Reach.{reach_from, wiring_from}
use Rattle.image_body.specs.Numbers.{body_number}
use Rattle.std.specs.Prelude.{Option, Some, None, Result, Ok, Err}
use Rattle.std.specs.Option.{SomeIff, ok_or}
use Rattle.refusals.specs.Numbers.{number, numbered, unless}
use Rattle.refusals.specs.declared.Refusal.{Refusal}
use Rattle.wiring.specs.declared.Wiring.{Wiring}
use Rattle.wiring.proofs.Reaches.{all_named_lem, gates_named_lem, gates_sorted}

-- ---- what an answer of `layout` says of the test that it came from

inputs_inv : (b : Bool) (x t : ℕ) → cond b (Some x) None ≡ Some t → (b ≡ true) × (x ≡ t)
inputs_inv true x t e = (refl, cc)
inputs_inv false x t e = absurd cc

broken_inv : (b : Bool) (x : ℕ) → cond b (Some x) None ≡ None → b ≡ false
broken_inv true x e = absurd cc
broken_inv false x e = refl

module _ (n : ℕ) (ws : List ℕ) (lim t : ℕ) (e : laid_from n ws 0 0 lim ≡ Some t) where
  laid_inv : ((sound_from n ws 0 && eqb (end_from n ws 0) lim) ≡ true) × (0 + fanin (gates_from n ws 0) ≡ t)
  unfolding laid_from
  laid_inv = inputs_inv (sound_from n ws 0 && eqb (end_from n ws 0) lim) (0 + fanin (gates_from n ws 0)) t e

  laid_end : end_from n ws 0 ≡ lim
  laid_end = eqb-true (end_from n ws 0) lim (and_right (sound_from n ws 0) (eqb (end_from n ws 0) lim) laid_inv.0)

  laid_fanin : fanin (gates_from n ws 0) ≡ t
  laid_fanin = let q = laid_inv.1 in omega arith

-- the records end at the limit where they end before the outputs
ends : (n o lim : ℕ) (ws : List ℕ) → lim + (o + 4) ≡ length ws → eqb (end_from n ws 0 + (o + 4)) (length ws) ≡ eqb (end_from n ws 0) lim
ends n o lim ws p = by_bool (eqb (end_from n ws 0) lim)
    (λ e. eq-eqb (end_from n ws 0 + (o + 4)) (length ws) (omega (arith, eqb-true (end_from n ws 0) lim e)) ∙ sym e)
    (λ e. ne_eqb (end_from n ws 0 + (o + 4)) (length ws) (λ q. eqb-false (end_from n ws 0) lim e (omega arith)) ∙ sym e)

-- ---- the answers

-- accepted, or refused with a number
abbrev answer : ℕ → Result (Unit {0}) ℕ
answer n = unless n tt

-- what is left of k words before the outputs and the trailer
pub body_room : (k o : ℕ) (z : Option ℕ) → SomeIff z (o + 4 ≤ k) (k - (o + 4)) → (lim : ℕ) → z ≡ Some lim → lim + (o + 4) ≡ k
body_room k o z e lim q = let h : (o + 4 ≤ k) × (lim ≡ k - (o + 4)) = subst (λ (y : Option ℕ). SomeIff y (o + 4 ≤ k) (k - (o + 4))) q e in omega arith

module _ (b : List ℕ) (s : Bool) (i n o : ℕ) where
  pub body_short : (z : Option ℕ) → SomeIff z (o + 4 ≤ length b / 4) (length b / 4 - (o + 4)) → z ≡ None → Err 4 ≡ answer (body_number s i n o (words b))
  unfolding body_number laid
  body_short z e q =
      let h : ¬ (o + 4 ≤ length b / 4) = subst (λ (y : Option ℕ). SomeIff y (o + 4 ≤ length b / 4) (length b / 4 - (o + 4))) q e in
      let w = length_words b in
      simp (ne_eqb (end_from n (words b) 0 + (o + 4)) (length (words b)) (λ r. h (omega arith)), and-false)

  module _ (lim : ℕ) (p : lim + (o + 4) ≡ length b / 4) (x : Option ℕ) (e : x ≡ laid_from n (words b) 0 0 lim) where
    laid_is : laid n o (words b) ≡ (sound_from n (words b) 0 && eqb (end_from n (words b) 0) lim)
    unfolding laid
    laid_is = ap (λ (t : Bool). sound_from n (words b) 0 && t) (ends n o lim (words b) (omega (arith, length_words b)))

    pub body_broken : x ≡ None → Err 4 ≡ answer (body_number s i n o (words b))
    unfolding body_number laid_from
    body_broken q =
        simp (laid_is ∙ broken_inv (sound_from n (words b) 0 && eqb (end_from n (words b) 0) lim) (0 + fanin (gates_from n (words b) 0)) (sym e ∙ q))

    module _ (t : ℕ) (q : x ≡ Some t) where
      lim_inv : laid_from n (words b) 0 0 lim ≡ Some t
      lim_inv = sym e ∙ q

      laid_yes : laid n o (words b) ≡ true
      laid_yes = laid_is ∙ (laid_inv n (words b) lim t lim_inv).0

      few_yes : fanin (net_in i n o (words b)).nodes ≡ t
      unfolding net_in
      few_yes = laid_fanin n (words b) lim t lim_inv

      pub body_end : end_from n (words b) 0 ≤ length b / 4
      body_end = let l = laid_end n (words b) lim t lim_inv in omega arith

      pub body_many : 2048 < t → Err 5 ≡ answer (body_number s i n o (words b))
      unfolding body_number
      body_many l = simp (laid_yes, few_yes, lt-leb t 2048 l)

      module _ (l : t ≤ 2048) (c : n ≤ 512) (g : Wiring) (eg : g ≡ wiring_from i n 0 n (words b) 0)
          (r : ℕ) (er : r ≡ reach_from i o (words b) lim) where
        gates_is : g.named ≡ gates_named i n (gates_from n (words b) 0)
        unfolding wiring_from
        gates_is = ap (λ (w : Wiring). w.named) eg ∙ gates_named_lem i n (gates_from n (words b) 0) (omega arith)

        wired_is : wired (net_in i n o (words b)) ≡ (g.named && leb r n)
        unfolding wired net_in reach_from
        wired_is =
            let e = laid_end n (words b) lim t lim_inv in
            simp (length_gates, e, er, all_named_lem i n (take o (drop lim (words b))) (omega arith), gates_is)

        pub body_absent : not (g.named && leb r n) ≡ true → Err 6 ≡ answer (body_number s i n o (words b))
        unfolding body_number
        body_absent m = simp (laid_yes, few_yes, le-leb t 2048 l, wired_is, not-true (g.named && leb r n) m)

        module _ (m : not (g.named && leb r n) ≡ false) where
          sorted_is : is_topo_sorted (net_in i n o (words b)) ≡ g.sorted
          unfolding is_topo_sorted net_in wiring_from
          sorted_is =
              let y : gates_named i n (gates_from n (words b) 0) ≡ true =
              sym gates_is ∙ and_left g.named (leb r n) (not-false (g.named && leb r n) m) in
              sym (ap (λ (w : Wiring). w.sorted) eg ∙ gates_sorted i n 0 (gates_from n (words b) 0) y)

          pub body_unsorted : (s && not g.sorted) ≡ true → Err 7 ≡ answer (body_number s i n o (words b))
          unfolding body_number
          body_unsorted q = simp (laid_yes, few_yes, le-leb t 2048 l, wired_is, not-false (g.named && leb r n) m, sorted_is, q)

          pub body_sound : (s && not g.sorted) ≡ false → Ok tt ≡ answer (body_number s i n o (words b))
          unfolding body_number
          body_sound q = simp (laid_yes, few_yes, le-leb t 2048 l, wired_is, not-false (g.named && leb r n) m, sorted_is, q)
