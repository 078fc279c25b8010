-- The forward pass: on a sorted network every gate agrees with the values it gives.
use mathlib.Core.Path.{◌≡◌, refl, sym, ap, ◌∙◌}
use Prim.Native.Nat.{ℕ, zero, suc, ◌+◌, ◌<◌}
use native.Mathlib.Nat.{not-suc-le-zero}
use native.Mathlib.Omega.{arith}
use mathlib.Core.Bool.{Bool, true, false}
use mathlib.Core.List.{List, [], ◌∷◌, ◌++◌}
use lib.ListN.{length, get_or, length-append, get_or-append}
use lib.Seq.{get_or-append_seam}
use Rattle.kinds.specs.Kinds.{kind_of}
use Rattle.laws.proofs.Choices.{by_bool}
use Rattle.model.specs.Gate.{Gate, Net, is_dff, no_gate, is_topo_sorted}
use Rattle.model.specs.Evaluate.{at, value_of, gate_value, shows, Consistent, forward, evaluate}
use Rattle.model.proofs.Names.{In, values_cong, Sorted, sorted}

-- ---- what a node shows

pub shows_dff : (i v : ℕ → Bool) (g : Gate) (q : Bool) → is_dff g ≡ true → shows i v g q ≡ q
unfolding shows
shows_dff i v g q e = rw e

pub shows_comb : (i v : ℕ → Bool) (g : Gate) (q : Bool) → is_dff g ≡ false → shows i v g q ≡ gate_value i v g
unfolding shows
shows_comb i v g q e = rw e

pub gate_cong : (i v w : ℕ → Bool) (g : Gate) (K : ℕ → Type 0) → In K g.ins → ((m : ℕ) → K m → v m ≡ w m) → gate_value i v g ≡ gate_value i w g
unfolding gate_value
gate_cong i v w g K inK h = ap (λ l. value_of (kind_of g.kind) l g.table) (values_cong i v w K g.ins inK h)

pub shows_cong : (i v w : ℕ → Bool) (g : Gate) (q : Bool) (K : ℕ → Type 0) → (is_dff g ≡ false → In K g.ins) → ((m : ℕ) → K m → v m ≡ w m)
    → shows i v g q ≡ shows i w g q
shows_cong i v w g q K inK h =
    by_bool (is_dff g)
    (λ e. shows_dff i v g q e ∙ sym (shows_dff i w g q e))
    (λ e. shows_comb i v g q e ∙ gate_cong i v w g K (inK e) h ∙ sym (shows_comb i w g q e))

-- ---- the values, node by node

module _ (i st : ℕ → Bool) where
  -- nodes that have their values keep them
  pub forward_keeps : (gs : List Gate) (l : List Bool) (n : ℕ) → n < length l → at (forward i st gs l) n ≡ at l n
  unfolding forward
  forward_keeps [] l n h = refl
  forward_keeps (g ∷ gs) l n h =
      let x = shows i (at l) g (st (length l)) in
      let e : length (l ++ (x ∷ [])) ≡ length l + 1 = length-append l (x ∷ []) in
      forward_keeps gs (l ++ (x ∷ [])) n (omega arith) ∙ get_or-append l (x ∷ []) false n h

  -- a gate of a sorted rest shows what it does over all the values
  forward_shows : (gs : List Gate) (l : List Bool) (n : ℕ) → n < length gs
      → (is_dff (get_or gs n no_gate) ≡ false → In (λ m. m < length l + n) (get_or gs n no_gate).ins)
      → at (forward i st gs l) (length l + n) ≡ shows i (at (forward i st gs l)) (get_or gs n no_gate) (st (length l + n))
  unfolding forward
  forward_shows [] l n h below = absurd (not-suc-le-zero h)
  forward_shows (g ∷ gs) l zero h below =
      let x = shows i (at l) g (st (length l)) in
      let all = forward i st (g ∷ gs) l in
      let z : length l + 0 ≡ length l = omega arith in
      let e : length (l ++ (x ∷ [])) ≡ length l + 1 = length-append l (x ∷ []) in
      rw z
      (forward_keeps gs (l ++ (x ∷ [])) (length l) (omega arith)
      ∙ get_or-append_seam l x [] false
      ∙ shows_cong i (at l) (at all) g (st (length l)) (λ m. m < length l + 0) below
      (λ m k. sym (forward_keeps (g ∷ gs) l m (omega arith))))
  forward_shows (g ∷ gs) l (suc n) h below =
      let x = shows i (at l) g (st (length l)) in
      let e : length (l ++ (x ∷ [])) ≡ length l + 1 = length-append l (x ∷ []) in
      let q : length l + suc n ≡ length (l ++ (x ∷ [])) + n = omega arith in
      rw q (forward_shows gs (l ++ (x ∷ [])) n (omega arith) (rw q at below))

-- THE FORWARD PASS of a sorted network
pub evaluate_consistent : (N : Net) → Sorted N → (i st : ℕ → Bool) → Consistent N i st (evaluate N i st)
unfolding evaluate
evaluate_consistent N s i st n h = let q : 0 + n ≡ n = omega arith in rw q at (forward_shows i st N.nodes [] n h (rw q (s n h)))

pub evaluate_sorted : (N : Net) → is_topo_sorted N ≡ true → (i st : ℕ → Bool) → Consistent N i st (evaluate N i st)
evaluate_sorted N e = evaluate_consistent N (sorted N e)
