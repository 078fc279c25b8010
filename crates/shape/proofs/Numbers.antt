-- Document 01's table, 2 to 7: each number is given exactly when its line holds and no earlier one does. The lines, in the
-- table's words, are in specs/Lines.
use mathlib.Core.Path.{◌≡◌}
use mathlib.Core.Logic.Iff
use mathlib.Core.Logic.{◌↔◌}
use mathlib.Core.List.{List}
use Prim.Native.Nat.{ℕ, ◌≤◌}
use native.Mathlib.Omega.{arith}
use Rattle.model.specs.Image.{refusal_of, sorted_refusal_of}
use Rattle.shape.specs.Lines.{Line2, Line3, Line4, Line5, Line6, Line7}
use Rattle.shape.proofs.Ladder.{flat3, flat4, flat5, past2, past3, past4, past5, at2, at3, at4, at5, at6, at0, at7, sorted_at0, same_below_7}

-- ---- 2 to 6, and 0 where none of their lines holds

module _ (img : List ℕ) where
  pub refusal_2 : (refusal_of img ≡ 2) ↔ Line2 img
  refusal_2 = at2 img

  pub refusal_3 : (refusal_of img ≡ 3) ↔ (¬ Line2 img × Line3 img)
  refusal_3 = past2 img 3 (λ e. omega arith) (at3 img)

  pub refusal_4 : (refusal_of img ≡ 4) ↔ (¬ Line2 img × ¬ Line3 img × Line4 img)
  refusal_4 = Iff.trans (past2 img 4 (λ e. omega arith) (past3 img 4 (λ e. omega arith) (λ w. at4 img))) flat3

  pub refusal_5 : (refusal_of img ≡ 5) ↔ (¬ Line2 img × ¬ Line3 img × ¬ Line4 img × Line5 img)
  refusal_5 =
      Iff.trans
      (past2 img 5 (λ e. omega arith) (past3 img 5 (λ e. omega arith) (λ w. past4 img 5 (λ e. omega arith) (at5 img))))
      flat4

  pub refusal_6 : (refusal_of img ≡ 6) ↔ (¬ Line2 img × ¬ Line3 img × ¬ Line4 img × ¬ Line5 img × Line6 img)
  refusal_6 =
      Iff.trans
      (past2 img 6 (λ e. omega arith)
      (past3 img 6 (λ e. omega arith) (λ w. past4 img 6 (λ e. omega arith) (past5 img 6 (λ e. omega arith) (at6 img w)))))
      flat5

  pub refusal_0 : (refusal_of img ≡ 0) ↔ (¬ Line2 img × ¬ Line3 img × ¬ Line4 img × ¬ Line5 img × ¬ Line6 img)
  refusal_0 =
      Iff.trans
      (past2 img 0 (λ e. omega arith)
      (past3 img 0 (λ e. omega arith) (λ w. past4 img 0 (λ e. omega arith) (past5 img 0 (λ e. omega arith) (at0 img w)))))
      flat5

-- ---- 7 behind them, where it is asked for

module _ (img : List ℕ) where
  with_0 : {Q : Type 0} → ((refusal_of img ≡ 0) × Q) ↔ (¬ Line2 img × ¬ Line3 img × ¬ Line4 img × ¬ Line5 img × ¬ Line6 img × Q)
  with_0 = (
    λ r. let c = (refusal_0 img).0 r.0 in (c.0, c.1, c.2, c.3, c.4, r.1),
    λ r. ((refusal_0 img).1 (r.0, r.1, r.2, r.3, r.4), r.5),
  )

  pub sorted_refusal_7 : (sorted_refusal_of img ≡ 7) ↔ (¬ Line2 img × ¬ Line3 img × ¬ Line4 img × ¬ Line5 img × ¬ Line6 img × Line7 img)
  sorted_refusal_7 = Iff.trans (at7 img) with_0

  pub sorted_refusal_0 : (sorted_refusal_of img ≡ 0) ↔ (¬ Line2 img × ¬ Line3 img × ¬ Line4 img × ¬ Line5 img × ¬ Line6 img × ¬ Line7 img)
  sorted_refusal_0 = Iff.trans (sorted_at0 img) with_0

  -- the numbers 2 to 6 are the same
  pub sorted_refusal_same : (k : ℕ) → 2 ≤ k → k ≤ 6 → (sorted_refusal_of img ≡ k) ↔ (refusal_of img ≡ k)
  sorted_refusal_same k l m = same_below_7 img k l m
