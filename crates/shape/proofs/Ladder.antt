-- The ladder of tests that `refusal_of` and `sorted_refusal_of` are: a rung answers its number where its line is met.
use mathlib.Core.Path.{◌≡◌, refl, sym, ◌∙◌}
use mathlib.Core.Logic.{◌≢◌, ◌↔◌, ◌⊎◌, inl, inr, ⊎_elim}
use mathlib.Core.Bool.{Bool, true, false, cond}
use mathlib.Core.List.{List}
use Prim.Native.Nat.{ℕ, suc, ◌≤◌, ◌<◌}
use native.Mathlib.Omega.{arith}
use native.Mathlib.Decide.{ℕ_discrete}
use lib.Dec.{leb}
use borrow.Author.Tests.{eq-eqb, ne_eqb}
use Rattle.model.specs.Gate.{fanin, wired, is_topo_sorted}
use Rattle.model.specs.Image.{inputs_in, nodes_in, outs_in, words_of, net_in, net_of, framed, within, laid, body_refusal, refusal_of, sorted_refusal_of}
use Rattle.shape.specs.Lines.{Line2, Line3, Line4, Line5, Line6, Line7}
use Rattle.shape.proofs.Accepted.{within_is, accepted}
use Rattle.shape.proofs.Told.{Tells, tells_2, tells_3, tells_4, tells_5}
use Rattle.shape.proofs.ToldSignals.{tells_6, tells_7}

-- ---- one rung: it answers suc k where its line is met, else what the rest answers: 0, or a greater number

abbrev Beyond : ℕ → ℕ → Type 0
Beyond k x = (x ≡ 0) ⊎ (k < x)

climb : (t : Bool) (x k : ℕ) → Beyond (suc k) x → Beyond k (cond t x (suc k))
climb true x k (inl e) = inl e
climb true x k (inr l) = inr (omega arith)
climb false x k b = inr (omega arith)

here : {L : Type 0} (t : Bool) → Tells t L → (x k : ℕ) → Beyond (suc k) x → (cond t x (suc k) ≡ suc k) ↔ L
here true tell x k (inl z) = (λ e. absurd (omega arith), λ l. absurd (tell.clear refl l))
here true tell x k (inr z) = (λ e. absurd (omega arith), λ l. absurd (tell.clear refl l))
here false tell x k b = (λ e. tell.met refl, λ l. refl)

past : {L Q : Type 0} (t : Bool) → Tells t L → (x k m : ℕ) → k ≢ m → (t ≡ true → (x ≡ m) ↔ Q) → (cond t x k ≡ m) ↔ (¬ L × Q)
past true tell x k m n f = (λ e. (tell.clear refl, (f refl).0 e), λ q. (f refl).1 q.1)
past false tell x k m n f = (λ e. absurd (n e), λ q. absurd (q.0 (tell.met refl)))

last : {L : Type 0} (t : Bool) → Tells t L → (k : ℕ) → (cond t 0 (suc k) ≡ 0) ↔ (¬ L)
last true tell k = (λ e. tell.clear refl, λ q. refl)
last false tell k = (λ e. absurd (omega arith), λ q. absurd (q (tell.met refl)))

pub flat3 : {A B C : Type 0} → (A × (B × C)) ↔ (A × B × C)
flat3 = (λ q. (q.0, q.1.0, q.1.1), λ q. (q.0, (q.1, q.2)))

pub flat4 : {A B C D : Type 0} → (A × (B × (C × D))) ↔ (A × B × C × D)
flat4 = (λ q. (q.0, q.1.0, q.1.1.0, q.1.1.1), λ q. (q.0, (q.1, (q.2, q.3))))

pub flat5 : {A B C D E : Type 0} → (A × (B × (C × (D × E)))) ↔ (A × B × C × D × E)
flat5 = (λ q. (q.0, q.1.0, q.1.1.0, q.1.1.1.0, q.1.1.1.1), λ q. (q.0, (q.1, (q.2, (q.3, q.4)))))

-- ---- the rungs of `refusal_of`

module _ (img : List ℕ) where
  pub from6 : ℕ
  from6 = cond (wired (net_of img)) 0 6

  pub from5 : ℕ
  from5 = cond (leb (fanin (net_of img).nodes) 2048) from6 5

  pub from4 : ℕ
  from4 = cond (laid (nodes_in img) (outs_in img) (words_of img)) from5 4

  pub from3 : ℕ
  from3 = cond (within img) from4 3

  ladder : {Q : Type 0} (k : ℕ) → (cond (framed img) from3 2 ≡ k) ↔ Q → (refusal_of img ≡ k) ↔ Q
  unfolding refusal_of body_refusal net_of from6 from5 from4 from3
  ladder k q = q

  beyond6 : Beyond 5 from6
  unfolding from6
  beyond6 = climb (wired (net_of img)) 0 5 (inl refl)

  beyond5 : Beyond 4 from5
  unfolding from5
  beyond5 = climb (leb (fanin (net_of img).nodes) 2048) from6 4 beyond6

  beyond4 : Beyond 3 from4
  unfolding from4
  beyond4 = climb (laid (nodes_in img) (outs_in img) (words_of img)) from5 3 beyond5

  beyond3 : Beyond 2 from3
  unfolding from3
  beyond3 = climb (within img) from4 2 beyond4

  -- what lies past a line's rung
  pub past2 : {Q : Type 0} (m : ℕ) → 2 ≢ m → (from3 ≡ m) ↔ Q → (refusal_of img ≡ m) ↔ (¬ Line2 img × Q)
  past2 m n q = ladder m (past (framed img) (tells_2 img) from3 2 m n (λ e. q))

  pub past3 : {Q : Type 0} (m : ℕ) → 3 ≢ m → (within img ≡ true → (from4 ≡ m) ↔ Q) → (from3 ≡ m) ↔ (¬ Line3 img × Q)
  unfolding from3
  past3 m n q = past (within img) (tells_3 img) from4 3 m n q

  pub past4 : {Q : Type 0} (m : ℕ) → 4 ≢ m → (from5 ≡ m) ↔ Q → (from4 ≡ m) ↔ (¬ Line4 img × Q)
  unfolding from4
  past4 m n q = past (laid (nodes_in img) (outs_in img) (words_of img)) (tells_4 img) from5 4 m n (λ e. q)

  pub past5 : {Q : Type 0} (m : ℕ) → 5 ≢ m → (from6 ≡ m) ↔ Q → (from5 ≡ m) ↔ (¬ Line5 img × Q)
  unfolding from5
  past5 m n q = past (leb (fanin (net_of img).nodes) 2048) (tells_5 img) from6 5 m n (λ e. q)

  pub at2 : (refusal_of img ≡ 2) ↔ Line2 img
  at2 = ladder 2 (here (framed img) (tells_2 img) from3 1 beyond3)

  pub at3 : (from3 ≡ 3) ↔ Line3 img
  unfolding from3
  at3 = here (within img) (tells_3 img) from4 2 beyond4

  pub at4 : (from4 ≡ 4) ↔ Line4 img
  unfolding from4
  at4 = here (laid (nodes_in img) (outs_in img) (words_of img)) (tells_4 img) from5 3 beyond5

  pub at5 : (from5 ≡ 5) ↔ Line5 img
  unfolding from5
  at5 = here (leb (fanin (net_of img).nodes) 2048) (tells_5 img) from6 4 beyond6

  pub at6 : within img ≡ true → (from6 ≡ 6) ↔ Line6 img
  unfolding from6
  at6 w = here (wired (net_of img)) (tells_6 img (within_is img w)) 0 5 (inl refl)

  pub at0 : within img ≡ true → (from6 ≡ 0) ↔ (¬ Line6 img)
  unfolding from6
  at0 w = last (wired (net_of img)) (tells_6 img (within_is img w)) 5

-- ---- 7 behind them, where it is asked for

most : (t : Bool) (x k : ℕ) → x ≤ 6 → k ≤ 6 → cond t x k ≤ 6
most true x k p q = p
most false x k p q = q

module _ (img : List ℕ) where
  below_7 : refusal_of img ≤ 6
  unfolding refusal_of body_refusal
  below_7 =
      let N = net_in (inputs_in img) (nodes_in img) (outs_in img) (words_of img) in
      let x6 : ℕ = cond (wired N) 0 6 in
      let x5 : ℕ = cond (leb (fanin N.nodes) 2048) x6 5 in
      let x4 : ℕ = cond (laid (nodes_in img) (outs_in img) (words_of img)) x5 4 in
      let x3 : ℕ = cond (within img) x4 3 in
      most (framed img) x3 2
      (most (within img) x4 3
      (most (laid (nodes_in img) (outs_in img) (words_of img)) x5 4
      (most (leb (fanin N.nodes) 2048) x6 5 (most (wired N) 0 6 (omega arith) (omega arith)) (omega arith))
      (omega arith))
      (omega arith))
      (omega arith)

  accepted_rung : refusal_of img ≡ 0 → sorted_refusal_of img ≡ cond (is_topo_sorted (net_of img)) 0 7
  unfolding sorted_refusal_of
  accepted_rung e = simp (eq-eqb (refusal_of img) 0 e)

  refused_rung : refusal_of img ≢ 0 → sorted_refusal_of img ≡ refusal_of img
  unfolding sorted_refusal_of
  refused_rung n = simp (ne_eqb (refusal_of img) 0 n)

  -- 7 and 0 need that 2 to 6 are clear
  clear_first : (k : ℕ) → (k ≡ 0) ⊎ (k ≡ 7) → sorted_refusal_of img ≡ k → refusal_of img ≡ 0
  clear_first k o e =
      let l = below_7 in
      elim (ℕ_discrete (refusal_of img) 0) [
        | yes z ↦ z
        | no n ↦ let q = refused_rung n in ⊎_elim (λ (a : k ≡ 0). omega arith) (λ (a : k ≡ 7). absurd (omega arith)) o
      ]

  rung_7 : {Q : Type 0} (k : ℕ) → (k ≡ 0) ⊎ (k ≡ 7) → (refusal_of img ≡ 0 → (cond (is_topo_sorted (net_of img)) 0 7 ≡ k) ↔ Q)
      → (sorted_refusal_of img ≡ k) ↔ ((refusal_of img ≡ 0) × Q)
  rung_7 k o q =
      (λ e. (clear_first k o e, (q (clear_first k o e)).0 (sym (accepted_rung (clear_first k o e)) ∙ e)), λ r. accepted_rung r.0 ∙ (q r.0).1 r.1)

  pub at7 : (sorted_refusal_of img ≡ 7) ↔ ((refusal_of img ≡ 0) × Line7 img)
  at7 = rung_7 7 (inr refl) (λ z. here (is_topo_sorted (net_of img)) (tells_7 img (accepted img z)) 0 6 (inl refl))

  pub sorted_at0 : (sorted_refusal_of img ≡ 0) ↔ ((refusal_of img ≡ 0) × ¬ Line7 img)
  sorted_at0 = rung_7 0 (inl refl) (λ z. last (is_topo_sorted (net_of img)) (tells_7 img (accepted img z)) 6)

  -- the numbers 2 to 6 are the same
  pub same_below_7 : (k : ℕ) → 2 ≤ k → k ≤ 6 → (sorted_refusal_of img ≡ k) ↔ (refusal_of img ≡ k)
  same_below_7 k l m =
      elim (ℕ_discrete (refusal_of img) 0) [
        | yes z ↦ (λ e. absurd (never k l m z e), λ e. absurd (omega arith))
        | no n ↦ let q = refused_rung n in (λ e. omega arith, λ e. omega arith)
      ]
    where
      zero_or_seven : (t : Bool) (k : ℕ) → 2 ≤ k → k ≤ 6 → cond t 0 7 ≢ k
      zero_or_seven true k l m e = omega arith
      zero_or_seven false k l m e = omega arith

      never : (k : ℕ) → 2 ≤ k → k ≤ 6 → refusal_of img ≡ 0 → sorted_refusal_of img ≢ k
      never k l m z e = zero_or_seven (is_topo_sorted (net_of img)) k l m (sym (accepted_rung z) ∙ e)
