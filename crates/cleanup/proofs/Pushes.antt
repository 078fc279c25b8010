-- Signals put on the stack, the last first.
use mathlib.Core.Path.{◌≡◌, refl, sym, ap, ap₂, ◌∙◌}
use mathlib.Core.Bool.{Bool, true, false, not}
use Prim.Native.Nat.{ℕ, suc, ◌+◌, ◌-◌, ◌/◌, ◌<◌, ◌≤◌}
use native.Mathlib.Nat.{le_refl}
use native.Mathlib.Omega.{arith}
use native.Mathlib.Numerals.{add-one}
use mathlib.Core.List.{List, [], ◌∷◌, ◌++◌, append_assoc}
use lib.ListN.{length}
use mir.Val.{Fits}
use mir.Syntax.{w32}
use borrow.Author.Tests.{not-true, not-false}
use Rattle.laws.specs.Lists.{tab}
use Rattle.model.specs.Signal.{is_var}
use Rattle.model.specs.Network.{vars}
use Rattle.shape.proofs.Wires.{vars_one_node, vars_one_other, vars_append}
use Rattle.tables.specs.Layout.{span, store, mark_base, stack_base}
use Rattle.tables.proofs.Places.{length_store, cell_store, cell_store_other}
use Rattle.remap.specs.Tables.{stack_of}
use Rattle.remap.proofs.Tabled.{stack_of_same}
use Rattle.cleanup.specs.Marking.{CanPush, Pushed, Tells, Pushing}

-- ---- one signal

module _ (s : ℕ) (t : Bool) (e : t ≡ is_var s) (l : List ℕ) (sp : ℕ) (C : CanPush l s sp) where
  pub push_none : not t ≡ true → Pushed l l (vars (s ∷ [])) sp sp 1
  push_none h = record {
    room = C.room;
    stk = sym (ap (λ x. x ++ stack_of l sp) (vars_one_other s (sym e ∙ not-true t h)));
    marks = λ u p. refl;
    top = omega arith;
  }

  pub push_some : not t ≡ false → is_var s ≡ true
  push_some h = sym e ∙ not-false t h

  pub push_fits : (d : ℕ) → not t ≡ false → d ≡ s / 2 - 1 → Fits w32 d
  push_fits d h q = record { fits = omega (arith, C.named (push_some h)) }

  pub push_done : (m : List ℕ) (d : ℕ) → not t ≡ false → d ≡ s / 2 - 1 → m ≡ store l stack_base sp d → Pushed l m (vars (s ∷ [])) sp (sp + 1) 1
  unfolding stack_of
  push_done m d h q w =
      let r = C.room in
      let dp = C.deep in
      record {
        room = rw w (omega (arith, length_store l stack_base sp d));
        stk = rw (add-one sp)
            (ap₂ ◌∷◌ (rw w (cell_store l stack_base sp d (omega arith)) ∙ q) (stack_of_same m l sp (λ i p. rw w (cell_store_other l stack_base sp d stack_base i (omega arith))))
            ∙ sym (ap (λ x. x ++ stack_of l sp) (vars_one_node s (push_some h))));
        marks = λ u p. rw w (cell_store_other l stack_base sp d mark_base u (omega arith));
        top = omega arith;
      }

pub ruleset pushes = (push_none, push_some, push_fits, push_done)

-- ---- a row of signals

module _ (g : ℕ → ℕ) (l : List ℕ) (n sp : ℕ) where
  pub row_start : span ≤ length l → Pushing g l n sp l sp n
  row_start h = record { room = h; whole = refl; marks = λ u p. refl; top = le_refl _; low = le_refl _ }

  pub row_next : (e e' : List ℕ) (r r' j : ℕ) → Pushing g l n sp e r j → 0 < j → Pushed e e' (vars (g (j - 1) ∷ [])) r r' 1 → Pushing g l n sp e' r' (j - 1)
  unfolding tab
  row_next e e' r r' j P h Q =
      let w = P.low in
      let t = P.top in
      let u = Q.top in
      let z : j ≡ suc (j - 1) = omega arith in
      record {
        room = Q.room;
        whole =
            P.whole
            ∙ ap (λ (k : ℕ). vars (tab g k) ++ stack_of e r) z
            ∙ ap (λ x. x ++ stack_of e r) (vars_append (tab g (j - 1)) (g (j - 1) ∷ []))
            ∙ append_assoc (vars (tab g (j - 1))) (vars (g (j - 1) ∷ [])) (stack_of e r)
            ∙ ap (λ x. vars (tab g (j - 1)) ++ x) (sym Q.stk);
        marks = λ u p. Q.marks u p ∙ P.marks u p;
        top = omega arith;
        low = omega arith;
      }

  pub row_end : (e : List ℕ) (r j : ℕ) → Pushing g l n sp e r j → j ≤ 0 → Pushed l e (vars (tab g n)) sp r n
  unfolding tab vars
  row_end e r j P h =
      let z : j ≡ 0 = omega arith in
      let t = P.top in
      record {
        room = P.room;
        stk = sym (P.whole ∙ ap (λ (k : ℕ). vars (tab g k) ++ stack_of e r) z);
        marks = P.marks;
        top = omega arith;
      }

-- as the code meets it: the signal told is the one that is pushed
pub row_told : (post : ℕ → ℕ → Type 0) (g : ℕ → ℕ) (l : List ℕ) (n sp : ℕ) (e e' : List ℕ) (r r' j s : ℕ) → Pushing g l n sp e r j → 0 < j → Tells post g n → post (j - 1) s
    → Pushed e e' (vars (s ∷ [])) r r' 1 → Pushing g l n sp e' r' (j - 1)
row_told post g l n sp e e' r r' j s P h t p Q =
    let low = P.low in
    let is : s ≡ g (j - 1) = t (j - 1) s (omega arith) p in
    row_next g l n sp e e' r r' j P h (rw is at Q)
