-- Counting down, in the tables.
use mathlib.Core.Path.{◌≡◌, refl, sym, ap, ap₂, ◌∙◌}
use mathlib.Core.Bool.{Bool, true, false, not}
use Prim.Native.Nat.{ℕ, zero, suc, ◌+◌, ◌-◌, ◌/◌, ◌<◌, ◌≤◌}
use native.Mathlib.Nat.{le_refl}
use native.Mathlib.Omega.{arith}
use native.Mathlib.Numerals.{add-one}
use native.Mathlib.Decide.{ℕ_discrete, dec_lt}
use mathlib.Core.List.{List, [], ◌∷◌}
use lib.ListN.{length}
use lib.Dec.{eqb, ltb}
use borrow.Author.Tests.{not-true, not-false, lt-ltb, le-ltb, eq-eqb, ne_eqb}
use mir.Val.{Fits}
use mir.Syntax.{w32}
use Rattle.laws.specs.Lists.{tab}
use Rattle.laws.proofs.Choices.{by_bool}
use Rattle.model.specs.Signal.{is_var}
use Rattle.model.specs.Network.{vars, down, Down, upd, push_if}
use Rattle.shape.specs.Forms.{Below}
use Rattle.shape.proofs.Sums.{upd_same, upd_other}
use Rattle.shape.proofs.Wires.{vars_snoc_node, vars_snoc_other}
use Rattle.shape.proofs.Search.{down_append}
use Rattle.tables.specs.Layout.{span, input_at, cell, store, count_base, mark_base, stack_base, order_base}
use Rattle.tables.proofs.Places.{length_store, cell_store, cell_store_other}
use Rattle.remap.specs.Tables.{ins_from, stack_of}
use Rattle.remap.proofs.Tabled.{stack_of_same}
use Rattle.count_down.specs.Lowering.{Heap, down_at, down_one, down_ins, Lowered, CanDown, Downs}

-- the words h come from l by counting down to M: counts and stack are M's, the rest is l's
pub record DownRel (l : List ℕ) (h : Heap) (M : Down) (most : ℕ) : Type 0 where
  pub cnt : (d : ℕ) → d < 512 → cell h.words count_base d ≡ M.cnt d
  pub stk : stack_of h.words h.sp ≡ M.stk
  pub top : h.sp ≤ most
  pub len : length h.words ≡ length l
  pub marks : (u : ℕ) → u < 512 → cell h.words mark_base u ≡ cell l mark_base u
  pub order : (u : ℕ) → u < 512 → cell h.words order_base u ≡ cell l order_base u

-- one node
module _ (l k : List ℕ) (sp most x : ℕ) (M : Down) (R : DownRel k (record { words = l; sp = sp }) M most) (room : span ≤ length k) (deep : most < 4608) (lt : x < 512) where
  abbrev M' : Down
  M' = record { cnt = upd M.cnt x (M.cnt x - 1); stk = push_if (eqb (M.cnt x - 1) 0) x M.stk }

  lower : (w : List ℕ) (y : ℕ) → w ≡ store l count_base x y → y ≡ M.cnt x - 1 → (d : ℕ) → d < 512 → cell w count_base d ≡ upd M.cnt x (M.cnt x - 1) d
  lower w y e q d h =
      let len = R.len in
      elim (ℕ_discrete d x) [
        | yes z ↦ rw (z, e) (cell_store l count_base x y (omega arith) ∙ q ∙ sym (upd_same M.cnt x (M.cnt x - 1)))
        | no z ↦ rw e (cell_store_other l count_base x y count_base d (omega arith)) ∙ R.cnt d h ∙ sym (upd_other M.cnt x (M.cnt x - 1) d z)
      ]

  more : 1 < cell l count_base x → DownRel k (record { words = store l count_base x (cell l count_base x - 1); sp = sp }) M' (suc most)
  more h =
      let y = cell l count_base x - 1 in
      let c : cell l count_base x ≡ M.cnt x = R.cnt x lt in
      let q : y ≡ M.cnt x - 1 = ap (λ (z : ℕ). z - 1) c in
      record {
        cnt = lower (store l count_base x y) y refl q;
        stk = stack_of_same (store l count_base x y) l sp (λ i p. cell_store_other l count_base x y stack_base i (omega arith)) ∙ R.stk
            ∙ sym (ap (λ b. push_if b x M.stk) (ne_eqb (M.cnt x - 1) 0 (omega arith)));
        top = let t = R.top in omega arith;
        len = length_store l count_base x y ∙ R.len;
        marks = λ u p. cell_store_other l count_base x y mark_base u (omega arith) ∙ R.marks u p;
        order = λ u p. cell_store_other l count_base x y order_base u (omega arith) ∙ R.order u p;
      }

  last : cell l count_base x ≤ 1 → DownRel k (record { words = store (store l count_base x 0) stack_base sp x; sp = sp + 1 }) M' (suc most)
  unfolding stack_of
  last h =
      let m = store l count_base x 0 in
      let w = store m stack_base sp x in
      let t = R.top in
      let ln = R.len in
      let ln' = length_store l count_base x 0 in
      let c : cell l count_base x ≡ M.cnt x = R.cnt x lt in
      let q : 0 ≡ M.cnt x - 1 = omega arith in
      record {
        cnt = λ d p. cell_store_other m stack_base sp x count_base d (omega arith) ∙ lower m 0 refl q d p;
        stk = rw (add-one sp)
            (ap₂ ◌∷◌ (cell_store m stack_base sp x (omega arith))
            (stack_of_same w l sp (λ i p. cell_store_other m stack_base sp x stack_base i (omega arith) ∙ cell_store_other l count_base x 0 stack_base i (omega arith)) ∙ R.stk)
            ∙ sym (ap (λ b. push_if b x M.stk) (eq-eqb (M.cnt x - 1) 0 (sym q))));
        top = omega arith;
        len = length_store m stack_base sp x ∙ ln' ∙ ln;
        marks = λ u p. cell_store_other m stack_base sp x mark_base u (omega arith) ∙ cell_store_other l count_base x 0 mark_base u (omega arith) ∙ R.marks u p;
        order = λ u p. cell_store_other m stack_base sp x order_base u (omega arith) ∙ cell_store_other l count_base x 0 order_base u (omega arith) ∙ R.order u p;
      }

  down_node : DownRel k (down_at true (ltb 1 (cell l count_base x)) l x sp) M' (suc most)
  down_node = elim (dec_lt 1 (cell l count_base x)) [
    | yes h ↦ rw (lt-ltb 1 (cell l count_base x) h) (more h)
    | no h ↦ rw (le-ltb 1 (cell l count_base x) (omega arith)) (last (omega arith))
  ]

-- all inputs
module _ (from l : List ℕ) (f sp : ℕ) (room : span ≤ length l) where
  pub down_rel : (j : ℕ) → sp + j ≤ 4608 → ((i : ℕ) → i < j → Below 512 (input_at from (f + i)))
      → DownRel l (down_ins from f l sp j) (down (vars (ins_from from f j)) (cell l count_base) (stack_of l sp)) (sp + j)
  unfolding down_ins tab vars down down_one
  down_rel zero h b = record { cnt = λ d p. refl; stk = refl; top = omega arith; len = refl; marks = λ u p. refl; order = λ u p. refl }
  down_rel (suc j) h b =
      let s = input_at from (f + j) in
      let D = down_ins from f l sp j in
      let ds = vars (ins_from from f j) in
      let M = down ds (cell l count_base) (stack_of l sp) in
      let ih = down_rel j (omega arith) (λ i p. b i (omega arith)) in
      by_bool (is_var s)
      (λ e. rw (e, vars_snoc_node (ins_from from f j) s e, down_append ds ((s / 2 - 1) ∷ []) (cell l count_base) (stack_of l sp), add_suc sp j)
      (down_node D.words l D.sp (sp + j) (s / 2 - 1) M ih room (omega arith) (b j (le_refl _) e)))
      (λ e. rw (e, vars_snoc_other (ins_from from f j) s e)
      (record { cnt = ih.cnt; stk = ih.stk; top = let t = ih.top in omega arith; len = ih.len; marks = ih.marks; order = ih.order }))
    where
      add_suc : (a b : ℕ) → a + suc b ≡ suc (a + b)
      add_suc a b = omega arith

-- ---- one signal, as the code meets it

module _ (s : ℕ) (t : Bool) (e : t ≡ is_var s) where
  pub lower_none : (l : List ℕ) (sp : ℕ) → not t ≡ true → Lowered (down_one l s sp) l sp
  unfolding down_one
  lower_none l sp h = let z : is_var s ≡ false = sym e ∙ not-true t h in rw z (record { words = refl; sp = refl })

  pub lower_some : not t ≡ false → is_var s ≡ true
  lower_some h = sym e ∙ not-false t h

  pub lower_room : (l : List ℕ) (d sp : ℕ) → CanDown l s sp → not t ≡ false → d ≡ s / 2 - 1 → 5696 + d < length l
  lower_room l d sp C h q = let r = C.room in omega (arith, C.named (lower_some h))

  pub lower_fits : (l : List ℕ) (d sp : ℕ) → CanDown l s sp → not t ≡ false → d ≡ s / 2 - 1 → Fits w32 d
  lower_fits l d sp C h q = record { fits = omega (arith, C.named (lower_some h)) }

  pub lower_more : (l m : List ℕ) (d n sp : ℕ) → not t ≡ false → d ≡ s / 2 - 1 → n ≡ cell l count_base d → 1 < n → m ≡ store l count_base d (n - 1) → Lowered (down_one l s sp) m sp
  unfolding down_one
  lower_more l m d n sp h q r lt w =
      let z = lower_some h in
      let y : ltb 1 (cell l count_base (s / 2 - 1)) ≡ true = lt-ltb 1 (cell l count_base (s / 2 - 1)) (rw (← q, ← r) lt) in
      rw (z, y) (record { words = w ∙ rw (r, q); sp = refl })

  pub lower_last : (l m w : List ℕ) (d n sp : ℕ) → not t ≡ false → d ≡ s / 2 - 1 → n ≡ cell l count_base d → n ≤ 1 → m ≡ store l count_base d 0 → w ≡ store m stack_base sp d → Lowered (down_one l s sp) w (sp + 1)
  unfolding down_one
  lower_last l m w d n sp h q r lt y x =
      let z = lower_some h in
      let b : ltb 1 (cell l count_base (s / 2 - 1)) ≡ false = le-ltb 1 (cell l count_base (s / 2 - 1)) (rw (← q, ← r) lt) in
      rw (z, b) (record { words = x ∙ rw (y, q); sp = refl })

pub ruleset lowers = (lower_none, lower_some, lower_room, lower_fits, lower_more, lower_last)

-- ---- the inputs of a gate

pub downs_none : (from l : List ℕ) (f sp : ℕ) → Lowered (down_ins from f l sp 0) l sp
unfolding down_ins
downs_none from l f sp = record { words = refl; sp = refl }

pub downs_turn : (from l m : List ℕ) (f n sp top j s : ℕ) → Downs from l f n sp → Lowered (down_ins from f l sp j) m top → j < n → s ≡ input_at from (f + j) → CanDown m s top
downs_turn from l m f n sp top j s D L p e =
    let deep = D.deep in
    let room = D.room in
    let R = down_rel from l f sp room j (omega arith) (λ i q. D.named i (omega arith)) in
    let t = R.top in
    let y = L.sp in
    record {
      room = rw L.words (omega (arith, R.len));
      named = rw e (D.named j p);
      deep = omega arith;
    }

pub downs_next : (from l m m' : List ℕ) (f sp top top' j s : ℕ) → Lowered (down_ins from f l sp j) m top → s ≡ input_at from (f + j) → Lowered (down_one m s top) m' top' → Lowered (down_ins from f l sp (j + 1)) m' top'
unfolding down_ins
downs_next from l m m' f sp top top' j s L e K =
    let a = L.words in
    let b = L.sp in
    rw (add-one j) (record { words = K.words ∙ rw (a, b, e); sp = K.sp ∙ rw (a, b, e) })

pub downs_done : (from l m : List ℕ) (f n sp top j : ℕ) → Lowered (down_ins from f l sp j) m top → j ≤ n → n ≤ j → Lowered (down_ins from f l sp n) m top
downs_done from l m f n sp top j L p q = let e : j ≡ n = omega arith in rw e at L

pub ruleset downs = (downs_none, downs_turn, downs_next, downs_done)
