-- The search of topo_sort: what holds of its state at every turn, and that its stack runs empty.
use mathlib.Core.Path.{◌≡◌, refl, sym, ap, ap₂, ◌∙◌}
use mathlib.Core.Logic.{◌≢◌, ◌⊎◌, inl, inr}
use Prim.Native.Nat.{ℕ, zero, suc, ◌+◌, ◌-◌, ◌≤◌, ◌<◌}
use native.Mathlib.Nat.{not-suc-le-zero, le_refl}
use native.Mathlib.Omega.{arith}
use native.Mathlib.Decide.{ℕ_discrete}
use mathlib.Core.Bool.{Bool, true, false, not, cond, ◌&&◌}
use mathlib.Core.List.{List, [], ◌∷◌, ◌++◌}
use lib.ListN.{length}
use lib.Dec.{eqb}
use borrow.Author.Tests.{eq-eqb, ne_eqb, eqb-true}
use Rattle.laws.specs.Bools.{bit}
use Rattle.laws.specs.Lists.{All, Distinct}
use Rattle.laws.proofs.Lists.{all_map, length_none}
use Rattle.laws.proofs.Bools.{and_right}
use Rattle.laws.proofs.Choices.{by_bool, clash}
use Rattle.model.specs.Gate.{Net, size}
use Rattle.model.specs.Network.{is_d, deps, has, occ, sum_to, upd, push_if, Search, Down, down, pop_at, next_at, search, waits, users, descend, begin, search_left, sort_result}
use Rattle.shape.specs.Forms.{Inside}
use Rattle.shape.proofs.Sums.{upd_same, upd_other, bit_is, bit_isnt, sum_update, unseen_visit, sum_none, sum_zero}
use Rattle.shape.proofs.Members.{has_head, has_cons, has_tail, has_push, has_false, occ_has, has_occ}

-- ---- counting down: what is left is `base`

module _ (base : ℕ → ℕ) where
  abbrev Counts : List ℕ → (ℕ → ℕ) → Type 0
  Counts ds c = (d : ℕ) → c d ≡ base d + occ d ds

  counts_tail : (d : ℕ) (ds : List ℕ) (c : ℕ → ℕ) → Counts (d ∷ ds) c → Counts ds (upd c d (c d - 1))
  counts_tail d ds c h x = elim (ℕ_discrete x d) [
    | yes e ↦ rw e (upd_same c d (c d - 1) ∙ omega (arith, h d, bit_is d d refl))
    | no e ↦ upd_other c d (c d - 1) x e ∙ omega (arith, h x, bit_isnt d x (λ q. e (sym q)))
  ]

  down_cnt : (ds : List ℕ) (c : ℕ → ℕ) (s : List ℕ) → Counts ds c → (d : ℕ) → (down ds c s).cnt d ≡ base d
  unfolding down
  down_cnt [] c s h d = h d ∙ omega arith
  down_cnt (x ∷ ds) c s h d = down_cnt ds _ _ (counts_tail x ds c h) d

  down_zero : (n : ℕ) (ds : List ℕ) (c : ℕ → ℕ) (s : List ℕ) → Counts ds c → All (λ x. x < n) ds → All (λ x. (base x ≡ 0) × (x < n)) s
      → All (λ x. (base x ≡ 0) × (x < n)) (down ds c s).stk
  unfolding down
  down_zero n [] c s h l a = a
  down_zero n (d ∷ ds) c s h l a = down_zero n ds _ _ (counts_tail d ds c h) l.1 (elim (ℕ_discrete (c d - 1) 0) [
    | yes e ↦ rw (eq-eqb (c d - 1) 0 e) ((omega (arith, h d, bit_is d d refl), l.0), a)
    | no e ↦ rw (ne_eqb (c d - 1) 0 e) a
  ])

  down_keep : (ds : List ℕ) (c : ℕ → ℕ) (s : List ℕ) (x : ℕ) → has x s ≡ true → has x (down ds c s).stk ≡ true
  unfolding down
  down_keep [] c s x h = h
  down_keep (d ∷ ds) c s x h = down_keep ds _ _ x (has_push (eqb (c d - 1) 0) x d s h)

  down_new : (ds : List ℕ) (c : ℕ → ℕ) (s : List ℕ) → Counts ds c → (x : ℕ) → base x ≡ 0 → has x ds ≡ true → has x (down ds c s).stk ≡ true
  unfolding down
  down_new [] c s h x z m = clash m refl
  down_new (d ∷ ds) c s h x z m = by_bool (has x ds)
      (λ e. down_new ds _ _ (counts_tail d ds c h) x z e)
      (λ e. elim (ℕ_discrete d x) [
        | yes q ↦ (let o : c d - 1 ≡ 0 = rw q (omega (arith, h x, has_false x ds e, ap (λ y. occ x (y ∷ ds)) q, bit_is x x refl)) in
            down_keep ds _ _ x (rw (eq-eqb (c d - 1) 0 o, eq-eqb d x q)))
        | no q ↦ clash (has_tail x d ds q m) e
      ])

push_length : (b : Bool) (d : ℕ) (s : List ℕ) → length (push_if b d s) ≤ suc (length s)
push_length true d s = omega arith
push_length false d s = omega arith

down_length : (ds : List ℕ) (c : ℕ → ℕ) (s : List ℕ) → length (down ds c s).stk ≤ length s + length ds
unfolding down
down_length [] c s = omega arith
down_length (d ∷ ds) c s = omega (arith, down_length ds (upd c d (c d - 1)) (push_if (eqb (c d - 1) 0) d s), push_length (eqb (c d - 1) 0) d s)

-- one list after the other
pub down_append : (a b : List ℕ) (c : ℕ → ℕ) (s : List ℕ) → down (a ++ b) c s ≡ down b (down a c s).cnt (down a c s).stk
unfolding down
down_append [] b c s = refl
down_append (d ∷ a) b c s = down_append a b _ _

pub record DownSame (n : ℕ) (x y : Down) : Type 0 where
  pub cnt : (d : ℕ) → d < n → x.cnt d ≡ y.cnt d
  pub stk : x.stk ≡ y.stk

-- counts that agree below n give counts that agree below n, and the same stack
pub down_cong : (n : ℕ) (ds : List ℕ) (c e : ℕ → ℕ) (s : List ℕ) → All (λ d. d < n) ds → ((d : ℕ) → d < n → c d ≡ e d) → DownSame n (down ds c s) (down ds e s)
unfolding down
down_cong n [] c e s a h = record { cnt = h; stk = refl }
down_cong n (x ∷ ds) c e s a h =
    let p : c x ≡ e x = h x a.0 in
    let q : push_if (eqb (c x - 1) 0) x s ≡ push_if (eqb (e x - 1) 0) x s = ap (λ (y : ℕ). push_if (eqb (y - 1) 0) x s) p in
    rw q (down_cong n ds (upd c x (c x - 1)) (upd e x (e x - 1)) (push_if (eqb (e x - 1) 0) x s) a.1
    (λ d l. elim (ℕ_discrete d x) [
      | yes y ↦ rw y (upd_same c x (c x - 1) ∙ ap (λ (y : ℕ). y - 1) p ∙ sym (upd_same e x (e x - 1)))
      | no y ↦ upd_other c x (c x - 1) d y ∙ h d l ∙ sym (upd_other e x (e x - 1) d y)
    ]))

module _ (N : Net) where
  -- each node of the order comes before all the gates that name it
  abbrev pub Ordered : List ℕ → Type 0
  Ordered [] = Unit
  Ordered (x ∷ r) = ((u : ℕ) → u < size N → is_d N u ≡ false → has x (deps N u) ≡ true → has u r ≡ true) × Ordered r

  pub record J (s : Search) : Type 0 where
    pub counts : (d : ℕ) → s.cnt d ≡ users N s.vis d
    pub zeros : All (λ d. (users N s.vis d ≡ 0) × (d < size N)) s.stk
    pub stacked : (d : ℕ) → d < size N → s.vis d ≡ false → users N s.vis d ≡ 0 → has d s.stk ≡ true
    pub ordered : Ordered s.ord
    pub in_ord : (u : ℕ) → is_d N u ≡ false → s.vis u ≡ true → has u s.ord ≡ true
    pub of_ord : All (λ u. (s.vis u ≡ true) × ((u < size N) × (is_d N u ≡ false))) s.ord
    pub dffs : (u : ℕ) → is_d N u ≡ true → s.vis u ≡ true
    pub distinct : Distinct s.ord
    pub len : length s.ord ≡ sum_to (λ u. bit (not (is_d N u) && s.vis u)) (size N)

  -- visiting v takes what v names off the counts
  users_visit : (vis : ℕ → Bool) (v d : ℕ) → v < size N → vis v ≡ false → users N vis d ≡ users N (upd vis v true) d + occ d (deps N v)
  users_visit vis v d h e =
      omega (
        arith,
        sum_update (waits N vis d) (waits N (upd vis v true) d) v (size N) h (λ u q. ap (λ b. cond b 0 (occ d (deps N u))) (sym (upd_other vis v true u q))),
        ap (λ b. cond b 0 (occ d (deps N v))) e,
        ap (λ b. cond b 0 (occ d (deps N v))) (upd_same vis v true),
      )

  -- a node whose count is zero is named by visited gates only
  users_zero : (vis : ℕ → Bool) (d u : ℕ) → users N vis d ≡ 0 → u < size N → has d (deps N u) ≡ true → vis u ≡ true
  users_zero vis d u e h m = by_bool (vis u) (λ q. q)
      (λ q. let z : occ d (deps N u) ≡ 0 = ap (λ b. cond b 0 (occ d (deps N u))) (sym q) ∙ sum_zero (waits N vis d) (size N) u e h in absurd (has_occ d (deps N u) m z))

  -- one turn keeps all that
  skip : (s : Search) (v : ℕ) (r : List ℕ) → J s → s.stk ≡ v ∷ r → s.vis v ≡ true → J (pop_at N true v r s)
  skip s v r I q e = record {
    counts = I.counts;
    zeros = (rw q at I.zeros).1;
    stacked = λ d h f z. has_tail d v r (λ y. clash e (rw y f)) (rw q at (I.stacked d h f z));
    ordered = I.ordered;
    in_ord = I.in_ord;
    of_ord = I.of_ord;
    dffs = I.dffs;
    distinct = I.distinct;
    len = I.len;
  }

  visit : Inside N → (s : Search) (v : ℕ) (r : List ℕ) → J s → s.stk ≡ v ∷ r → s.vis v ≡ false → J (pop_at N false v r s)
  visit inside s v r I q e = record {
    counts = λ d. down_cnt base (deps N v) s.cnt r counted d;
    zeros = down_zero base (size N) (deps N v) s.cnt r counted (inside v vn) (all_map r (λ x p. (let z = p.0 in omega (arith, step x), p.1)) top.1);
    stacked = stacked';
    ordered = ((λ u h c m. I.in_ord u c (users_zero s.vis v u top.0.0 h m)), I.ordered);
    in_ord = λ u c f. elim (ℕ_discrete v u) [
      | yes y ↦ has_head u v s.ord y
      | no y ↦ has_cons u v s.ord (I.in_ord u c (sym (upd_other s.vis v true u (λ z. y (sym z))) ∙ f))
    ];
    of_ord = ((upd_same s.vis v true, (vn, comb)), all_map s.ord (λ u p. (up u p.0, p.1)) I.of_ord);
    dffs = λ u f. up u (I.dffs u f);
    distinct = (all_map s.ord (λ u p y. clash p.0 (rw y e)) I.of_ord, I.distinct);
    len = omega (
      arith,
      I.len,
      sum_update (λ u. bit (not (is_d N u) && s.vis u)) (λ u. bit (not (is_d N u) && vis' u)) v (size N) vn (λ u y. ap (λ b. bit (not (is_d N u) && b)) (sym (upd_other s.vis v true u y))),
      ap₂ (λ a b. bit (not a && b)) comb e,
      ap₂ (λ a b. bit (not a && b)) comb (upd_same s.vis v true),
    );
  }
    where
      vis' : ℕ → Bool
      vis' = upd s.vis v true

      base : ℕ → ℕ
      base d = users N vis' d

      top : All (λ d. (users N s.vis d ≡ 0) × (d < size N)) (v ∷ r)
      top = rw q at I.zeros

      vn : v < size N
      vn = top.0.1

      comb : is_d N v ≡ false
      comb = by_bool (is_d N v) (λ f. clash (I.dffs v f) e) (λ f. f)

      step : (d : ℕ) → users N s.vis d ≡ base d + occ d (deps N v)
      step d = users_visit s.vis v d vn e

      counted : (d : ℕ) → s.cnt d ≡ base d + occ d (deps N v)
      counted d = I.counts d ∙ step d

      up : (u : ℕ) → s.vis u ≡ true → vis' u ≡ true
      up u f = elim (ℕ_discrete u v) [ yes y ↦ rw y (upd_same s.vis v true) | no y ↦ upd_other s.vis v true u y ∙ f ]

      stacked' : (d : ℕ) → d < size N → vis' d ≡ false → base d ≡ 0 → has d (down (deps N v) s.cnt r).stk ≡ true
      stacked' d h f z =
          let n : d ≢ v = λ y. clash (upd_same s.vis v true) (rw y at f) in
          let f' : s.vis d ≡ false = sym (upd_other s.vis v true d n) ∙ f in
          elim (ℕ_discrete (occ d (deps N v)) 0) [
            | yes o ↦ down_keep base (deps N v) s.cnt r d (has_tail d v r (λ y. n (sym y)) (rw q at (I.stacked d h f' (omega (arith, step d)))))
            | no o ↦ down_new base (deps N v) s.cnt r counted d z (occ_has d (deps N v) o)
          ]

  pub turn : Inside N → (s : Search) → J s → J (next_at N s.stk s) × ((s.stk ≡ []) ⊎ (search_left N (next_at N s.stk s) < search_left N s))
  turn inside s I = go s.stk refl
    where
      go : (k : List ℕ) → s.stk ≡ k → J (next_at N k s) × ((s.stk ≡ []) ⊎ (search_left N (next_at N k s) < search_left N s))
      go [] q = (I, inl q)
      go (v ∷ r) q = by_bool (s.vis v)
          (λ e. rw e (skip s v r I q e, inr (omega (arith, ap length q))))
          (λ e. rw e (
            visit inside s v r I q e,
            inr (omega (
              arith,
              ap length q,
              down_length (deps N v) s.cnt r,
              unseen_visit N s.vis v (rw q at I.zeros).0.1 e,
            )),
          ))

  pub stay : (f : ℕ) (s : Search) → s.stk ≡ [] → search N f s ≡ s
  unfolding search
  stay zero s q = refl
  stay (suc f) s q = ap (λ k. search N f (next_at N k s)) q ∙ stay f s q

  -- with turns for all the work left, the stack runs empty
  finish : Inside N → (f : ℕ) (s : Search) → J s → search_left N s ≤ f → J (search N f s) × ((search N f s).stk ≡ [])
  unfolding search
  finish inside zero s I h = (I, length_none s.stk (omega arith))
  finish inside (suc f) s I h =
      let t = turn inside s I in
      elim t.1 [
        | inl q ↦ (let y : search N f (next_at N s.stk s) ≡ s = ap (λ k. search N f (next_at N k s)) q ∙ stay f s q in rw y (I, q))
        | inr l ↦ finish inside f (next_at N s.stk s) t.0 (omega arith)
      ]

  -- ---- the start

  -- a start node: combinational, and no combinational gate names it
  abbrev pub ready : ℕ → Bool
  ready v = not (is_d N v) && eqb (users N (is_d N) v) 0

  ready_zero : (v : ℕ) → ready v ≡ true → users N (is_d N) v ≡ 0
  ready_zero v h = eqb-true (users N (is_d N) v) 0 (and_right (not (is_d N v)) (eqb (users N (is_d N) v) 0) h)

  descend_all : (k : ℕ) → k ≤ size N → All (λ d. (users N (is_d N) d ≡ 0) × (d < size N)) (descend N ready k [])
  descend_all zero h = tt
  descend_all (suc k) h = by_bool (ready k)
      (λ e. rw e ((ready_zero k e, h), descend_all k (omega arith)))
      (λ e. rw e (descend_all k (omega arith)))

  descend_has : (k d : ℕ) → d < k → ready d ≡ true → has d (descend N ready k []) ≡ true
  descend_has zero d h r = absurd (not-suc-le-zero h)
  descend_has (suc k) d h r = elim (ℕ_discrete d k) [
    | yes e ↦ (let y : ready k ≡ true = rw e at r in rw y (has_head d k (descend N ready k []) (sym e)))
    | no e ↦ has_push (ready k) d k (descend N ready k []) (descend_has k d (omega arith) r)
  ]

  no_b : (b : Bool) → bit (not b && b) ≡ 0
  no_b true = refl
  no_b false = refl

  pub begin_J : J (begin N)
  begin_J = record {
    counts = λ d. refl;
    zeros = descend_all (size N) (le_refl _);
    stacked = λ d h f z. descend_has (size N) d h (ap₂ (λ a b. not a && b) f (eq-eqb (users N (is_d N) d) 0 z));
    ordered = tt;
    in_ord = λ u c f. clash f c;
    of_ord = tt;
    dffs = λ u f. f;
    distinct = tt;
    len = sym (sum_none (λ u. bit (not (is_d N u) && is_d N u)) (size N) (λ u. no_b (is_d N u)));
  }

  -- ---- the end

  pub result_J : Inside N → J (sort_result N)
  result_J inside = (finish inside (search_left N (begin N)) (begin N) begin_J (le_refl _)).0

  pub result_empty : Inside N → (sort_result N).stk ≡ []
  result_empty inside = (finish inside (search_left N (begin N)) (begin N) begin_J (le_refl _)).1
