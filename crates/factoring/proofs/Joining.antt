-- Laws of joining neighbours.
use Prim.Native.Nat.{suc, zero, ℕ, ◌*◌, ◌+◌, ◌-◌, ◌/◌, ◌<◌, ◌≤◌}
use mathlib.Core.Path.{ap, ap₂, refl, sym, ◌∙◌, ◌≡◌}
use mathlib.Core.Logic.{◌≢◌}
use mathlib.Core.List.{List, [], append_assoc, ◌++◌, ◌∷◌}
use native.Mathlib.Omega.{arith}
use native.Mathlib.Nat.{add-zero}
use native.Mathlib.Decide.{ℕ_discrete}
use lib.ListN.{get_or, length, length-append, length-set, set}
use lib.Seq.{ext_get_or, get_or-set_other, get_or-set_same}
use borrow.Author.Tests.{eq-eqb, ne_eqb}
use mir.Val.{Fits}
use mir.Syntax.{w32, w64}
use Rattle.factoring.specs.Turned.{Joined, carried, joined_at, joined_to, put_pairs}
use Rattle.laws.specs.Lists.{tab}
use Rattle.model.specs.Sharing.{Pair, join_round, round_left, round_pairs}
use Rattle.model.specs.Signal.{from_var}
use Rattle.pairs.specs.Lists.{Laid, area_size, front, left_at, list_at, lists_of, pair_at, put_left, put_list, put_pair, put_sig, set_list, sig_at, start_at}
use Rattle.pairs.specs.States.{Ready, state_of}
use Rattle.laws.proofs.Tabs.{get_or_tab, length_tab, tab_append, tab_ext}
use Rattle.pairs.proofs.Gates.{front_suc, get_or_lists, laid_set_list, left_at_set_list_other, length_front, list_at_set_list, list_at_set_list_other, start_at_set_list}
use Rattle.pairs.proofs.Places.{left_at_put_pair, left_at_put_pair_other, length_put_list, length_put_pair, put_list_append, put_pair_put_sig, sig_at_put_list_after, sig_at_put_pair, start_at_put_pair, start_at_put_pair_other}
use Rattle.pairs.proofs.Stated.{laid_put_pair, lists_put_pair, pair≡, state≡}

-- ---- rounds of an even list, and two more

left_snoc : (v : ℕ) (l : List ℕ) (a b h : ℕ) → length l ≡ 2 * h → round_left v (l ++ (a ∷ b ∷ [])) ≡ round_left v l ++ (from_var (v + h) ∷ [])
unfolding round_left
left_snoc v [] a b h e = let z : h ≡ 0 = omega arith in rw (z, add-zero)
left_snoc v (x ∷ []) a b h e = absurd (omega arith)
left_snoc v (x ∷ y ∷ l) a b zero e = absurd (omega arith)
left_snoc v (x ∷ y ∷ l) a b (suc h) e =
    let q : v + suc h ≡ suc v + h = omega arith in
    rw q (ap (◌∷◌ (from_var v)) (left_snoc (suc v) l a b h (omega arith)))

pairs_snoc : (l : List ℕ) (a b h : ℕ) → length l ≡ 2 * h → round_pairs (l ++ (a ∷ b ∷ [])) ≡ round_pairs l ++ (record { fst = a; snd = b } ∷ [])
unfolding round_pairs
pairs_snoc [] a b h e = refl
pairs_snoc (x ∷ []) a b h e = absurd (omega arith)
pairs_snoc (x ∷ y ∷ l) a b zero e = absurd (omega arith)
pairs_snoc (x ∷ y ∷ l) a b (suc h) e = ap (◌∷◌ (record { fst = x; snd = y })) (pairs_snoc l a b h (omega arith))

pub left_length : (v h : ℕ) (l : List ℕ) → length l ≡ 2 * h → length (round_left v l) ≡ h
unfolding round_left
left_length v h [] e = omega arith
left_length v h (x ∷ []) e = absurd (omega arith)
left_length v zero (x ∷ y ∷ l) e = absurd (omega arith)
left_length v (suc h) (x ∷ y ∷ l) e = ap suc (left_length (suc v) h l (omega arith))

pub pairs_length : (h : ℕ) (l : List ℕ) → length l ≡ 2 * h → length (round_pairs l) ≡ h
unfolding round_pairs
pairs_length h [] e = omega arith
pairs_length h (x ∷ []) e = absurd (omega arith)
pairs_length zero (x ∷ y ∷ l) e = absurd (omega arith)
pairs_length (suc h) (x ∷ y ∷ l) e = ap suc (pairs_length h l (omega arith))

front_two : (l : List ℕ) (f j : ℕ) → front l f (2 * (j + 1)) ≡ front l f (2 * j) ++ (sig_at l (f + 2 * j) ∷ sig_at l (f + 2 * j + 1) ∷ [])
front_two l f j =
    let e : 2 * (j + 1) ≡ suc (suc (2 * j)) = omega arith in
    let q : f + suc (2 * j) ≡ f + 2 * j + 1 = omega arith in
    rw (e, front_suc, front_suc, q) (append_assoc (front l f (2 * j)) (sig_at l (f + 2 * j) ∷ []) (sig_at l (f + 2 * j + 1) ∷ []))

-- ---- put_pairs

pub length_put_pairs : (l : List ℕ) (v : ℕ) (ps : List Pair) → length (put_pairs l v ps) ≡ length l
unfolding put_pairs
length_put_pairs l v [] = refl
length_put_pairs l v (x ∷ ps) = length_put_pairs (put_pair l v x.fst x.snd) (suc v) ps ∙ length_put_pair l v x.fst x.snd

put_pairs_snoc : (l : List ℕ) (v : ℕ) (ps : List Pair) (x : Pair) → put_pairs l v (ps ++ (x ∷ [])) ≡ put_pair (put_pairs l v ps) (v + length ps) x.fst x.snd
unfolding put_pairs
put_pairs_snoc l v [] x = rw (add-zero v)
put_pairs_snoc l v (y ∷ ps) x =
    let e : suc v + length ps ≡ v + suc (length ps) = omega arith in
    rw (← e) (put_pairs_snoc (put_pair l v y.fst y.snd) (suc v) ps x)

pub sig_at_put_pairs : (l : List ℕ) (v : ℕ) (ps : List Pair) (k : ℕ) → v + length ps ≤ 512 → k < 2048 → sig_at (put_pairs l v ps) k ≡ sig_at l k
unfolding put_pairs
sig_at_put_pairs l v [] k h z = refl
sig_at_put_pairs l v (x ∷ ps) k h z = sig_at_put_pairs (put_pair l v x.fst x.snd) (suc v) ps k (omega arith) z ∙ sig_at_put_pair l v x.fst x.snd (omega arith) k z

pair_list : (l : List ℕ) (v a b f : ℕ) (m : List ℕ) → f + length m ≤ 2048 → put_pair (put_list l f m) v a b ≡ put_list (put_pair l v a b) f m
unfolding put_list
pair_list l v a b f [] h = refl
pair_list l v a b f (x ∷ m) h =
    pair_list (put_sig l f x) v a b (suc f) m (omega arith) ∙ ap (λ z. put_list z (suc f) m) (put_pair_put_sig l v a b f x (omega arith))

-- ---- join_pairs

pub length_joined : (l : List ℕ) (f v h : ℕ) → length (joined_to l f v h) ≡ length l
unfolding joined_to
length_joined l f v h = length_put_list _ f _ ∙ length_put_pairs l v _

-- what holds before pair j
pub record Paired (l₀ l : List ℕ) (f v h j : ℕ) : Type 0 where
  pub upto : j ≤ h
  pub same : length l ≡ length l₀
  pub words : l ≡ joined_to l₀ f v j

pub pairs_start : (l : List ℕ) (f v h : ℕ) → Paired l l f v h 0
unfolding joined_to front tab round_pairs round_left put_pairs put_list
pairs_start l f v h = record { upto = omega arith; same = refl; words = refl }

module _ (l m : List ℕ) (f v h j : ℕ) (inv : Paired l m f v h j) where
  module _ (lt : j < h) (small : f + 2 * h ≤ 2048) (nodes : v + h ≤ 512) where
    pub pairs_two : area_size ≤ length l → (area_size ≤ length m) × (f + 2 * j + 1 < 2048) × (v + j < 512)
    pairs_two z = (rw inv.same z, omega (arith, small), omega (arith, nodes))

    even : length (front l f (2 * j)) ≡ 2 * j
    even = length_front l f (2 * j)

    joined_sig : (k : ℕ) → f + j ≤ k → k < 2048 → sig_at m k ≡ sig_at l k
    unfolding joined_to
    joined_sig k a b =
        rw inv.words
        (sig_at_put_list_after (put_pairs l v (round_pairs (front l f (2 * j)))) f (round_left v (front l f (2 * j))) k (omega (arith, left_length v j (front l f (2 * j)) even))
        ∙ sig_at_put_pairs l v (round_pairs (front l f (2 * j))) k (omega (arith, pairs_length j (front l f (2 * j)) even)) b)

    pub pairs_step : (o : List ℕ) → o ≡ joined_at m f v j → length o ≡ length m → Paired l o f v h (j + 1)
    unfolding joined_at joined_to put_list
    pairs_step o e len =
        let a = sig_at m (f + 2 * j) in
        let b = sig_at m (f + 2 * j + 1) in
        let a' = joined_sig (f + 2 * j) (omega arith) (omega arith) in
        let b' = joined_sig (f + 2 * j + 1) (omega arith) (omega arith) in
        let n = left_length v j (front l f (2 * j)) even in
        let c = pair_list (put_pairs l v (round_pairs (front l f (2 * j)))) (v + j) a b f (round_left v (front l f (2 * j))) (omega arith) in
        let d : put_pair m (v + j) a b ≡ put_list (put_pair (put_pairs l v (round_pairs (front l f (2 * j)))) (v + j) a b) f (round_left v (front l f (2 * j))) =
        ap (λ x. put_pair x (v + j) a b) inv.words ∙ c in
        record {
          upto = omega arith;
          same = len ∙ inv.same;
          words =
              rw (
                front_two,
                ← a',
                ← b',
                left_snoc v (front l f (2 * j)) a b j even,
                pairs_snoc (front l f (2 * j)) a b j even,
                put_pairs_snoc,
                put_list_append,
                pairs_length j (front l f (2 * j)) even,
                n,
                ← d,
              )
              e;
        }

  pub pairs_end : h ≤ j → m ≡ joined_to l f v h
  pairs_end b = let a = inv.upto in let q : j ≡ h = omega arith in inv.words ∙ ap (joined_to l f v) q

-- ---- join_two

module _ (z f v j : ℕ) (P : (area_size ≤ z) × (f + 2 * j + 1 < 2048) × (v + j < 512)) where
  pub two_double : Fits w64 (2 * j)
  two_double = record { fits = omega (arith, P.1) }

  pub two_place : Fits w64 (f + 2 * j)
  two_place = record { fits = omega (arith, P.1) }

  pub two_behind : Fits w64 (f + 2 * j + 1)
  two_behind = record { fits = omega (arith, P.1) }

  pub two_node : Fits w64 (v + j)
  two_node = record { fits = omega (arith, P.2) }

  pub two_sum : Fits w64 (f + j)
  two_sum = record { fits = omega (arith, P.1) }

  pub two_first : (f + 2 * j < 2048) × (area_size ≤ z)
  two_first = (omega (arith, P.1), P.0)

  pub two_sig : (y : ℕ) → y ≡ z → (f + j < 2048) × (area_size ≤ y)
  two_sig y e = (omega (arith, P.1), rw e P.0)

pub two_done : (l m o : List ℕ) (f v j a b z : ℕ) → a ≡ sig_at l (f + 2 * j) → b ≡ sig_at l (f + 2 * j + 1) → m ≡ put_pair l (v + j) a b → z ≡ from_var (v + j)
    → o ≡ put_sig m (f + j) z → o ≡ joined_at l f v j
unfolding joined_at
two_done l m o f v j a b z ea eb em ez eo = rw (← ea, ← eb, ← em, ← ez) eo

-- ---- an odd last one

left_odd : (v : ℕ) (l : List ℕ) (x h : ℕ) → length l ≡ 2 * h → round_left v (l ++ (x ∷ [])) ≡ round_left v l ++ (x ∷ [])
unfolding round_left
left_odd v [] x h e = refl
left_odd v (y ∷ []) x h e = absurd (omega arith)
left_odd v (y ∷ z ∷ l) x zero e = absurd (omega arith)
left_odd v (y ∷ z ∷ l) x (suc h) e = ap (◌∷◌ (from_var v)) (left_odd (suc v) l x h (omega arith))

pairs_odd : (l : List ℕ) (x h : ℕ) → length l ≡ 2 * h → round_pairs (l ++ (x ∷ [])) ≡ round_pairs l
unfolding round_pairs
pairs_odd [] x h e = refl
pairs_odd (y ∷ []) x h e = absurd (omega arith)
pairs_odd (y ∷ z ∷ l) x zero e = absurd (omega arith)
pairs_odd (y ∷ z ∷ l) x (suc h) e = ap (◌∷◌ (record { fst = y; snd = z })) (pairs_odd l x h (omega arith))

-- ---- what put_pairs does to the lists and the pairs

module _ (g : ℕ) where
  pub laid_put_pairs : (l : List ℕ) (v : ℕ) (ps : List Pair) → Laid l g → g ≤ v → v + length ps ≤ 512 → Laid (put_pairs l v ps) g
  unfolding put_pairs
  laid_put_pairs l v [] h a b = h
  laid_put_pairs l v (x ∷ ps) h a b = laid_put_pairs (put_pair l v x.fst x.snd) (suc v) ps (laid_put_pair l g v x.fst x.snd h a (omega arith)) (omega arith) (omega arith)

  pub lists_put_pairs : (l : List ℕ) (v : ℕ) (ps : List Pair) → Laid l g → g ≤ v → v + length ps ≤ 512 → lists_of (put_pairs l v ps) g ≡ lists_of l g
  unfolding put_pairs
  lists_put_pairs l v [] h a b = refl
  lists_put_pairs l v (x ∷ ps) h a b =
      lists_put_pairs (put_pair l v x.fst x.snd) (suc v) ps (laid_put_pair l g v x.fst x.snd h a (omega arith)) (omega arith) (omega arith)
      ∙ lists_put_pair l g v x.fst x.snd h a (omega arith)

pub start_at_put_pairs : (l : List ℕ) (v : ℕ) (ps : List Pair) (w : ℕ) → w < v → v + length ps ≤ 512 → start_at (put_pairs l v ps) w ≡ start_at l w
unfolding put_pairs
start_at_put_pairs l v [] w a b = refl
start_at_put_pairs l v (x ∷ ps) w a b =
    start_at_put_pairs (put_pair l v x.fst x.snd) (suc v) ps w (omega arith) (omega arith) ∙ start_at_put_pair_other l v x.fst x.snd (omega arith) w (omega arith) (omega arith)

pub left_at_put_pairs : (l : List ℕ) (v : ℕ) (ps : List Pair) (w : ℕ) → w < v → v + length ps ≤ 512 → left_at (put_pairs l v ps) w ≡ left_at l w
unfolding put_pairs
left_at_put_pairs l v [] w a b = refl
left_at_put_pairs l v (x ∷ ps) w a b =
    left_at_put_pairs (put_pair l v x.fst x.snd) (suc v) ps w (omega arith) (omega arith) ∙ left_at_put_pair_other l v x.fst x.snd (omega arith) w (omega arith)

abbrev none : Pair
none = record { fst = 0; snd = 0 }

pub pair_at_put_pairs_below : (l : List ℕ) (v : ℕ) (ps : List Pair) (w : ℕ) → w < v → v + length ps ≤ 512 → pair_at (put_pairs l v ps) w ≡ pair_at l w
unfolding pair_at
pair_at_put_pairs_below l v ps w a b = pair≡ (start_at_put_pairs l v ps w a b) (left_at_put_pairs l v ps w a b)

pair_at_put_pair : (l : List ℕ) (v : ℕ) (x : Pair) → v < 512 → area_size ≤ length l → pair_at (put_pair l v x.fst x.snd) v ≡ x
unfolding pair_at
pair_at_put_pair l v x h z = pair≡ (start_at_put_pair l v x.fst x.snd h z) (left_at_put_pair l v x.fst x.snd h z)

pub pair_at_put_pairs : (l : List ℕ) (v : ℕ) (ps : List Pair) (j : ℕ) → area_size ≤ length l → v + length ps ≤ 512 → j < length ps → pair_at (put_pairs l v ps) (v + j) ≡ get_or ps j none
unfolding put_pairs
pair_at_put_pairs l v [] j z b h = absurd (omega arith)
pair_at_put_pairs l v (x ∷ ps) zero z b h =
    rw (add-zero v)
    (pair_at_put_pairs_below (put_pair l v x.fst x.snd) (suc v) ps v (omega arith) (omega arith) ∙ pair_at_put_pair l v x (omega arith) z)
pair_at_put_pairs l v (x ∷ ps) (suc j) z b h =
    let e : v + suc j ≡ suc v + j = omega arith in
    rw e (pair_at_put_pairs (put_pair l v x.fst x.snd) (suc v) ps j (rw length_put_pair z) (omega arith) (omega arith))

-- ---- carry

pub carry_none : (l : List ℕ) (f m h : ℕ) → m ≡ 2 * h → l ≡ carried l f m h
unfolding carried
carry_none l f m h e = rw (eq-eqb m (2 * h) e)

pub carry_one : (l o : List ℕ) (f m h s : ℕ) → m ≢ 2 * h → s ≡ sig_at l (f + 2 * h) → o ≡ put_sig l (f + h) s → o ≡ carried l f m h
unfolding carried
carry_one l o f m h s d es eo = rw (ne_eqb m (2 * h) d, ← es) eo

module _ (z f m h : ℕ) (P : (area_size ≤ z) × (f + m ≤ 2048) × (2 * h ≤ m)) where
  pub carry_double : Fits w64 (2 * h)
  carry_double = record { fits = omega (arith, P.1, P.2) }

  pub carry_place : Fits w64 (f + 2 * h)
  carry_place = record { fits = omega (arith, P.1, P.2) }

  pub carry_sum : Fits w64 (f + h)
  carry_sum = record { fits = omega (arith, P.1, P.2) }

  module _ (d : m ≢ 2 * h) where
    pub carry_last : (f + 2 * h < 2048) × (area_size ≤ z)
    carry_last = (omega (arith, P.1, P.2, d), P.0)

    pub carry_to : (f + h < 2048) × (area_size ≤ z)
    carry_to = (omega (arith, P.1, P.2, d), P.0)

-- ---- join_round

far : (l : List ℕ) (f v j k : ℕ) → v + j ≤ 512 → f + j ≤ k → k < 2048 → sig_at (joined_to l f v j) k ≡ sig_at l k
unfolding joined_to
far l f v j k n a b =
    let even = length_front l f (2 * j) in
    sig_at_put_list_after (put_pairs l v (round_pairs (front l f (2 * j)))) f (round_left v (front l f (2 * j))) k (omega (arith, left_length v j (front l f (2 * j)) even))
    ∙ sig_at_put_pairs l v (round_pairs (front l f (2 * j))) k (omega (arith, pairs_length j (front l f (2 * j)) even)) b

-- the words after a round over m signals from place f on
module _ (l : List ℕ) (f v m : ℕ) (nodes : v + m / 2 ≤ 512) (place : f + m ≤ 2048) where
  even_front : length (front l f (2 * (m / 2))) ≡ 2 * (m / 2)
  even_front = length_front l f (2 * (m / 2))

  pub round_words : carried (joined_to l f v (m / 2)) f m (m / 2) ≡ put_list (put_pairs l v (round_pairs (front l f m))) f (round_left v (front l f m))
  unfolding joined_to carried put_list
  round_words = elim (ℕ_discrete m (2 * (m / 2))) [
    | yes e ↦ rw (eq-eqb m (2 * (m / 2)) e) (ap (λ x. put_list (put_pairs l v (round_pairs (front l f x))) f (round_left v (front l f x))) (sym e))
    | no e ↦ (let q : m ≡ suc (2 * (m / 2)) = omega arith in
        let x = sig_at l (f + 2 * (m / 2)) in
        let fr : front l f m ≡ front l f (2 * (m / 2)) ++ (sig_at l (f + 2 * (m / 2)) ∷ []) = ap (front l f) q ∙ front_suc l f (2 * (m / 2)) in
        let z = far l f v (m / 2) (f + 2 * (m / 2)) nodes (omega arith) (omega arith) in
        rw (
          ne_eqb m (2 * (m / 2)) e,
          fr,
          left_odd v (front l f (2 * (m / 2))) x (m / 2) even_front,
          pairs_odd (front l f (2 * (m / 2))) x (m / 2) even_front,
          put_list_append,
          left_length v (m / 2) (front l f (2 * (m / 2))) even_front,
        )
        (ap (put_sig (put_list (put_pairs l v (round_pairs (front l f (2 * (m / 2))))) f (round_left v (front l f (2 * (m / 2))))) (f + m / 2)) z))
  ]

  pub round_left_lem : length (round_left v (front l f m)) ≡ m - m / 2
  round_left_lem = elim (ℕ_discrete m (2 * (m / 2))) [
    | yes e ↦ omega (arith, left_length v (m / 2) (front l f m) (length_front l f m ∙ e))
    | no e ↦ (let q : m ≡ suc (2 * (m / 2)) = omega arith in
        let x = sig_at l (f + 2 * (m / 2)) in
        let r : round_left v (front l f m) ≡ round_left v (front l f (2 * (m / 2))) ++ (x ∷ []) =
        ap (round_left v) (ap (front l f) q ∙ front_suc l f (2 * (m / 2))) ∙ left_odd v (front l f (2 * (m / 2))) x (m / 2) even_front in
        rw (r, length-append) (omega (arith, left_length v (m / 2) (front l f (2 * (m / 2))) even_front)))
  ]

  pub round_pairs_lem : length (round_pairs (front l f m)) ≡ m / 2
  round_pairs_lem = elim (ℕ_discrete m (2 * (m / 2))) [
    | yes e ↦ pairs_length (m / 2) (front l f m) (length_front l f m ∙ e)
    | no e ↦ (let q : m ≡ suc (2 * (m / 2)) = omega arith in
        ap length (ap (λ x. round_pairs (front l f x)) q ∙ ap round_pairs (front_suc l f (2 * (m / 2))) ∙ pairs_odd (front l f (2 * (m / 2))) _ (m / 2) even_front)
        ∙ pairs_length (m / 2) (front l f (2 * (m / 2))) even_front)
  ]

-- ---- the state after a round

tab_is : (f : ℕ → Pair) (ps : List Pair) (n : ℕ) → length ps ≡ n → ((j : ℕ) → j < n → f j ≡ get_or ps j none) → tab f n ≡ ps
tab_is f ps n e h =
    ext_get_or none (tab f n) ps (length_tab f n ∙ sym e) (λ i k. let q : i < n = rw length_tab at k in get_or_tab f n i none q ∙ h i q)

lists_set_list : (l : List ℕ) (g i : ℕ) (m : List ℕ) → Laid l g → i < g → length m ≤ left_at l i → lists_of (set_list l i m) g ≡ set (lists_of l g) i m
unfolding lists_of
lists_set_list l g i m h k r =
    ext_get_or [] (tab (list_at (set_list l i m)) g) (set (tab (list_at l) g) i m) (rw length-set (length_tab _ g ∙ sym (length_tab (list_at l) g)))
    (λ w v. let q : w < g = rw length_tab at v in
    get_or_tab (list_at (set_list l i m)) g w [] q
    ∙ elim (ℕ_discrete w i) [
      | yes e ↦ rw e (list_at_set_list l g i m h k r ∙ sym (get_or-set_same (tab (list_at l) g) i m [] (rw length_tab k)))
      | no e ↦ (list_at_set_list_other l g i m h k r w q e ∙ sym (get_or-set_other (tab (list_at l) g) i w m [] e ∙ get_or_tab (list_at l) g w [] q))
    ])

list_words : (l : List ℕ) (i v : ℕ) → v + left_at l i / 2 ≤ 512 → start_at l i + left_at l i ≤ 2048
    → carried (joined_to l (start_at l i) v (left_at l i / 2)) (start_at l i) (left_at l i) (left_at l i / 2) ≡ put_list (put_pairs l v (round_pairs (list_at l i))) (start_at l i) (round_left v (list_at l i))
unfolding list_at
list_words l i v a b = round_words l (start_at l i) v (left_at l i) a b

module _ (l : List ℕ) (g n k i : ℕ) (h : Ready l g n k (k + left_at l i / 2)) (v : i < g) where
  nodes : n + k + left_at l i / 2 ≤ 512
  nodes = omega (arith, h.nodes)

  place : start_at l i + left_at l i ≤ 2048
  place = h.laid.ends i v

  len_left : length (round_left (n + k) (list_at l i)) ≡ left_at l i - left_at l i / 2
  unfolding list_at
  len_left = round_left_lem l (start_at l i) (n + k) (left_at l i) nodes place

  len_pairs : length (round_pairs (list_at l i)) ≡ left_at l i / 2
  unfolding list_at
  len_pairs = round_pairs_lem l (start_at l i) (n + k) (left_at l i) nodes place

  below : n + k + length (round_pairs (list_at l i)) ≤ 512
  below = omega (arith, nodes, len_pairs)

  old : g ≤ n + k
  old = omega (arith, h.old)

  laid_X : Laid (put_pairs l (n + k) (round_pairs (list_at l i))) g
  laid_X = laid_put_pairs g l (n + k) (round_pairs (list_at l i)) h.laid old below

  left_X : length (round_left (n + k) (list_at l i)) ≤ left_at (put_pairs l (n + k) (round_pairs (list_at l i))) i
  left_X = rw (left_at_put_pairs l (n + k) (round_pairs (list_at l i)) i (omega (arith, old)) below) (omega (arith, len_left))

  pairs_X : (w : ℕ) → g ≤ w → w < 512 → pair_at (set_list (put_pairs l (n + k) (round_pairs (list_at l i))) i (round_left (n + k) (list_at l i))) w ≡ pair_at (put_pairs l (n + k) (round_pairs (list_at l i))) w
  unfolding pair_at
  pairs_X w a b =
      pair≡
      (start_at_set_list _ g i (round_left (n + k) (list_at l i)) laid_X v left_X w b)
      (left_at_set_list_other _ g i (round_left (n + k) (list_at l i)) laid_X v left_X w (omega arith))

  built_round : tab (λ j. pair_at (set_list (put_pairs l (n + k) (round_pairs (list_at l i))) i (round_left (n + k) (list_at l i))) (n + j)) (k + left_at l i / 2)
      ≡ tab (λ j. pair_at l (n + j)) k ++ round_pairs (list_at l i)
  built_round =
      tab_append _ k (left_at l i / 2)
      ∙ ap₂ ◌++◌
      (tab_ext _ _ k (λ j q. pairs_X (n + j) (omega (arith, h.old)) (omega (arith, nodes)) ∙ pair_at_put_pairs_below l (n + k) (round_pairs (list_at l i)) (n + j) (omega arith) below))
      (tab_is _ (round_pairs (list_at l i)) (left_at l i / 2) len_pairs (λ j q.
      let e : n + (k + j) ≡ n + k + j = omega arith in
      rw e (pairs_X (n + k + j) (omega (arith, h.old)) (omega (arith, nodes)) ∙ pair_at_put_pairs l (n + k) (round_pairs (list_at l i)) j h.laid.long below (rw len_pairs q))))

  round_state : state_of (set_list (put_pairs l (n + k) (round_pairs (list_at l i))) i (round_left (n + k) (list_at l i))) g n (k + left_at l i / 2) ≡ join_round (state_of l g n k) i
  unfolding state_of join_round
  round_state =
      let e : get_or (lists_of l g) i [] ≡ list_at l i = get_or_lists l g i v in
      rw e
      (state≡
      (lists_set_list _ g i (round_left (n + k) (list_at l i)) laid_X v left_X ∙ ap (λ x. set x i (round_left (n + k) (list_at l i))) (lists_put_pairs g l (n + k) (round_pairs (list_at l i)) h.laid old below))
      (omega (arith, len_pairs))
      built_round)

  -- the code
  pub round_gate : (y : ℕ) → y ≡ length l → (i < 512) × (area_size ≤ y)
  round_gate y e = (omega (arith, h.laid.few), rw e h.laid.long)

  pub round_node : Fits w64 (n + k)
  round_node = record { fits = omega (arith, nodes) }

  module _ (f m : ℕ) (ef : f ≡ start_at l i) (em : m ≡ left_at l i) where
    pub round_joins : (area_size ≤ length l) × (f + 2 * (m / 2) ≤ 2048) × (n + k + m / 2 ≤ 512)
    round_joins = (h.laid.long, omega (arith, place), rw em nodes)

    pub round_carries : (y : ℕ) → y ≡ length l → (area_size ≤ y) × (f + m ≤ 2048) × (2 * (m / 2) ≤ m)
    round_carries y e = (rw e h.laid.long, omega (arith, place), omega arith)

    pub round_less : m / 2 ≤ m
    round_less = omega arith

    pub round_word : Fits w32 (m - m / 2)
    round_word = record { fits = omega (arith, place) }

    pub round_count : Fits w64 (k + m / 2)
    round_count = record { fits = omega (arith, round_joins.2) }

    module _ (m1 m2 : List ℕ) (e1 : m1 ≡ joined_to l f (n + k) (m / 2)) where
      pub round_done : (m3 : List ℕ) → m2 ≡ carried m1 f m (m / 2) → m3 ≡ put_left m2 i (m - m / 2) → Joined l m3 g n k i (k + m / 2)
      unfolding set_list
      round_done m3 e2 e3 =
          let w : m2 ≡ put_list (put_pairs l (n + k) (round_pairs (list_at l i))) (start_at l i) (round_left (n + k) (list_at l i)) =
          e2 ∙ rw (e1, ef, em) (list_words l i (n + k) nodes place) in
          let p = start_at_put_pairs l (n + k) (round_pairs (list_at l i)) i (omega (arith, old)) below in
          let q : m3 ≡ set_list (put_pairs l (n + k) (round_pairs (list_at l i))) i (round_left (n + k) (list_at l i)) =
          e3 ∙ rw (p, len_left, ← w, em) in
          record {
            count = ap (λ x. k + x / 2) em;
            placed = rw q (record {
              laid = laid_set_list _ g i (round_left (n + k) (list_at l i)) laid_X v left_X;
              starts = λ w u.
                  start_at_set_list _ g i (round_left (n + k) (list_at l i)) laid_X v left_X w (omega (arith, h.laid.few))
                  ∙ start_at_put_pairs l (n + k) (round_pairs (list_at l i)) w (omega (arith, old)) below;
            });
            state = rw q round_state;
          }
