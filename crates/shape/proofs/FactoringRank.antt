-- A factoring pass leaves no loop: ranks of the grown network. A new node's top is the greatest of its pair's, an old node's its number
-- and one, an input's 0; a gate's list only ever holds signals whose top is at most the gate's own number.
use Prim.Native.Nat.{max, suc, zero, ℕ, ◌*◌, ◌+◌, ◌-◌, ◌<◌, ◌≤◌}
use mathlib.Core.Path.{ap, refl, subst, sym, ◌∙◌, ◌≡◌}
use mathlib.Core.Logic.{inl, inr}
use mathlib.Core.Bool.{Bool, cond, false, not, true, ◌&&◌, ◌||◌}
use mathlib.Core.List.{List, [], map, ◌++◌, ◌∷◌}
use native.Mathlib.Omega.{arith}
use native.Mathlib.Decide.{dec_lt}
use native.Mathlib.Nat.{add-zero, le_of_suc-le-suc, le_refl, mul-le-mul_right, not-suc-le-zero}
use lib.ListN.{get_or, length, length-append, set}
use lib.Dec.{eqb}
use borrow.Author.Tests.{eq-eqb, ne_eqb}
use Rattle.kinds.specs.Kinds.{kind_of}
use Rattle.laws.specs.Lists.{All}
use Rattle.model.specs.Gate.{Gate, Net, Valid, all_below, all_shaped, is_dff, is_topo_sorted, no_gate, shaped, size, sorted_from}
use Rattle.model.specs.Network.{has, sorts}
use Rattle.model.specs.Normal.{gate_of}
use Rattle.model.specs.Sharing.{Pair, State, exclusive_signals, factoring, give_back, grown, holds, join_round, once, pair_gate, replace_in, replace_pair, replaced, retain, round_left, round_pairs, shared_signals, take_out, taken, takes}
use Rattle.model.specs.Signal.{Ref, from_var, ref, rinput, rnode, rzero}
use Rattle.shape.specs.Forms.{Ranked}
use Rattle.shape.specs.Room.{room_of}
use Rattle.laws.proofs.Bools.{and_left, and_right}
use Rattle.laws.proofs.Choices.{by_bool, clash}
use Rattle.laws.proofs.Lists.{all_append, all_map}
use Rattle.model.proofs.Names.{In, Names, below_in, input_names, node_names}
use Rattle.model.proofs.Words.{input_ref, node_ref}
use Rattle.shape.proofs.DedupNormal.{dff_is}
use Rattle.shape.proofs.FactoringEnds.{factoring_parts, given, paired}
use Rattle.shape.proofs.FactoringFuel.{TwoIn}
use Rattle.shape.proofs.FactoringLists.{retain_all, take_out_all}
use Rattle.shape.proofs.FactoringGrown.{ended, grown_nodes, grown_sound, length_replaced, size_grown, valid_grown}
use Rattle.shape.proofs.FactoringSound.{Known, Rising}
use Rattle.shape.proofs.FactoringSteps.{all_pairs_keeps, consume_keeps, joins_keep}
use Rattle.shape.proofs.Members.{all_has}
use Rattle.shape.proofs.Named.{Here, here_node}
use Rattle.shape.proofs.Sort.{ranked_sorts}
use Rattle.shape.proofs.Wires.{wired_inside}
use Rattle.kinds.specs.declared.Family.{Family}
use Rattle.kinds.specs.declared.Family.TheVariants.{And, Xor}
use Rattle.kinds.specs.declared.Kind.TheVariants.{Dff}

-- ---- tops

abbrev top_ref : (ℕ → ℕ) → Ref → ℕ
top_ref T rzero = 0
top_ref T (rnode w) = T w
top_ref T (rinput k) = 0

unfoldable top_of : (ℕ → ℕ) → ℕ → ℕ
top_of T s = top_ref T (ref s)

-- node b built of the pair x, and the nodes from b on of the pairs ps
unfoldable grow : (ℕ → ℕ) → ℕ → Pair → ℕ → ℕ
grow T b x v = cond (eqb v b) (max (top_of T x.fst) (top_of T x.snd)) (T v)

abbrev tops : (ℕ → ℕ) → ℕ → List Pair → ℕ → ℕ
tops T b [] = T
tops T b (x ∷ ps) = tops (grow T b x) (suc b) ps

-- a signal that names nodes below b only, whose tops are at most n
abbrev Under : (ℕ → ℕ) → ℕ → ℕ → ℕ → Type 0
Under T b n s = Names (λ m. (m < b) × (T m ≤ n)) s

-- a node's signal names no other node
var_names : (P : ℕ → Type 0) (v : ℕ) → P v → Names P (from_var v)
var_names P v p m e = elim (dec_lt v 1073741823) [
  | yes l ↦ node_names P (from_var v) v (node_ref v l) p m e
  | no l ↦ input_names (input_ref (from_var v) (omega arith)) e
]

top_le : (T : ℕ → ℕ) (n s : ℕ) → Names (λ m. T m ≤ n) s → top_of T s ≤ n
unfolding top_of
top_le T n s h = go (ref s) refl
  where
    go : (r : Ref) → ref s ≡ r → top_ref T r ≤ n
    go rzero e = omega arith
    go (rnode m) e = h m e
    go (rinput k) e = omega arith

top_node : (T : ℕ → ℕ) (s m : ℕ) → ref s ≡ rnode m → top_of T s ≡ T m
unfolding top_of
top_node T s m e = ap (top_ref T) e

grow_same : (T : ℕ → ℕ) (b : ℕ) (x : Pair) → grow T b x b ≡ max (top_of T x.fst) (top_of T x.snd)
unfolding grow
grow_same T b x = rw (eq-eqb b b refl)

grow_other : (T : ℕ → ℕ) (b : ℕ) (x : Pair) (v : ℕ) → v < b → grow T b x v ≡ T v
unfolding grow
grow_other T b x v h = rw (ne_eqb v b (λ e. omega arith))

tops_below : (T : ℕ → ℕ) (b : ℕ) (ps : List Pair) (v : ℕ) → v < b → tops T b ps v ≡ T v
tops_below T b [] v h = refl
tops_below T b (x ∷ ps) v h = tops_below (grow T b x) (suc b) ps v (omega arith) ∙ grow_other T b x v h

tops_append : (T : ℕ → ℕ) (b : ℕ) (ps qs : List Pair) → tops T b (ps ++ qs) ≡ tops (tops T b ps) (b + length ps) qs
tops_append T b [] qs = ap (λ k. tops T k qs) (sym (add-zero b))
tops_append T b (x ∷ ps) qs =
    let e : suc b + length ps ≡ b + suc (length ps) = omega arith in
    tops_append (grow T b x) (suc b) ps qs ∙ ap (λ k. tops (tops (grow T b x) (suc b) ps) k qs) e

under_grow : (T : ℕ → ℕ) (b n : ℕ) (x : Pair) (s : ℕ) → Under T b n s → Under (grow T b x) (suc b) n s
under_grow T b n x s u m e =
    let l = (u m e).0 in
    let h = (u m e).1 in
    (omega arith, rw (grow_other T b x m l) h)

under_new : (T : ℕ → ℕ) (b n : ℕ) (x : Pair) → Under T b n x.fst → Under T b n x.snd → Under (grow T b x) (suc b) n (from_var b)
under_new T b n x p q =
    let g = top_le T n x.fst (λ m e. (p m e).1) in
    let h = top_le T n x.snd (λ m e. (q m e).1) in
    var_names (λ m. (m < suc b) × (grow T b x m ≤ n)) b (omega arith, rw (grow_same T b x) (omega arith))

under_tops : (T : ℕ → ℕ) (b n : ℕ) (ps : List Pair) (s : ℕ) → Under T b n s → Under (tops T b ps) (b + length ps) n s
under_tops T b n ps s u m e =
    let l = (u m e).0 in
    let h = (u m e).1 in
    (omega arith, rw (tops_below T b ps m l) h)

-- ---- a relation of each gate's number to its list

abbrev Along : (ℕ → List ℕ → Type 0) → List ℕ → List (List ℕ) → Type 0
Along R [] ls = Unit
Along R (n ∷ ns) [] = Unit
Along R (n ∷ ns) (l ∷ ls) = R n l × Along R ns ls

module _ (R S : ℕ → List ℕ → Type 0) where
  along_map : (f : List ℕ → List ℕ) → ((n : ℕ) (l : List ℕ) → R n l → S n (f l)) → (ns : List ℕ) (ls : List (List ℕ)) → Along R ns ls → Along S ns (map f ls)
  along_map f h [] ls a = tt
  along_map f h (n ∷ ns) [] a = tt
  along_map f h (n ∷ ns) (l ∷ ls) a = (h n l a.0, along_map f h ns ls a.1)

  along_all : ((n : ℕ) (l : List ℕ) → R n l → S n l) → (ns : List ℕ) (ls : List (List ℕ)) → Along R ns ls → Along S ns ls
  along_all h [] ls a = tt
  along_all h (n ∷ ns) [] a = tt
  along_all h (n ∷ ns) (l ∷ ls) a = (h n l a.0, along_all h ns ls a.1)

  along_set : ((n : ℕ) (l : List ℕ) → R n l → S n l) → (ns : List ℕ) (ls : List (List ℕ)) (i : ℕ) (m : List ℕ)
      → ((n : ℕ) → R n (get_or ls i []) → S n m) → Along R ns ls → Along S ns (set ls i m)
  along_set h [] ls i m k a = tt
  along_set h (n ∷ ns) [] i m k a = tt
  along_set h (n ∷ ns) (l ∷ ls) zero m k a = (k n a.0, along_all h ns ls a.1)
  along_set h (n ∷ ns) (l ∷ ls) (suc i) m k a = (h n l a.0, along_set h ns ls i m k a.1)

along_given : (R : ℕ → ℕ → Type 0) (ns : List ℕ) (ls os : List (List ℕ)) → Along (λ n. All (R n)) ns ls → Along (λ n. All (R n)) ns os → Along (λ n. All (R n)) ns (give_back ls os)
unfolding give_back
along_given R [] ls os a b = tt
along_given R (n ∷ ns) [] os a b = tt
along_given R (n ∷ ns) (l ∷ ls) [] a b = a
along_given R (n ∷ ns) (l ∷ ls) (o ∷ os) a b = (all_append (R n) l o a.0 b.0, along_given R ns ls os a.1 b.1)

-- ---- the pass keeps each list under its gate's number

module _ (n₀ : ℕ) (ns : List ℕ) where
  abbrev Unders : List Pair → ℕ → ℕ → List ℕ → Type 0
  Unders ps b n = All (Under (tops suc n₀ ps) b n)

  record Topped (s : State) : Type 0 where
    next_is : s.next ≡ n₀ + length s.built
    under : Along (Unders s.built s.next) ns s.lists

  -- a pair replaced
  under_replace : (T : ℕ → ℕ) (b n p q : ℕ) (l : List ℕ) → All (Under T b n) l → All (Under (grow T b (record { fst = p; snd = q })) (suc b) n) (replace_in p q (from_var b) l)
  unfolding replace_in holds
  under_replace T b n p q l u =
      let x : Pair = record { fst = p; snd = q } in
      by_bool (has p l && has q l)
      (λ e. rw e
      (all_append (Under (grow T b x) (suc b) n) (take_out p q l) (from_var b ∷ [])
      (all_map (take_out p q l) (λ s. under_grow T b n x s) (take_out_all (Under T b n) p q l u))
      (under_new T b n x (all_has (Under T b n) l p u (and_left (has p l) (has q l) e)) (all_has (Under T b n) l q u (and_right (has p l) (has q l) e)), tt)))
      (λ e. rw e (all_map l (λ s. under_grow T b n x s) u))

  topped_replace : (s : State) (a b : ℕ) → TwoIn a b s.lists → Topped s → Topped (replace_pair s a b)
  unfolding replace_pair
  topped_replace s a b t h =
      let e = h.next_is in
      let x : Pair = record { fst = a; snd = b } in
      let q : tops suc n₀ (s.built ++ (x ∷ [])) ≡ grow (tops suc n₀ s.built) s.next x = rw e (tops_append suc n₀ s.built (x ∷ [])) in
      record {
        next_is = rw length-append (omega arith);
        under =
            subst (λ (T : ℕ → ℕ). Along (λ n. All (Under T (suc s.next) n)) ns (map (replace_in a b (from_var s.next)) s.lists)) (sym q)
            (along_map (Unders s.built s.next) (λ n. All (Under (grow (tops suc n₀ s.built) s.next x) (suc s.next) n)) (replace_in a b (from_var s.next))
            (λ n l. under_replace (tops suc n₀ s.built) s.next n a b l) ns s.lists h.under);
      }

  -- a round of joins
  under_round : (T : ℕ → ℕ) (b n : ℕ) (l : List ℕ) → All (Under T b n) l → All (Under (tops T b (round_pairs l)) (b + length (round_pairs l)) n) (round_left b l)
  unfolding round_left round_pairs
  under_round T b n [] u = tt
  under_round T b n (x ∷ []) u = rw (add-zero b) u
  under_round T b n (x ∷ y ∷ l) u =
      let p : Pair = record { fst = x; snd = y } in
      let e : b + suc (length (round_pairs l)) ≡ suc b + length (round_pairs l) = omega arith in
      let t : All (Under (tops (grow T b p) (suc b) (round_pairs l)) (suc b + length (round_pairs l)) n) (from_var b ∷ round_left (suc b) l) = (
        under_tops (grow T b p) (suc b) n (round_pairs l) (from_var b) (under_new T b n p u.0 u.1.0),
        under_round (grow T b p) (suc b) n l (all_map l (λ s. under_grow T b n p s) u.1.1),
      ) in
      subst (λ (m : ℕ). All (Under (tops (grow T b p) (suc b) (round_pairs l)) m n) (from_var b ∷ round_left (suc b) l)) (sym e) t

  topped_round : (s : State) (i : ℕ) → Topped s → Topped (join_round s i)
  unfolding join_round
  topped_round s i h =
      let l = get_or s.lists i [] in
      let ps = round_pairs l in
      let T = tops suc n₀ s.built in
      let e = h.next_is in
      let q : tops suc n₀ (s.built ++ ps) ≡ tops T s.next ps = rw e (tops_append suc n₀ s.built ps) in
      record {
        next_is = rw length-append (omega arith);
        under =
            subst (λ (U : ℕ → ℕ). Along (λ n. All (Under U (s.next + length ps) n)) ns (set s.lists i (round_left s.next l))) (sym q)
            (along_set (Unders s.built s.next) (λ n. All (Under (tops T s.next ps) (s.next + length ps) n))
            (λ n m. all_map m (λ x. under_tops T s.next n ps x)) ns s.lists i (round_left s.next l)
            (λ n. under_round T s.next n l) h.under);
      }

  -- the whole pass
  module _ (gs : List (List ℕ)) (old : Along (Unders [] n₀) ns gs) where
    retained : (t : ℕ → Bool) → Along (Unders [] n₀) ns (map (retain t) gs)
    retained t = along_map (Unders [] n₀) (Unders [] n₀) (retain t) (λ n l. retain_all (Under suc n₀ n) t l) ns gs old

    paired_topped : Topped (paired gs n₀)
    unfolding paired shared_signals
    paired_topped =
        all_pairs_keeps Topped topped_replace _
        (consume_keeps Topped topped_replace _ (length gs)
        (record { next_is = omega arith; under = retained (λ x. not (once gs x)) }))

    given_topped : Topped (given gs n₀)
    unfolding given exclusive_signals
    given_topped =
        let s = paired gs n₀ in
        let h = paired_topped in
        let e = h.next_is in
        record {
          next_is = e;
          under =
              along_given (Under (tops suc n₀ s.built) s.next) ns s.lists (map (retain (once gs)) gs) h.under
              (along_all (Unders [] n₀) (Unders s.built s.next) (λ n l. all_map l (λ x u. rw e (under_tops suc n₀ n s.built x u))) ns (map (retain (once gs)) gs) (retained (once gs)));
        }

    factoring_topped : Topped (factoring gs n₀)
    factoring_topped = rw (factoring_parts gs n₀) (joins_keep Topped topped_round (given gs n₀) (length gs) given_topped)

-- ---- the gates by their numbers

-- the numbers of the gates of the pass, those of gs being v, v + 1, ..
abbrev numbers : Family → ℕ → List Gate → List ℕ
numbers f v [] = []
numbers f v (g ∷ gs) = cond (takes f g) (v ∷ numbers f (suc v) gs) (numbers f (suc v) gs)

abbrev From : (ℕ → Gate → Type 0) → ℕ → List Gate → Type 0
From F v [] = Unit
From F v (g ∷ gs) = F v g × From F (suc v) gs

from_append : (F : ℕ → Gate → Type 0) (v : ℕ) (gs hs : List Gate) → From F v gs → From F (v + length gs) hs → From F v (gs ++ hs)
from_append F v [] hs a b = rw (add-zero v) at b
from_append F v (g ∷ gs) hs a b =
    let e : v + suc (length gs) ≡ suc v + length gs = omega arith in
    (a.0, from_append F (suc v) gs hs a.1 (rw e at b))

from_at : (F : ℕ → Gate → Type 0) (v : ℕ) (gs : List Gate) → From F v gs → (n : ℕ) → n < length gs → F (v + n) (get_or gs n no_gate)
from_at F v [] a n h = absurd (not-suc-le-zero h)
from_at F v (g ∷ gs) a zero h = rw (add-zero v) a.0
from_at F v (g ∷ gs) a (suc n) h =
    let e : v + suc n ≡ suc v + n = omega arith in
    rw e (from_at F (suc v) gs a.1 n (le_of_suc-le-suc h))

-- no gate of a pass is a flip-flop
taken_comb : (f : Family) (g : Gate) → shaped g ≡ true → takes f g ≡ true → is_dff g ≡ false
unfolding kind_of
taken_comb f g h t = by_bool (is_dff g) (λ d. clash t (ap (takes f) (dff_is g h d) ∙ none f)) (λ d. d)
  where
    none : (f : Family) → takes f (gate_of Dff g.ins) ≡ false
    none And = refl
    none Xor = refl

-- each combinational gate of a sorted list names nodes below its own number
head_below : (v : ℕ) (g : Gate) (gs : List Gate) → sorted_from v (g ∷ gs) ≡ true → is_dff g ≡ false → In (λ m. m < v) g.ins
unfolding sorted_from
head_below v g gs h d =
    let e : (is_dff g || all_below v g.ins) ≡ true = and_left _ _ h in
    let b : all_below v g.ins ≡ true = rw d at e in
    below_in v g.ins b

tail_sorted : (v : ℕ) (g : Gate) (gs : List Gate) → sorted_from v (g ∷ gs) ≡ true → sorted_from (suc v) gs ≡ true
unfolding sorted_from
tail_sorted v g gs h = and_right (is_dff g || all_below v g.ins) _ h

module _ (f : Family) (n₀ : ℕ) where
  under_taken : (v : ℕ) (gs : List Gate) → v + length gs ≤ n₀ → all_shaped gs ≡ true → sorted_from v gs ≡ true → Along (λ n. All (Under suc n₀ n)) (numbers f v gs) (taken f gs)
  unfolding taken all_shaped
  under_taken v [] few h s = tt
  under_taken v (g ∷ gs) few h s =
      let ih = under_taken (suc v) gs (omega arith) (and_right (shaped g) (all_shaped gs) h) (tail_sorted v g gs s) in
      by_bool (takes f g)
      (λ e. rw e (
        all_map g.ins (λ x (b : Names (λ m. m < v) x) m q. (let l = b m q in omega arith, b m q))
            (head_below v g gs s (taken_comb f g (and_left (shaped g) (all_shaped gs) h) e)),
        ih,
      ))
      (λ e. rw e ih)

-- ---- ranks

-- each pair names nodes below its own, whose tops are at most its own
abbrev Ranks : (ℕ → ℕ) → ℕ → List Pair → Type 0
Ranks T b [] = Unit
Ranks T b (x ∷ ps) = (Under T b (T b) x.fst × Under T b (T b) x.snd) × Ranks T (suc b) ps

known_below : (i n₀ n x : ℕ) → n₀ ≤ n → Known (Here i n₀) n₀ n x → Names (λ m. m < n) x
known_below i n₀ n x h (inl p) m e = omega (arith, here_node i n₀ x m p e)
known_below i n₀ n x h (inr (v, a, b, q)) m e = var_names (λ m. m < n) v b m (rw q at e)

ranks_tops : (i n₀ : ℕ) (T : ℕ → ℕ) (b : ℕ) (ps : List Pair) → n₀ ≤ b → Rising (Here i n₀) n₀ b ps → Ranks (tops T b ps) b ps
ranks_tops i n₀ T b [] h r = tt
ranks_tops i n₀ T b (x ∷ ps) h r = (
  (under x.fst (known_below i n₀ b x.fst h r.0.0) (omega arith), under x.snd (known_below i n₀ b x.snd h r.0.1) (omega arith)),
  ranks_tops i n₀ (grow T b x) (suc b) ps (omega arith) r.1,
)
  where
    U : ℕ → ℕ
    U = tops (grow T b x) (suc b) ps

    top : U b ≡ max (top_of T x.fst) (top_of T x.snd)
    top = tops_below (grow T b x) (suc b) ps b (le_refl (suc b)) ∙ grow_same T b x

    under : (s : ℕ) → Names (λ m. m < b) s → top_of T s ≤ max (top_of T x.fst) (top_of T x.snd) → Under U b (U b) s
    under s low le m e =
        let l = low m e in
        (l, omega (arith, tops_below T b (x ∷ ps) m l, top_node T s m e, top))

module _ (f : Family) (N : Net) (ok : Valid N) (sorted : is_topo_sorted N ≡ true) (fits : length (ended f N).built ≤ room_of f N.nodes) where
  abbrev T : ℕ → ℕ
  T = tops suc (size N) (ended f N).built

  abbrev M : ℕ
  M = size (grown f N)

  rank : ℕ → ℕ
  rank v = T v * suc (length (ended f N).built) + (suc v - size N)

  abbrev Lower : ℕ → ℕ → Type 0
  Lower n m = (m < M) × (rank m < rank n)

  abbrev Falls : ℕ → Gate → Type 0
  Falls n g = is_dff g ≡ false → In (Lower n) g.ins

  old_lower : (n s : ℕ) → n < size N → Under T M n s → Names (Lower n) s
  unfolding rank
  old_lower n s h u m e =
      let l = (u m e).0 in
      let t = (u m e).1 in
      (l, rw (tops_below suc (size N) (ended f N).built n h) (omega (arith, mul-le-mul_right (suc (length (ended f N).built)) t, size_grown f N)))

  new_lower : (n s : ℕ) → size N ≤ n → n < M → Under T n (T n) s → Names (Lower n) s
  unfolding rank
  new_lower n s h k u m e =
      let l = (u m e).0 in
      let t = (u m e).1 in
      (omega arith, omega (arith, mul-le-mul_right (suc (length (ended f N).built)) t))

  -- a gate that stays names old nodes below it
  stays : (v : ℕ) (g : Gate) (gs : List Gate) → v + suc (length gs) ≤ size N → sorted_from v (g ∷ gs) ≡ true → Falls v g
  stays v g gs few s d =
      all_map g.ins (λ x (b : Names (λ m. m < v) x). old_lower v x (omega arith) (λ m e.
      let l = b m e in
      (omega (arith, size_grown f N), omega (arith, tops_below suc (size N) (ended f N).built m (omega arith)))))
      (head_below v g gs s d)

  kept : (v : ℕ) (gs : List Gate) → v + length gs ≤ size N → sorted_from v gs ≡ true → From Falls v gs
  kept v [] few s = tt
  kept v (g ∷ gs) few s = (stays v g gs few s, kept (suc v) gs (omega arith) (tail_sorted v g gs s))

  olds : (v : ℕ) (gs : List Gate) (ls : List (List ℕ)) → v + length gs ≤ size N → sorted_from v gs ≡ true → Along (λ n. All (Under T M n)) (numbers f v gs) ls → From Falls v (replaced f gs ls)
  unfolding replaced
  olds v [] ls few s a = tt
  olds v (g ∷ gs) [] few s a = kept v (g ∷ gs) few s
  olds v (g ∷ gs) (l ∷ ls) few s a = by_bool (takes f g)
      (λ e.
      let b : All (Under T M v) l × Along (λ n. All (Under T M n)) (numbers f (suc v) gs) ls = rw e at a in
      rw e ((λ d. all_map l (λ x. old_lower v x (omega arith)) b.0), olds (suc v) gs ls (omega arith) (tail_sorted v g gs s) b.1))
      (λ e.
      let b : Along (λ n. All (Under T M n)) (numbers f (suc v) gs) (l ∷ ls) = rw e at a in
      rw e (stays v g gs few s, olds (suc v) gs (l ∷ ls) (omega arith) (tail_sorted v g gs s) b))

  news : (b : ℕ) (ps : List Pair) → size N ≤ b → b + length ps ≤ M → Ranks T b ps → From Falls b (map (pair_gate f) ps)
  news b [] h k r = tt
  news b (x ∷ ps) h k r =
      ((λ d. (new_lower b x.fst h (omega arith) r.0.0, (new_lower b x.snd h (omega arith) r.0.1, tt))), news (suc b) ps (omega arith) (omega arith) r.1)

  topped : Topped (size N) (numbers f 0 N.nodes) (ended f N)
  unfolding ended is_topo_sorted
  topped = factoring_topped (size N) (numbers f 0 N.nodes) (taken f N.nodes) (under_taken f (size N) 0 N.nodes (omega arith) ok.gates_shaped sorted)

  all_fall : From Falls 0 (grown f N).nodes
  unfolding is_topo_sorted
  all_fall =
      let e : (ended f N).next ≡ M = topped.next_is ∙ sym (size_grown f N) in
      let q : 0 + length (replaced f N.nodes (ended f N).lists) ≡ size N = omega (arith, length_replaced f N.nodes (ended f N).lists) in
      subst (λ (gs : List Gate). From Falls 0 gs) (sym (grown_nodes f N))
      (from_append Falls 0 (replaced f N.nodes (ended f N).lists) (map (pair_gate f) (ended f N).built)
      (olds 0 N.nodes (ended f N).lists (omega arith) sorted (rw e at topped.under))
      (rw q
      (news (size N) (ended f N).built (le_refl (size N)) (omega (arith, size_grown f N))
      (ranks_tops N.inputs (size N) suc (size N) (ended f N).built (le_refl (size N)) (grown_sound f N ok fits).pairs_known))))

  -- NO LOOP: the grown network of a sorted one can be sorted
  grown_ranked : Ranked (grown f N) (λ v. v < M)
  grown_ranked = record { rank = rank; below = λ n h d. let e : 0 + n ≡ n = omega arith in (rw e at (from_at Falls 0 (grown f N).nodes all_fall n h)) d }

  pub grown_sorts : sorts (grown f N) ≡ true
  grown_sorts = ranked_sorts (grown f N) (wired_inside (grown f N) (valid_grown f N ok fits).signals) grown_ranked
