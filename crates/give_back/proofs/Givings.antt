-- Laws of give_back.
use Prim.Native.Nat.{ℕ, ◌+◌, ◌<◌, ◌≤◌}
use mathlib.Core.Path.{ap, ap₂, refl, sym, ◌∙◌, ◌≡◌}
use mathlib.Core.Logic.{inl, inr, ◌≢◌}
use mathlib.Core.Bool.{Bool, false, true}
use mathlib.Core.List.{List, [], map, ◌++◌}
use native.Mathlib.Omega.{arith}
use native.Mathlib.Nat.{le_refl}
use native.Mathlib.Numerals.{add-one}
use native.Mathlib.Decide.{dec_lt, ℕ_discrete}
use mir.Syntax.{w32, w64}
use mir.Val.{Fits}
use lib.ListN.{get_or, length, length-append}
use Rattle.model.specs.Sharing.{exclusive_signals, give_back, once, retain, takes}
use Rattle.pairs.specs.Lists.{area_size, left_at, list_at, lists_of, pair_at, put_left, put_list, start_at}
use Rattle.tables.specs.Layout.{gate_at, ins_at}
use Rattle.give_back.specs.Giving.{Givable, GivenBack, Gives, given_in}
use Rattle.uses.specs.Loading.{Picked, Picks, Says, lists_in, slot}
use Rattle.uses.specs.Uses.{is_once, wanted}
use Rattle.laws.proofs.Lists.{get_or_map_in, length_map}
use Rattle.pairs.proofs.Gates.{front_append, front_ext, front_is, get_or_lists, length_list, length_lists}
use Rattle.pairs.proofs.Places.{left_at_put_left, left_at_put_left_other, left_at_put_list, length_put_left, length_put_list, sig_at_put_left, sig_at_put_list, sig_at_put_list_before, start_at_put_left, start_at_put_list}
use Rattle.pairs.proofs.Stated.{pair≡}
use Rattle.shape.proofs.FactoringEnds.{get_or_given, length_given, split_length}
use Rattle.uses.proofs.Loads.{Written, lists_are, once_left, shared_of, written_other, written_says}
use Rattle.uses.proofs.Picking.{once_put_list, retain_ext}
use Rattle.uses.proofs.Slots.{lists_few, lists_next, lists_none, lists_skip, met, met_here, met_there, slot_apart, slot_room}
use Rattle.uses.proofs.Walks.{ins_named, source_few}
use Rattle.kinds.specs.declared.Family.{Family}

-- ---- give_gate

module _ (from l : List ℕ) (v i : ℕ) (G : Gives from l v i) where
  is_own : retain (wanted l true) (ins_at from v) ≡ retain (is_once l) (ins_at from v)
  unfolding wanted
  is_own = refl

  module _ (f m : ℕ) (ef : f ≡ start_at l i) (em : m ≡ left_at l i) where
    pub gives_place : Fits w64 (f + m)
    gives_place = record { fits = omega (arith, G.room) }

    pub gives_picks : Picks from l v (f + m) true
    gives_picks = record { node = G.node; long = G.long; room = rw is_own (omega (arith, G.room)) }

    module _ (x : List ℕ) (r : ℕ) (d : Picked from l x v (f + m) true r) where
      count : r ≡ length (retain (is_once l) (ins_at from v))
      count = rw (← is_own) d.count

      pub gives_left : Fits w64 (m + r)
      gives_left = record { fits = omega (arith, count, G.room) }

      pub gives_word : Fits w32 (m + r)
      gives_word = record { fits = omega (arith, count, G.room) }

      pub gives_long : area_size ≤ length x
      gives_long = rw (d.words, length_put_list) G.long

      pub gives_done : (o : List ℕ) → o ≡ put_left x i (m + r) → o ≡ given_in from l v i
      unfolding given_in
      gives_done o eo =
          let w : x ≡ put_list l (start_at l i + left_at l i) (retain (is_once l) (ins_at from v)) = d.words ∙ rw (is_own, ef, em) in
          rw (← count, ← w, ← em) eo

  pub gives_written : Written l (given_in from l v i) i (start_at l i + left_at l i) (retain (is_once l) (ins_at from v)) (start_at l i) (left_at l i + length (retain (is_once l) (ins_at from v)))
  unfolding given_in
  gives_written =
      let p = retain (is_once l) (ins_at from v) in
      let at = start_at l i + left_at l i in
      let x = put_list l at p in
      let n = left_at l i + length p in
      let z : area_size ≤ length x = rw length_put_list G.long in
      let fits : at + length p ≤ 2048 = G.room in
      record {
        long = length_put_left x i n ∙ length_put_list l at p;
        sigs = λ k h. sig_at_put_left x i n k h;
        start = start_at_put_left x i n i G.few ∙ start_at_put_list l at p i fits;
        left = left_at_put_left x i n G.few z;
        starts = λ w h d. start_at_put_left x i n w h ∙ start_at_put_list l at p w fits;
        lefts = λ w d. left_at_put_left_other x i n w d ∙ left_at_put_list l at p w fits;
        once_same = λ s h. once_left x i n s h ∙ once_put_list l at p s h;
      }

pub ruleset gate_gives = (gives_place, gives_picks, gives_left, gives_word, gives_long, gives_done)

-- ---- give_back

abbrev pub own_of : List (List ℕ) → ℕ → List ℕ
own_of gs w = retain (once gs) (get_or gs w [])

pub record Giving (f : Family) (from l₀ l : List ℕ) (n v i : ℕ) : Type 0 where
  pub upto : v ≤ n
  pub same : length l ≡ length l₀
  pub gates : i ≡ length (lists_in f from v)
  pub starts : (w : ℕ) → w < length (lists_in f from n) → start_at l w ≡ slot (lists_in f from n) w
  pub done : (w : ℕ) → w < i → list_at l w ≡ list_at l₀ w ++ own_of (lists_in f from n) w
  pub todo : (w : ℕ) → i ≤ w → w < length (lists_in f from n) → list_at l w ≡ list_at l₀ w
  pub pairs : (u : ℕ) → length (lists_in f from n) ≤ u → u < 512 → pair_at l u ≡ pair_at l₀ u
  pub counted : Says (lists_in f from n) l

pub give_start : (f : Family) (from l : List ℕ) (n : ℕ) → Givable (lists_in f from n) from l n → Giving f from l l n 0 0
give_start f from l n c = record {
  upto = omega arith;
  same = refl;
  gates = rw (lists_none f from);
  starts = c.starts;
  done = λ w h. absurd (omega arith);
  todo = λ w h k. refl;
  pairs = λ u h k. refl;
  counted = c.counted;
}

-- given back or not, a list stays in its slot
module _ (f : Family) (from l₀ l : List ℕ) (n v i : ℕ) (inv : Giving f from l₀ l n v i) (C : Givable (lists_in f from n) from l₀ n) where
  left_todo : (w : ℕ) → i ≤ w → w < length (lists_in f from n) → left_at l w ≤ length (shared_of (lists_in f from n) w)
  left_todo w h k = omega (arith, length_list l w, ap length (inv.todo w h k), length_list l₀ w, C.short w k)

  left_done : (w : ℕ) → w < i → w < length (lists_in f from n) → left_at l w ≤ length (get_or (lists_in f from n) w [])
  left_done w h k =
      let e : length (list_at l w) ≡ length (list_at l₀ w) + length (own_of (lists_in f from n) w) = ap length (inv.done w h) ∙ length-append (list_at l₀ w) (own_of (lists_in f from n) w) in
      omega (arith, length_list l w, length_list l₀ w, C.short w k, split_length (once (lists_in f from n)) (get_or (lists_in f from n) w []))

  left_in : (w : ℕ) → w < length (lists_in f from n) → left_at l w ≤ length (get_or (lists_in f from n) w [])
  left_in w k = elim (dec_lt w i) [
    | yes h ↦ left_done w h k
    | no h ↦ omega (arith, left_todo w (omega arith) k, split_length (once (lists_in f from n)) (get_or (lists_in f from n) w []))
  ]

  few : length (lists_in f from n) ≤ 512
  few = omega (arith, lists_few f from n, C.between.source.few)

  ends_in : (w : ℕ) → w < length (lists_in f from n) → start_at l w + left_at l w ≤ 2048
  ends_in w k = omega (arith, inv.starts w k, left_in w k, slot_room f from n w C.between.source.room k)

  module _ (h : v < n) where
    pub give_few : v < 512
    give_few = source_few from n v C.between.source h

    pub give_skip : (t : Bool) → t ≡ takes f (gate_at from v) → t ≡ false → Giving f from l₀ l n (v + 1) i
    give_skip t et q =
        let z : takes f (gate_at from v) ≡ false = sym et ∙ q in
        record {
          upto = omega arith;
          same = inv.same;
          gates = rw (add-one v, lists_skip f from v z) inv.gates;
          starts = inv.starts;
          done = inv.done;
          todo = inv.todo;
          pairs = inv.pairs;
          counted = inv.counted;
        }

    module _ (t : Bool) (et : t ≡ takes f (gate_at from v)) (q : t ≡ true) where
      here : get_or (lists_in f from n) i [] ≡ ins_at from v
      here = met_here f from v n h t et q i inv.gates

      there : i < length (lists_in f from n)
      there = met_there f from v n h t et q i inv.gates

      is_own_of : retain (is_once l) (ins_at from v) ≡ own_of (lists_in f from n) i
      is_own_of = rw here (retain_ext (is_once l) (once (lists_in f from n)) (ins_at from v) inv.counted.says (ins_named from v (C.between.source.nodes v h)))

      -- what is given back ends where the slot does
      slot_end : start_at l i + left_at l i + length (retain (is_once l) (ins_at from v)) ≤ slot (lists_in f from n) i + length (get_or (lists_in f from n) i [])
      slot_end =
          omega (arith, inv.starts i there, left_todo i (le_refl _) there, ap length is_own_of, split_length (once (lists_in f from n)) (get_or (lists_in f from n) i []))

      pub give_gate : Gives from l v i
      give_gate = record {
        node = C.between.source.nodes v h;
        long = omega (arith, C.between.long, inv.same);
        few = omega (arith, few, there);
        room = omega (arith, slot_end, slot_room f from n i C.between.source.room there);
      }

      pub give_i : Fits w64 (i + 1)
      give_i = record { fits = omega (arith, few, there) }

      W : Written l (given_in from l v i) i (start_at l i + left_at l i) (retain (is_once l) (ins_at from v)) (start_at l i) (left_at l i + length (retain (is_once l) (ins_at from v)))
      W = gives_written from l v i give_gate

      list_i : list_at (given_in from l v i) i ≡ list_at l i ++ retain (is_once l) (ins_at from v)
      unfolding list_at
      list_i =
          let p = retain (is_once l) (ins_at from v) in
          let s = start_at l i in
          let n' = left_at l i in
          rw (W.start, W.left)
          (front_append (given_in from l v i) s n' (length p)
          ∙ ap₂ ◌++◌
          (front_ext (given_in from l v i) l s n' (λ j k. W.sigs (s + j) (omega (arith, ends_in i there)) ∙ sig_at_put_list_before l (s + n') p (s + j) (omega arith)))
          (front_is (given_in from l v i) (s + n') p (λ j k. W.sigs (s + n' + j) (omega (arith, give_gate.room)) ∙ sig_at_put_list l (s + n') p j give_gate.long give_gate.room k)))

      list_w : (w : ℕ) → w < length (lists_in f from n) → w ≢ i → list_at (given_in from l v i) w ≡ list_at l w
      list_w w k d = elim (dec_lt w i) [
        | yes a ↦
            (let b = slot_apart (lists_in f from n) w i a (omega (arith, there)) in
            written_other l (given_in from l v i) i (start_at l i + left_at l i) (retain (is_once l) (ins_at from v)) (start_at l i) _ W w (omega (arith, few)) d (ends_in w k)
            (inl (omega (arith, left_in w k, inv.starts w k, inv.starts i there))))
        | no a ↦
            (let b = slot_apart (lists_in f from n) i w (omega arith) (omega arith) in
            written_other l (given_in from l v i) i (start_at l i + left_at l i) (retain (is_once l) (ins_at from v)) (start_at l i) _ W w (omega (arith, few)) d (ends_in w k)
            (inr (omega (arith, slot_end, inv.starts w k))))
      ]

      pub give_next : (m : List ℕ) → m ≡ given_in from l v i → length m ≡ length l → Giving f from l₀ m n (v + 1) (i + 1)
      unfolding pair_at
      give_next m em len =
          rw (em, add-one v, add-one i)
          (record {
            upto = h;
            same = ap length (sym em) ∙ len ∙ inv.same;
            gates = rw (lists_next f from v (met f from v n h t et q), length-append) (omega (arith, inv.gates));
            starts = λ w k. elim (ℕ_discrete w i) [
              | yes e ↦ rw e (W.start ∙ inv.starts i there)
              | no e ↦ W.starts w (omega (arith, few)) e ∙ inv.starts w k
            ];
            done = λ w k. elim (ℕ_discrete w i) [
              | yes e ↦ rw e (list_i ∙ ap₂ ◌++◌ (inv.todo i (le_refl _) there) is_own_of)
              | no e ↦ list_w w (omega (arith, there)) e ∙ inv.done w (omega arith)
            ];
            todo = λ w k y. list_w w y (omega arith) ∙ inv.todo w (omega arith) y;
            pairs = λ u a b. pair≡ (W.starts u b (omega (arith, there))) (W.lefts u (omega (arith, there))) ∙ inv.pairs u a b;
            counted = written_says l (given_in from l v i) i (start_at l i + left_at l i) (retain (is_once l) (ins_at from v)) (start_at l i) _ W (lists_in f from n) inv.counted;
          })

  pub give_end : n ≤ v → GivenBack (lists_in f from n) l₀ l
  unfolding exclusive_signals
  give_end h =
      let a = inv.upto in
      let e : v ≡ n = omega arith in
      let g : i ≡ length (lists_in f from n) = inv.gates ∙ ap (λ k. length (lists_in f from k)) e in
      let gs = lists_in f from n in
      let own = map (retain (once (lists_in f from n))) (lists_in f from n) in
      let lo : length (map (retain (once (lists_in f from n))) (lists_in f from n)) ≡ length (lists_in f from n) = length_map (retain (once (lists_in f from n))) (lists_in f from n) in
      let ll : length (lists_of l₀ (length (lists_in f from n))) ≡ length (lists_in f from n) = length_lists l₀ (length (lists_in f from n)) in
      record {
        laid = record {
          long = omega (arith, C.between.long, inv.same);
          few = few;
          ends = ends_in;
          apart = λ w x k y. omega (arith, inv.starts w (omega arith), inv.starts x y, left_in w (omega arith), slot_apart (lists_in f from n) w x k (omega arith));
        };
        lists =
            lists_are l (give_back (lists_of l₀ (length gs)) own) (length gs) (length_given (lists_of l₀ (length gs)) own ∙ ll)
            (λ w k.
            inv.done w (omega arith)
            ∙ sym
            (get_or_given (lists_of l₀ (length gs)) own w (rw ll k) (lo ∙ sym ll)
            ∙ ap₂ ◌++◌ (get_or_lists l₀ (length gs) w k) (get_or_map_in (retain (once gs)) gs [] [] w k)));
        pairs = inv.pairs;
      }

pub ruleset give_backs = (give_start, give_few, give_skip, give_gate, give_i, give_next, give_end)
