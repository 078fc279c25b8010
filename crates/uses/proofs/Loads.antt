-- Laws of separate_exclusive_signals: what putting signals behind one list does to all lists.
use Prim.Native.Nat.{ℕ, ◌+◌, ◌<◌, ◌≤◌}
use mathlib.Core.Path.{ap, refl, sym, ◌∙◌, ◌≡◌}
use mathlib.Core.Logic.{inl, inr, ◌≢◌, ◌⊎◌}
use mathlib.Core.Bool.{Bool, false, not, true}
use mathlib.Core.List.{List, [], map}
use native.Mathlib.Omega.{arith}
use native.Mathlib.Numerals.{add-one}
use native.Mathlib.Decide.{ℕ_discrete}
use mir.Syntax.{w32, w64}
use mir.Val.{Fits}
use lib.ListN.{get_or, length, length-append}
use lib.Seq.{ext_get_or}
use Rattle.laws.specs.Lists.{tab}
use Rattle.model.specs.Sharing.{once, retain, shared_signals, takes}
use Rattle.pairs.specs.Lists.{area_size, left_at, list_at, lists_of, put_left, put_list, put_start, sig_at, start_at}
use Rattle.tables.specs.Layout.{count_at, gate_at, ins_at}
use Rattle.uses.specs.Loading.{Loadable, Loads, Picked, Picks, Says, Separated, Source, lists_in, loaded_in, slot}
use Rattle.uses.specs.Uses.{Named, is_once, use_at, use_ix, wanted}
use Rattle.laws.proofs.Lists.{get_or_map_in, length_map}
use Rattle.laws.proofs.Tabs.{get_or_tab, length_tab}
use Rattle.pairs.proofs.Gates.{front_ext, front_is, length_list}
use Rattle.pairs.proofs.Places.{left_at_put_left, left_at_put_left_other, left_at_put_list, left_at_put_start, length_put_left, length_put_list, length_put_start, sig_at_put_left, sig_at_put_list, sig_at_put_list_after, sig_at_put_list_before, sig_at_put_start, start_at_put_left, start_at_put_list, start_at_put_start, start_at_put_start_other, used_at_put_left, used_at_put_start}
use Rattle.tables.proofs.Holding.{length_ins_at}
use Rattle.uses.proofs.Picking.{once_put_list, retain_ext, retain_le}
use Rattle.uses.proofs.Slots.{lists_few, lists_next, lists_none, lists_skip, met, met_here, met_there, slot_apart, slot_next, slot_none, slot_room}
use Rattle.uses.proofs.Tallies.{ix_small}
use Rattle.uses.proofs.Walks.{ins_named, source_few}
use Rattle.kinds.specs.declared.Family.{Family}

pub once_left : (l : List ℕ) (i n x : ℕ) → Named x → is_once (put_left l i n) x ≡ is_once l x
unfolding is_once use_at
once_left l i n x h = rw (used_at_put_left l i n (use_ix x) (omega (arith, ix_small x h)))

once_start : (l : List ℕ) (i n x : ℕ) → Named x → is_once (put_start l i n) x ≡ is_once l x
unfolding is_once use_at
once_start l i n x h = rw (used_at_put_start l i n (use_ix x) (omega (arith, ix_small x h)))

-- list i of m is l's with the signals p put from place at on: it starts at S and has N left
pub record Written (l m : List ℕ) (i at : ℕ) (p : List ℕ) (S N : ℕ) : Type 0 where
  pub long : length m ≡ length l
  pub sigs : (k : ℕ) → k < 2048 → sig_at m k ≡ sig_at (put_list l at p) k
  pub start : start_at m i ≡ S
  pub left : left_at m i ≡ N
  pub starts : (w : ℕ) → w < 512 → w ≢ i → start_at m w ≡ start_at l w
  pub lefts : (w : ℕ) → w ≢ i → left_at m w ≡ left_at l w
  pub once_same : (x : ℕ) → Named x → is_once m x ≡ is_once l x

module _ (l m : List ℕ) (i at : ℕ) (p : List ℕ) (S N : ℕ) (W : Written l m i at p S N) where
  pub written_says : (gs : List (List ℕ)) → Says gs l → Says gs m
  written_says gs c = record { says = λ x n. W.once_same x n ∙ c.says x n }

  -- a list that ends in front of the place, or starts behind what is put
  pub written_other : (w : ℕ) → w < 512 → w ≢ i → start_at l w + left_at l w ≤ 2048 → (start_at l w + left_at l w ≤ at) ⊎ (at + length p ≤ start_at l w) → list_at m w ≡ list_at l w
  unfolding list_at
  written_other w h d e (inl q) =
      rw (W.starts w h d, W.lefts w d)
      (front_ext m l (start_at l w) (left_at l w) (λ j k. W.sigs (start_at l w + j) (omega arith) ∙ sig_at_put_list_before l at p (start_at l w + j) (omega arith)))
  written_other w h d e (inr q) =
      rw (W.starts w h d, W.lefts w d)
      (front_ext m l (start_at l w) (left_at l w) (λ j k. W.sigs (start_at l w + j) (omega arith) ∙ sig_at_put_list_after l at p (start_at l w + j) (omega arith)))

-- ---- load_gate

module _ (from l : List ℕ) (v i at : ℕ) (L : Loads from l v i at) where
  shared_le : length (retain (wanted l false) (ins_at from v)) ≤ count_at from v
  shared_le = omega (arith, retain_le (wanted l false) (ins_at from v), length_ins_at from v)

  pub loads_picks : Picks from l v at false
  loads_picks = record { node = L.node; long = L.long; room = omega (arith, shared_le, L.room) }

  pub loads_at : Fits w32 at
  loads_at = record { fits = omega (arith, L.room) }

  module _ (m : List ℕ) (r : ℕ) (d : Picked from l m v at false r) where
    pub loads_left : Fits w32 r
    loads_left = record { fits = omega (arith, d.count, shared_le, L.room) }

    pub loads_long : area_size ≤ length m
    loads_long = rw (d.words, length_put_list) L.long

    pub loads_done : (o q : List ℕ) → o ≡ put_start m i at → q ≡ put_left o i r → q ≡ loaded_in from l v i at
    unfolding loaded_in
    loads_done o q eo eq = rw (← d.count, ← d.words, ← eo) eq

  pub loads_start : (m o : List ℕ) → area_size ≤ length m → o ≡ put_start m i at → area_size ≤ length o
  loads_start m o z e = rw (e, length_put_start) z

  pub loads_written : Written l (loaded_in from l v i at) i at (retain (wanted l false) (ins_at from v)) at (length (retain (wanted l false) (ins_at from v)))
  unfolding loaded_in
  loads_written =
      let p = retain (wanted l false) (ins_at from v) in
      let x = put_list l at p in
      let y = put_start x i at in
      let z : area_size ≤ length x = rw length_put_list L.long in
      let u : area_size ≤ length y = rw length_put_start z in
      let f = L.few in
      let fits : at + length p ≤ 2048 = omega (arith, shared_le, L.room) in
      record {
        long = length_put_left y i (length p) ∙ length_put_start x i at ∙ length_put_list l at p;
        sigs = λ k h. sig_at_put_left y i (length p) k h ∙ sig_at_put_start x i at k h;
        start = start_at_put_left y i (length p) i f ∙ start_at_put_start x i at f z;
        left = left_at_put_left y i (length p) f u;
        starts = λ w h d. start_at_put_left y i (length p) w h ∙ start_at_put_start_other x i at w d ∙ start_at_put_list l at p w fits;
        lefts = λ w d. left_at_put_left_other y i (length p) w d ∙ left_at_put_start x i at f w ∙ left_at_put_list l at p w fits;
        once_same = λ s n. once_left y i (length p) s n ∙ once_start x i at s n ∙ once_put_list l at p s n;
      }

pub ruleset gate_loads = (loads_picks, loads_at, loads_left, loads_long, loads_start, loads_done)

-- ---- separate_exclusive_signals

abbrev pub shared_of : List (List ℕ) → ℕ → List ℕ
shared_of gs w = retain (λ x. not (once gs x)) (get_or gs w [])

pub record Loading (f : Family) (from l₀ l : List ℕ) (n v i at : ℕ) : Type 0 where
  pub upto : v ≤ n
  pub same : length l ≡ length l₀
  pub gates : i ≡ length (lists_in f from v)
  pub place : at ≡ slot (lists_in f from n) i
  pub starts : (w : ℕ) → w < i → start_at l w ≡ slot (lists_in f from n) w
  pub lists : (w : ℕ) → w < i → list_at l w ≡ shared_of (lists_in f from n) w
  pub counted : Says (lists_in f from n) l

pub load_start : (f : Family) (from l : List ℕ) (n : ℕ) → Loadable (lists_in f from n) from l n → Loading f from l l n 0 0 0
load_start f from l n c = record {
  upto = omega arith;
  same = refl;
  gates = rw (lists_none f from);
  place = sym (slot_none (lists_in f from n));
  starts = λ w h. absurd (omega arith);
  lists = λ w h. absurd (omega arith);
  counted = c.counted;
}

-- as long as what is shared of it, a list stays in its slot
shared_length : (gs : List (List ℕ)) (l : List ℕ) (w : ℕ) → list_at l w ≡ shared_of gs w → left_at l w ≤ length (get_or gs w [])
shared_length gs l w e = omega (arith, length_list l w, ap length e, retain_le (λ x. not (once gs x)) (get_or gs w []))

module _ (f : Family) (from l₀ l : List ℕ) (n v i at : ℕ) (inv : Loading f from l₀ l n v i at) (C : Loadable (lists_in f from n) from l₀ n) (h : v < n) where
  source : Source from n
  source = C.between.source

  pub load_few : v < 512
  load_few = source_few from n v source h

  pub load_skip : (t : Bool) → t ≡ takes f (gate_at from v) → t ≡ false → Loading f from l₀ l n (v + 1) i at
  load_skip t et q =
      let z : takes f (gate_at from v) ≡ false = sym et ∙ q in
      record {
        upto = omega arith;
        same = inv.same;
        gates = rw (add-one v, lists_skip f from v z) inv.gates;
        place = inv.place;
        starts = inv.starts;
        lists = inv.lists;
        counted = inv.counted;
      }

  module _ (t : Bool) (et : t ≡ takes f (gate_at from v)) (q : t ≡ true) where
    here : get_or (lists_in f from n) i [] ≡ ins_at from v
    here = met_here f from v n h t et q i inv.gates

    there : i < length (lists_in f from n)
    there = met_there f from v n h t et q i inv.gates

    few : length (lists_in f from n) ≤ 512
    few = omega (arith, lists_few f from n, source.few)

    room : at + count_at from v ≤ 2048
    room = omega (arith, slot_room f from n i source.room there, inv.place, ap length here, length_ins_at from v)

    pub load_gate : Loads from l v i at
    load_gate = record { node = source.nodes v h; long = omega (arith, C.between.long, inv.same); few = omega (arith, few, there); room = room }

    pub load_at : (c : ℕ) → c ≡ count_at from v → Fits w64 (at + c)
    load_at c ec = record { fits = omega (arith, room) }

    pub load_i : Fits w64 (i + 1)
    load_i = record { fits = omega (arith, few, there) }

    is_shared : retain (wanted l false) (ins_at from v) ≡ shared_of (lists_in f from n) i
    unfolding wanted
    is_shared = rw here (retain_ext (λ x. not (is_once l x)) (λ x. not (once (lists_in f from n) x)) (ins_at from v) (λ x k. ap not (inv.counted.says x k)) (ins_named from v (source.nodes v h)))

    W : Written l (loaded_in from l v i at) i at (retain (wanted l false) (ins_at from v)) at (length (retain (wanted l false) (ins_at from v)))
    W = loads_written from l v i at load_gate

    list_i : list_at (loaded_in from l v i at) i ≡ retain (wanted l false) (ins_at from v)
    unfolding list_at
    list_i =
        let p = retain (wanted l false) (ins_at from v) in
        let fits : at + length p ≤ 2048 = omega (arith, shared_le from l v i at load_gate, room) in
        rw (W.start, W.left)
        (front_is (loaded_in from l v i at) at p (λ j k. W.sigs (at + j) (omega arith) ∙ sig_at_put_list l at p j load_gate.long fits k))

    list_w : (w : ℕ) → w < i → list_at (loaded_in from l v i at) w ≡ list_at l w
    list_w w k =
        let a = slot_apart (lists_in f from n) w i k (omega (arith, there)) in
        let b = shared_length (lists_in f from n) l w (inv.lists w k) in
        let c = inv.starts w k in
        let d = inv.place in
        written_other l (loaded_in from l v i at) i at (retain (wanted l false) (ins_at from v)) at _ W w (omega (arith, few, there)) (omega arith) (omega (arith, room)) (inl (omega arith))

    pub load_next : (m : List ℕ) (c : ℕ) → m ≡ loaded_in from l v i at → length m ≡ length l → c ≡ count_at from v → Loading f from l₀ m n (v + 1) (i + 1) (at + c)
    load_next m c em len ec =
        rw (em, add-one v, add-one i)
        (record {
          upto = h;
          same = ap length (sym em) ∙ len ∙ inv.same;
          gates = rw (lists_next f from v (met f from v n h t et q), length-append) (omega (arith, inv.gates));
          place = omega (arith, slot_next (lists_in f from n) i there, inv.place, ap length here, length_ins_at from v);
          starts = λ w k. elim (ℕ_discrete w i) [
            | yes e ↦ rw e (W.start ∙ inv.place)
            | no e ↦ W.starts w (omega (arith, few, there)) e ∙ inv.starts w (omega arith)
          ];
          lists = λ w k. elim (ℕ_discrete w i) [
            | yes e ↦ rw e (list_i ∙ is_shared)
            | no e ↦ list_w w (omega arith) ∙ inv.lists w (omega arith)
          ];
          counted = written_says l (loaded_in from l v i at) i at (retain (wanted l false) (ins_at from v)) at _ W (lists_in f from n) inv.counted;
        })

pub lists_are : (l : List ℕ) (hs : List (List ℕ)) (g : ℕ) → length hs ≡ g → ((w : ℕ) → w < g → list_at l w ≡ get_or hs w []) → lists_of l g ≡ hs
unfolding lists_of
lists_are l hs g e h =
    ext_get_or [] (tab (list_at l) g) hs (length_tab (list_at l) g ∙ sym e) (λ w k. let q : w < g = rw length_tab at k in get_or_tab (list_at l) g w [] q ∙ h w q)

pub load_end : (f : Family) (from l₀ l : List ℕ) (n v i at : ℕ) → Loading f from l₀ l n v i at → Loadable (lists_in f from n) from l₀ n → n ≤ v → Separated (lists_in f from n) l i
unfolding shared_signals
load_end f from l₀ l n v i at inv C h =
    let a = inv.upto in
    let e : v ≡ n = omega arith in
    let g : i ≡ length (lists_in f from n) = inv.gates ∙ ap (λ k. length (lists_in f from k)) e in
    let few : length (lists_in f from n) ≤ 512 = omega (arith, lists_few f from n, C.between.source.few) in
    record {
      gates = g;
      laid = record {
        long = omega (arith, C.between.long, inv.same);
        few = omega arith;
        ends = λ w k. omega (arith, inv.starts w k, shared_length (lists_in f from n) l w (inv.lists w k), slot_room f from n w C.between.source.room (omega arith));
        apart = λ w x k y.
            let z = inv.starts x y in
            omega (arith, inv.starts w (omega arith), shared_length (lists_in f from n) l w (inv.lists w (omega arith)), slot_apart (lists_in f from n) w x k (omega arith));
      };
      lists =
          lists_are l (map (retain (λ x. not (once (lists_in f from n) x))) (lists_in f from n)) i (length_map _ (lists_in f from n) ∙ sym g)
          (λ w k. inv.lists w k ∙ sym (get_or_map_in (retain (λ x. not (once (lists_in f from n) x))) (lists_in f from n) [] [] w (omega arith)));
      starts = inv.starts;
    }

pub ruleset separates = (load_start, load_few, load_skip, load_gate, load_at, load_i, load_next, load_end)
