-- What the counts come to.
use mathlib.Core.Path.{◌≡◌, refl, sym, ap, ◌∙◌}
use mathlib.Core.Bool.{Bool, true, false, not}
use Prim.Native.Nat.{ℕ, zero, suc, ◌+◌, ◌-◌, ◌*◌, ◌/◌, ◌<◌, ◌≤◌}
use native.Mathlib.Nat.{le_refl}
use native.Mathlib.Omega.{arith}
use native.Mathlib.Numerals.{add-one}
use native.Mathlib.Decide.{ℕ_discrete}
use mathlib.Core.List.{List, [], ◌∷◌}
use lib.ListN.{length}
use borrow.Author.Tests.{not-true, not-false}
use mir.Val.{Fits}
use mir.Syntax.{w32}
use Rattle.kinds.specs.Kinds.{kind_of, is_flip_flop}
use Rattle.laws.specs.Lists.{tab}
use Rattle.laws.proofs.Choices.{by_bool}
use Rattle.laws.proofs.Tabs.{length_tab}
use Rattle.model.specs.Signal.{is_var}
use Rattle.model.specs.Network.{waits, is_d, vars, occ, sum_to}
use Rattle.shape.specs.Forms.{Below}
use Rattle.shape.proofs.Sums.{bit_is, bit_isnt}
use Rattle.shape.proofs.Members.{occ_append, occ_length}
use Rattle.shape.proofs.Wires.{vars_snoc_node, vars_snoc_other, vars_length}
use Rattle.tables.specs.Layout.{span, kind_at, first_at, count_at, input_at, cell, store, count_base}
use Rattle.tables.specs.Holding.{network_of}
use Rattle.tables.specs.declared.counts.Counts.{Counts}
use Rattle.tables.proofs.Places.{length_store, cell_store, cell_store_other}
use Rattle.tables.proofs.Holding.{size_network}
use Rattle.translation.specs.Tables.{cleared_table}
use Rattle.translation.proofs.Cleared.{length_cleared, cell_cleared}
use Rattle.remap.specs.Tables.{ins_from, Sound}
use Rattle.remap.proofs.Tabled.{is_d_at, deps_at, held_sound}
use Rattle.count_deps.specs.Counting.{count_one, count_ins, count_gate, count_gates, Bounded, CanCount, Counting, GateTurn, Counted}
use Rattle.count_deps.specs.Counting.{Sortable}

count_one_node : (l : List ℕ) (s : ℕ) → is_var s ≡ true → count_one l s ≡ store l count_base (s / 2 - 1) (cell l count_base (s / 2 - 1) + 1)
unfolding count_one
count_one_node l s e = rw e

count_one_other : (l : List ℕ) (s : ℕ) → is_var s ≡ false → count_one l s ≡ l
unfolding count_one
count_one_other l s e = rw e

length_count_one : (l : List ℕ) (s : ℕ) → length (count_one l s) ≡ length l
length_count_one l s = by_bool (is_var s)
    (λ e. rw (count_one_node l s e) (length_store _ _ _ _))
    (λ e. ap length (count_one_other l s e))

length_count_ins : (from l : List ℕ) (f j : ℕ) → length (count_ins from f l j) ≡ length l
unfolding count_ins
length_count_ins from l f zero = refl
length_count_ins from l f (suc j) = length_count_one (count_ins from f l j) _ ∙ length_count_ins from l f j

-- each input adds one where it names d
cell_count_ins : (from l : List ℕ) (f j d : ℕ) → span ≤ length l → ((i : ℕ) → i < j → Below 512 (input_at from (f + i)))
    → cell (count_ins from f l j) count_base d ≡ cell l count_base d + occ d (vars (ins_from from f j))
unfolding count_ins tab vars
cell_count_ins from l f zero d h b = omega arith
cell_count_ins from l f (suc j) d h b =
    let s = input_at from (f + j) in
    let m = count_ins from f l j in
    let ih = cell_count_ins from l f j d h (λ i p. b i (omega arith)) in
    let len = length_count_ins from l f j in
    by_bool (is_var s)
    (λ e.
    let x = s / 2 - 1 in
    let lt : x < 512 = b j (le_refl _) e in
    rw (count_one_node m s e, vars_snoc_node (ins_from from f j) s e)
    (elim (ℕ_discrete d x) [
      | yes q ↦ rw (← q) (omega (arith, cell_store m count_base d (cell m count_base d + 1) (omega arith), ih, occ_append d (vars (ins_from from f j)) (d ∷ []), bit_is d d refl))
      | no q ↦ omega (arith, cell_store_other m count_base x (cell m count_base x + 1) count_base d (omega arith), ih, occ_append d (vars (ins_from from f j)) (x ∷ []), bit_isnt x d (λ y. q (sym y)))
    ]))
    (λ e. rw (count_one_other m s e, vars_snoc_other (ins_from from f j) s e) ih)

count_ins_most : (from l : List ℕ) (f j b : ℕ) → span ≤ length l → ((i : ℕ) → i < j → Below 512 (input_at from (f + i)))
    → Bounded l b → Bounded (count_ins from f l j) (b + j)
count_ins_most from l f j b h q B = record {
  most = λ d p.
      omega (
        arith,
        cell_count_ins from l f j d h q,
        B.most d p,
        occ_length d (vars (ins_from from f j)),
        vars_length (ins_from from f j),
        length_tab (λ k. input_at from (f + k)) j,
      );
}

bounded_more : (l : List ℕ) (a b : ℕ) → Bounded l a → a ≤ b → Bounded l b
bounded_more l a b B h = record { most = λ d p. omega (arith, B.most d p) }

module _ (from : List ℕ) (c : Counts) (ok : Sound from c) where
  named_wide : (v : ℕ) → v < c.nodes → (j : ℕ) → j < count_at from v → Below 512 (input_at from (first_at from v + j))
  named_wide v h j p e = let few = ok.few in omega (arith, ok.named v j h p e)

  length_count_gate : (l : List ℕ) (v : ℕ) → length (count_gate from l v) ≡ length l
  unfolding count_gate
  length_count_gate l v = by_bool (is_flip_flop (kind_of (kind_at from v))) (λ e. rw e) (λ e. rw e (length_count_ins from l (first_at from v) (count_at from v)))

  length_count_gates : (l : List ℕ) (v : ℕ) → length (count_gates from l v) ≡ length l
  unfolding count_gates
  length_count_gates l zero = refl
  length_count_gates l (suc v) = length_count_gate (count_gates from l v) v ∙ length_count_gates l v

  cell_count_gate : (l : List ℕ) (v d : ℕ) → span ≤ length l → v < c.nodes
      → cell (count_gate from l v) count_base d ≡ cell l count_base d + waits (network_of from c) (is_d (network_of from c)) d v
  unfolding count_gate
  cell_count_gate l v d h p =
      rw (is_d_at from c v p, deps_at from c v p)
      (by_bool (is_flip_flop (kind_of (kind_at from v)))
      (λ e. rw e (omega arith))
      (λ e. rw e (cell_count_ins from l (first_at from v) (count_at from v) d h (named_wide v p))))

  cell_count_gates : (l : List ℕ) (v d : ℕ) → span ≤ length l → v ≤ c.nodes
      → cell (count_gates from l v) count_base d ≡ cell l count_base d + sum_to (waits (network_of from c) (is_d (network_of from c)) d) v
  unfolding count_gates
  cell_count_gates l zero d h p = omega arith
  cell_count_gates l (suc v) d h p =
      omega (arith, cell_count_gate (count_gates from l v) v d (omega (arith, length_count_gates l v)) p, cell_count_gates l v d h (omega arith))

  count_gate_most : (l : List ℕ) (v b : ℕ) → span ≤ length l → v < c.nodes → Bounded l b → Bounded (count_gate from l v) (b + 2048)
  unfolding count_gate
  count_gate_most l v b h p B = by_bool (is_flip_flop (kind_of (kind_at from v)))
      (λ e. rw e (bounded_more l b (b + 2048) B (omega arith)))
      (λ e. rw e (bounded_more _ _ _ (count_ins_most from l (first_at from v) (count_at from v) b h (named_wide v p) B) (omega (arith, ok.ends v p))))

  count_gates_most : (l : List ℕ) (v : ℕ) → span ≤ length l → v ≤ c.nodes → Bounded l 0 → Bounded (count_gates from l v) (2048 * v)
  unfolding count_gates
  count_gates_most l zero h p B = B
  count_gates_most l (suc v) h p B =
      bounded_more _ _ _ (count_gate_most (count_gates from l v) v (2048 * v) (omega (arith, length_count_gates l v)) p (count_gates_most l v h (omega arith) B)) (omega arith)

  -- cleared, then counted
  abbrev fresh : List ℕ → List ℕ
  fresh l = cleared_table l count_base 512

  fresh_room : (l : List ℕ) → span ≤ length l → span ≤ length (fresh l)
  fresh_room l h = omega (arith, length_cleared l count_base 512)

  fresh_zero : (l : List ℕ) → span ≤ length l → Bounded (fresh l) 0
  fresh_zero l h = record { most = λ d p. omega (arith, cell_cleared l count_base 512 d (omega arith) p) }

  gate_turn : (l : List ℕ) (v : ℕ) → span ≤ length l → v < c.nodes → GateTurn from (count_gates from (fresh l) v) c v
  gate_turn l v h p = record {
    ok = ok;
    room = omega (arith, length_count_gates (fresh l) v, fresh_room l h);
    node = p;
    bounded = count_gates_most (fresh l) v (fresh_room l h) (omega arith) (fresh_zero l h);
  }

  counted_of : (l : List ℕ) → span ≤ length l → Counted from (count_gates from (fresh l) c.nodes) c
  counted_of l h = record {
    room = omega (arith, length_count_gates (fresh l) c.nodes, fresh_room l h);
    counts = λ d p. rw (size_network from c) (cell_count_gates (fresh l) c.nodes d (fresh_room l h) (le_refl _) ∙ omega (arith, cell_cleared l count_base 512 d (omega arith) p));
  }

-- ---- one signal, as the code meets it

module _ (s : ℕ) (t : Bool) (e : t ≡ is_var s) where
  pub one_some : not t ≡ false → is_var s ≡ true
  one_some h = sym e ∙ not-false t h

  pub one_none : (l : List ℕ) → not t ≡ true → l ≡ count_one l s
  one_none l h = sym (count_one_other l s (sym e ∙ not-true t h))

  module _ (l : List ℕ) (d : ℕ) (C : CanCount l s) (y : not t ≡ false) (q : d ≡ s / 2 - 1) where
    pub one_room : 5696 + d < length l
    one_room = let r = C.room in omega (arith, C.named (one_some y))

    pub one_fits : (r : ℕ) → r ≡ cell l count_base d → Fits w32 (r + 1)
    one_fits r z = record { fits = let h : d < 512 = omega (arith, C.named (one_some y)) in omega (arith, C.bounded.most d h) }

  pub one_done : (l m : List ℕ) (d r : ℕ) → not t ≡ false → d ≡ s / 2 - 1 → r ≡ cell l count_base d → m ≡ store l count_base d (r + 1) → m ≡ count_one l s
  one_done l m d r y q z w = w ∙ rw (z, q) (sym (count_one_node l s (one_some y)))

pub ruleset ones = (one_some, one_none, one_room, one_fits, one_done)

-- ---- the inputs of a gate

pub ins_none : (from l : List ℕ) (f : ℕ) → l ≡ count_ins from f l 0
unfolding count_ins
ins_none from l f = refl

pub ins_turn : (from l m : List ℕ) (f n j s : ℕ) → Counting from l f n → m ≡ count_ins from f l j → j < n → s ≡ input_at from (f + j) → CanCount m s
ins_turn from l m f n j s C e h q =
    let room = C.room in
    let fits = C.fits in
    rw (e, q)
    (record {
      room = omega (arith, length_count_ins from l f j);
      named = C.named j h;
      bounded = bounded_more _ _ _ (count_ins_most from l f j 1048576 room (λ i p. C.named i (omega arith)) C.bounded) (omega arith);
    })

pub ins_next : (from l m m' : List ℕ) (f j s : ℕ) → m ≡ count_ins from f l j → s ≡ input_at from (f + j) → m' ≡ count_one m s → m' ≡ count_ins from f l (j + 1)
unfolding count_ins
ins_next from l m m' f j s e q w = rw add-one (cc)

pub ins_done : (from l m : List ℕ) (f n j : ℕ) → m ≡ count_ins from f l j → j ≤ n → n ≤ j → m ≡ count_ins from f l n
ins_done from l m f n j e p q = e ∙ ap (count_ins from f l) (let z : j ≡ n = omega arith in z)

pub ruleset inputs = (ins_none, ins_turn, ins_next, ins_done)

-- ---- one gate

module _ (from l : List ℕ) (v k : ℕ) (t : Bool) (q : k ≡ kind_at from v) (e : t ≡ is_flip_flop (kind_of k)) where
  pub gate_flip : t ≡ true → l ≡ count_gate from l v
  unfolding count_gate
  gate_flip h = let z : is_flip_flop (kind_of (kind_at from v)) ≡ true = rw q at (sym e ∙ h) in rw z

  pub gate_done : (m : List ℕ) (f n : ℕ) → t ≡ false → f ≡ first_at from v → n ≡ count_at from v → m ≡ count_ins from f l n → m ≡ count_gate from l v
  unfolding count_gate
  gate_done m f n h p r w = let z : is_flip_flop (kind_of (kind_at from v)) ≡ false = rw q at (sym e ∙ h) in rw (w, p, r, z)

pub gate_inputs : (from l : List ℕ) (c : Counts) (v f n : ℕ) → GateTurn from l c v → f ≡ first_at from v → n ≡ count_at from v → Counting from l f n
gate_inputs from l c v f n G p q = rw (p, q) (record {
  long = G.ok.long;
  room = G.room;
  fits = G.ok.ends v G.node;
  named = named_wide from c G.ok v G.node;
  bounded = bounded_more l _ _ G.bounded (let few = G.ok.few in let h = G.node in omega arith);
})

pub gate_node : (from l : List ℕ) (c : Counts) (v : ℕ) → GateTurn from l c v → v < 512
gate_node from l c v G = let few = G.ok.few in let h = G.node in omega arith

pub ruleset gate = (gate_flip, gate_inputs, gate_node, gate_done)

-- ---- all gates

pub gates_none : (from m : List ℕ) → m ≡ count_gates from m 0
unfolding count_gates
gates_none from m = refl

module _ (from l z : List ℕ) (c : Counts) (S : Sortable from l c) (y : z ≡ cleared_table l count_base 512) (m : List ℕ) (v : ℕ) (e : m ≡ count_gates from z v) where
  pub gates_turn : v < c.nodes → GateTurn from m c v
  gates_turn p = rw (e, y) (gate_turn from c (held_sound from c S.held) l v S.room p)

  pub gates_done : v ≤ c.nodes → c.nodes ≤ v → Counted from m c
  gates_done p q = let x : v ≡ c.nodes = omega arith in rw (e, y, x) (counted_of from c (held_sound from c S.held) l S.room)

pub gates_next : (from z m m' : List ℕ) (v : ℕ) → m ≡ count_gates from z v → m' ≡ count_gate from m v → m' ≡ count_gates from z (v + 1)
unfolding count_gates
gates_next from z m m' v e q = rw add-one (cc)

pub ruleset gates = (gates_none, gates_turn, gates_next, gates_done)
