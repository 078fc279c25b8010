-- Laws of writing the grown network.
use Prim.Native.Nat.{suc, ℕ, ◌*◌, ◌+◌, ◌<◌, ◌^◌, ◌≤◌}
use mathlib.Core.Path.{ap, ap₂, refl, subst, sym, ◌∙◌, ◌≡◌}
use mathlib.Core.Bool.{Bool, false, true}
use mathlib.Core.List.{List, [], ◌++◌, ◌∷◌}
use native.Mathlib.Omega.{arith}
use native.Mathlib.Nat.{add-zero}
use native.Mathlib.Numerals.{add-one}
use mir.Syntax.{w32, w64}
use mir.Val.{Fits}
use lib.ListN.{length, length-append}
use Rattle.copying.specs.Copies.{Putting, inputs_from, put_copy}
use Rattle.growth.specs.Growing.{Begun, Nodes, Puts, either}
use Rattle.kinds.specs.Kinds.{code_of}
use Rattle.laws.specs.Lists.{tab}
use Rattle.model.specs.Gate.{Gate}
use Rattle.model.specs.Normal.{gate_of}
use Rattle.model.specs.Sharing.{pair_gate, replaced, taken, takes, two_of}
use Rattle.pairs.specs.Lists.{area_size, front, left_at, list_at, lists_of, sig_at, start_at}
use Rattle.shape.specs.Room.{buf_inputs}
use Rattle.tables.specs.Building.{Packed, put_inputs, put_node}
use Rattle.tables.specs.Layout.{count_at, first_at, gate_at, high_at, kind_at, low_at, nodes_of, put_gate, put_input, put_table}
use Rattle.uses.specs.Loading.{SameLists, lists_in}
use Rattle.copying.proofs.Copied.{nodes_of_put_copy, packed_put_copy}
use Rattle.room.proofs.Rooms.{buf_none, buf_other, buf_small, buf_taken}
use Rattle.laws.proofs.Choices.{by_bool}
use Rattle.pairs.proofs.Gates.{length_lists}
use Rattle.pairs.proofs.Places.{left_at_put_node, sig_at_put_node, start_at_put_node}
use Rattle.tables.proofs.Building.{length_put_node, nodes_of_next, nodes_of_none, nodes_of_put_node, packed_none, packed_put_node}
use Rattle.shape.proofs.Written.{gate_eq}
use Rattle.uses.proofs.Slots.{list_there, lists_next, lists_none, lists_skip}
use Rattle.uses.proofs.Tallies.{lists_on, lists_same}
use Rattle.uses.proofs.Walks.{source_few}
use Rattle.kinds.specs.declared.Family.{Family}
use Rattle.kinds.specs.declared.Kind.{Kind}
use Rattle.kinds.specs.declared.Kind.TheVariants.{Buf}

-- ---- one gate

-- put_buf, put_two
module _ (l : List ℕ) (v at : ℕ) where
  pub buf_done : (s k : ℕ) (m o q : List ℕ) → m ≡ put_input l at s → k ≡ 12 → o ≡ put_gate m v k at 1 → q ≡ put_table o v 0 0 → q ≡ put_node l v 12 at (either s s) 1 0 0
  unfolding put_node put_inputs either
  buf_done s k m o q em ek eo eq = eq ∙ rw (eo, em, ek, add-zero)

  pub two_done : (a b k : ℕ) (f : Family) (K : Kind) (m n o q : List ℕ) → m ≡ put_input l at a → n ≡ put_input m (at + 1) b → K ≡ two_of f → k ≡ code_of K → o ≡ put_gate n v k at 2 → q ≡ put_table o v 0 0
      → q ≡ put_node l v (code_of (two_of f)) at (either a b) 2 0 0
  unfolding put_node put_inputs either
  two_done a b k f K m n o q em en eK ek eo eq = eq ∙ rw (eo, en, em, ek, eK, add-zero)

  module _ (n : ℕ) (P : Puts l v at n) where
    pub puts_at : 0 < n → at < 2048
    puts_at h = omega (arith, P.room)

    pub puts_next : 1 < n → at + 1 < 2048
    puts_next h = omega (arith, P.room)

    pub puts_fits : Fits w32 at
    puts_fits = record { fits = omega (arith, P.room) }

pub ruleset puts = (buf_done, two_done, puts_at, puts_next, puts_fits)

-- the gates that these are
pub is_buf : (s : ℕ) → ◌≡◌ {A = Gate} (record { kind = 12; ins = tab (either s s) 1; table = 0 + 2 ^ 32 * 0 }) (gate_of Buf (s ∷ []))
unfolding tab either
is_buf s = gate_eq refl refl refl

pub is_two : (f : Family) (a b : ℕ) → ◌≡◌ {A = Gate} (record { kind = code_of (two_of f); ins = tab (either a b) 2; table = 0 + 2 ^ 32 * 0 }) (pair_gate f (record { fst = a; snd = b }))
unfolding tab either
is_two f a b = gate_eq refl refl refl

-- ---- one more gate is replaced

replaced_none : (f : Family) (gs : List Gate) → replaced f gs [] ≡ gs
unfolding replaced
replaced_none f [] = refl
replaced_none f (g ∷ gs) = refl

replaced_other : (f : Family) (gs : List Gate) (ls : List (List ℕ)) (g : Gate) → length ls ≡ length (taken f gs) → takes f g ≡ false → replaced f (gs ++ (g ∷ [])) ls ≡ replaced f gs ls ++ (g ∷ [])
unfolding replaced taken
replaced_other f gs [] g e t = rw (replaced_none f (gs ++ (g ∷ [])), replaced_none f gs)
replaced_other f [] (l ∷ ls) g e t = absurd (omega arith)
replaced_other f (h ∷ gs) (l ∷ ls) g e t = by_bool (takes f h)
    (λ q. let z : suc (length ls) ≡ suc (length (taken f gs)) = rw q at e in rw q (ap (◌∷◌ (gate_of Buf l)) (replaced_other f gs ls g (omega arith) t)))
    (λ q. let z : suc (length ls) ≡ length (taken f gs) = rw q at e in rw q (ap (◌∷◌ h) (replaced_other f gs (l ∷ ls) g z t)))

replaced_taken : (f : Family) (gs : List Gate) (ls : List (List ℕ)) (g : Gate) (l : List ℕ) → length ls ≡ length (taken f gs) → takes f g ≡ true
    → replaced f (gs ++ (g ∷ [])) (ls ++ (l ∷ [])) ≡ replaced f gs ls ++ (gate_of Buf l ∷ [])
unfolding replaced taken
replaced_taken f [] [] g l e t = rw t
replaced_taken f [] (k ∷ ls) g l e t = absurd (omega arith)
replaced_taken f (h ∷ gs) [] g l e t = by_bool (takes f h)
    (λ q. let z : 0 ≡ suc (length (taken f gs)) = rw q at e in absurd (omega arith))
    (λ q. let z : 0 ≡ length (taken f gs) = rw q at e in rw q (ap (◌∷◌ h) (replaced_taken f gs [] g l z t ∙ rw (replaced_none f gs))))
replaced_taken f (h ∷ gs) (k ∷ ls) g l e t = by_bool (takes f h)
    (λ q. let z : suc (length ls) ≡ suc (length (taken f gs)) = rw q at e in rw q (ap (◌∷◌ (gate_of Buf k)) (replaced_taken f gs ls g l (omega arith) t)))
    (λ q. let z : suc (length ls) ≡ length (taken f gs) = rw q at e in rw q (ap (◌∷◌ h) (replaced_taken f gs (k ∷ ls) g l z t)))

-- ---- a gate put in front leaves the lists

pub lists_put_node : (l : List ℕ) (v k at : ℕ) (f : ℕ → ℕ) (n lo hi : ℕ) → v < 512 → at + n ≤ 2048 → SameLists l (put_node l v k at f n lo hi)
lists_put_node l v k at f n lo hi h r = record {
  long = length_put_node l v k at f n lo hi;
  sigs = λ w q. sig_at_put_node l v k at f n lo hi h r w;
  starts = start_at_put_node l v k at f n lo hi h r;
  lefts = left_at_put_node l v k at f n lo hi h r;
}

lists_put_copy : (from l : List ℕ) (v at : ℕ) → v < 512 → at + count_at from v ≤ 2048 → SameLists l (put_copy from l v at)
unfolding put_copy
lists_put_copy from l v at h r = lists_put_node l v (kind_at from v) at (inputs_from from (first_at from v)) (count_at from v) (low_at from v) (high_at from v) h r

-- ---- put_nodes

pub record Writing (f : Family) (from l₀ l : List ℕ) (n i at v : ℕ) : Type 0 where
  pub upto : v ≤ n
  pub same : SameLists l₀ l
  pub gates : i ≡ length (lists_in f from v)
  pub count : at ≡ buf_inputs f (nodes_of from v)
  pub packed : Packed l v at
  pub nodes : nodes_of l v ≡ replaced f (nodes_of from v) (lists_of l₀ i)

pub nodes_start : (f : Family) (from l : List ℕ) (n : ℕ) → Begun f from l n → Writing f from l l n 0 0 0
unfolding replaced lists_of tab
nodes_start f from l n B = record {
  upto = omega arith;
  same = lists_same l;
  gates = rw (lists_none f from);
  count = sym (buf_none f from);
  packed = packed_none l (omega (arith, B.laid.long));
  nodes = rw (nodes_of_none l, nodes_of_none from);
}

lists_suc : (l : List ℕ) (i : ℕ) → lists_of l (suc i) ≡ lists_of l i ++ (list_at l i ∷ [])
unfolding lists_of tab
lists_suc l i = refl

list_one : (l : List ℕ) (i : ℕ) → left_at l i ≡ 1 → list_at l i ≡ sig_at l (start_at l i) ∷ []
unfolding list_at front tab
list_one l i e = rw (e, add-zero)

-- the lists of the first v nodes, as taken
lists_count : (f : Family) (from : List ℕ) (v : ℕ) → length (lists_in f from v) ≡ length (taken f (nodes_of from v))
unfolding lists_in
lists_count f from v = refl

module _ (f : Family) (from l₀ l : List ℕ) (n i at v : ℕ) (inv : Writing f from l₀ l n i at v) (B : Begun f from l₀ n) where
  module _ (h : v < n) where
    pub writes_few : v < 512
    writes_few = source_few from n v B.source h

    pub nodes_long : area_size ≤ length l
    nodes_long = omega (arith, B.laid.long, inv.same.long)

    module _ (b : Bool) (eb : b ≡ takes f (gate_at from v)) where
      module _ (q : b ≡ true) where
        t : takes f (gate_at from v) ≡ true
        t = sym eb ∙ q

        there : i < length (lists_in f from n)
        there = rw inv.gates (list_there f from v n h t)

        pub nodes_i : i < 512
        nodes_i = omega (arith, there, B.laid.few)

        pub nodes_i_more : Fits w64 (i + 1)
        nodes_i_more = record { fits = omega (arith, there, B.laid.few) }

        room : at + 1 ≤ 2048
        room = omega (arith, inv.count, buf_taken f from v t, buf_small f from n (suc v) B.source h)

        pub nodes_at_more : Fits w64 (at + 1)
        nodes_at_more = record { fits = omega (arith, room) }

        pub nodes_buf : Puts l v at 1
        nodes_buf = record { long = inv.packed.long; few = writes_few; room = room }

        module _ (w s : ℕ) (ew : w ≡ start_at l i) where
          pub nodes_sig : w < 2048
          nodes_sig = omega (arith, inv.same.starts i, B.laid.ends i there, B.ones i there)

          pub nodes_taken : (m : List ℕ) → s ≡ sig_at l w → m ≡ put_node l v 12 at (either s s) 1 0 0 → length m ≡ length l → Writing f from l₀ m n (i + 1) (at + 1) (v + 1)
          nodes_taken m es em len =
              let sl : s ∷ [] ≡ list_at l₀ i =
              ap (λ x. x ∷ []) (es ∙ ap (sig_at l) (ew ∙ inv.same.starts i) ∙ inv.same.sigs (start_at l₀ i) (omega (arith, B.laid.ends i there, B.ones i there)))
              ∙ sym (list_one l₀ i (B.ones i there)) in
              let ns = nodes_of_put_node l v at inv.packed 12 (either s s) 1 0 0 writes_few room in
              rw (em, add-one v, add-one i, add-one at)
              (record {
                upto = h;
                same = lists_on l₀ l (put_node l v 12 at (either s s) 1 0 0) inv.same (lists_put_node l v 12 at (either s s) 1 0 0 writes_few room);
                gates = rw (lists_next f from v t, length-append) (omega (arith, inv.gates));
                count = omega (arith, inv.count, buf_taken f from v t);
                packed = let e : at + 1 ≡ suc at = add-one at in rw (← e) (packed_put_node l v at inv.packed 12 (either s s) 1 0 0 writes_few room);
                nodes =
                    ns
                    ∙ rw (inv.nodes, is_buf s, sl, nodes_of_next from v, lists_suc l₀ i)
                    (sym (replaced_taken f (nodes_of from v) (lists_of l₀ i) (gate_at from v) (list_at l₀ i) (length_lists l₀ i ∙ inv.gates ∙ lists_count f from v) t));
              })

      module _ (q : b ≡ false) where
        u : takes f (gate_at from v) ≡ false
        u = sym eb ∙ q

        wide : at + count_at from v ≤ 2048
        wide = omega (arith, inv.count, buf_other f from v u, buf_small f from n (suc v) B.source h)

        pub nodes_copy : Putting from l v at
        nodes_copy = let N = B.source.nodes v h in record { source = N.long; long = inv.packed.long; few = writes_few; ends = N.ends; room = wide }

        module _ (c : ℕ) (ec : c ≡ count_at from v) where
          pub nodes_fits : Fits w64 (at + c)
          nodes_fits = record { fits = omega (arith, wide) }

          pub nodes_other : (m : List ℕ) → m ≡ put_copy from l v at → length m ≡ length l → Writing f from l₀ m n i (at + c) (v + 1)
          nodes_other m em len =
              rw (em, add-one v, ec)
              (record {
                upto = h;
                same = lists_on l₀ l (put_copy from l v at) inv.same (lists_put_copy from l v at writes_few wide);
                gates = rw (lists_skip f from v u) inv.gates;
                count = omega (arith, inv.count, buf_other f from v u);
                packed = packed_put_copy from l v at inv.packed writes_few wide;
                nodes =
                    nodes_of_put_copy from l v at inv.packed writes_few wide
                    ∙ rw (inv.nodes, nodes_of_next from v)
                    (sym (replaced_other f (nodes_of from v) (lists_of l₀ i) (gate_at from v) (length_lists l₀ i ∙ inv.gates ∙ lists_count f from v) u));
              })

  pub nodes_end : n ≤ v → Nodes f from l₀ l n at
  nodes_end h =
      let a = inv.upto in
      let e : v ≡ n = omega arith in
      let g : i ≡ length (lists_in f from n) = inv.gates ∙ ap (λ k. length (lists_in f from k)) e in
      record {
        count = inv.count ∙ ap (λ k. buf_inputs f (nodes_of from k)) e;
        same = inv.same;
        packed = subst (λ (k : ℕ). Packed l k at) e inv.packed;
        nodes = sym (ap (nodes_of l) e) ∙ inv.nodes ∙ ap₂ (replaced f) (ap (nodes_of from) e) (ap (lists_of l₀) g);
      }

pub ruleset writes = (nodes_start, writes_few, nodes_long, nodes_i, nodes_i_more, nodes_at_more, nodes_buf, nodes_sig, nodes_taken, nodes_copy, nodes_fits, nodes_other, nodes_end)
