-- The chains of the new nodes: what they hold, and the search down one of them.
use Prim.Native.Nat.{ℕ, zero, suc, ◌+◌, ◌*◌, ◌/◌, ◌%◌, ◌^◌, ◌≤◌, ◌<◌}
use mathlib.Core.Path.{◌≡◌, refl, sym, ap, ap₂, ◌∙◌}
use mathlib.Core.Logic.{◌≢◌}
use mathlib.Core.Bool.{Bool, true, false, cond}
use mathlib.Core.List.{List, [], ◌∷◌, ◌++◌}
use mathlib.Core.Option.{Option, none, some}
use Rattle.std.specs.Prelude.{Some, None}
use Rattle.std.specs.Prelude as core
use native.Mathlib.Omega.{arith}
use native.Mathlib.Nat.{le_refl, le_antisymm}
use native.Mathlib.Decide.{ℕ_discrete}
use native.Mathlib.Numerals.{add-one}
use lib.ListN.{length, get_or}
use lib.Dec.{eqb}
use borrow.Author.Tests.{eq-eqb, ne_eqb}
use Rattle.laws.specs.Lists.{tab}
use Rattle.laws.proofs.Tabs.{length_tab, get_or_tab}
use Rattle.laws.proofs.Choices.{by_bool, by_eq}
use Rattle.model.specs.Gate.{Gate}
use Rattle.model.specs.Network.{same_gate, find_gate}
use Rattle.shape.proofs.DedupPlace.{same_gate_eq}
use Rattle.tables.specs.Layout.{gate_at, nodes_of, cell, store}
use Rattle.tables.proofs.Places.{length_store, cell_store, cell_store_other}
use Rattle.tables.proofs.Building.{nodes_of_next, nodes_of_none}
use Rattle.tables.proofs.Holding.{length_nodes_of}
use Rattle.same_gate.specs.declared.Sought.{Sought}
use Rattle.same_gate.specs.Listed.{list_base, listed}
use Rattle.lookup.specs.Lists.{as_option, counted}
use Rattle.lookup.specs.Chains.{stir, stirred, bucket_of, buckets_of, last_in, head_base, link_base, Chained, joined, Seeks}
use Rattle.same_gate.proofs.Searches.{find_none, find_some, find_here}

-- ---- the bucket of a gate

pub stir_small : (a x : ℕ) → stir a x < 4294967296
unfolding stir
stir_small a x = omega arith

pub stirred_small : (k : ℕ) (f : ℕ → ℕ) (n : ℕ) → k < 4294967296 → stirred k f n < 4294967296
unfolding stirred
stirred_small k f zero h = h
stirred_small k f (suc n) h = stir_small (stirred k f n) (f n)

stirred_same : (k : ℕ) (f g : ℕ → ℕ) (n : ℕ) → ((j : ℕ) → j < n → f j ≡ g j) → stirred k f n ≡ stirred k g n
unfolding stirred
stirred_same k f g zero h = refl
stirred_same k f g (suc n) h = ap₂ stir (stirred_same k f g n (λ j q. h j (omega arith))) (h n (omega arith))

pub bucket_small : (g : Gate) → bucket_of g < 256
unfolding bucket_of
bucket_small g =
    let x = stir (stirred g.kind (λ j. get_or g.ins j 0) (length g.ins)) (g.table % 4294967291) in
    omega (arith, stir_small (stirred g.kind (λ j. get_or g.ins j 0) (length g.ins)) (g.table % 4294967291))

-- of the gate in the list
pub bucket_listed : (l : List ℕ) (g : Sought)
    → stir (stirred g.kind (cell l list_base) g.n) ((g.low + 2 ^ 32 * g.high) % 4294967291) / 16777216 ≡ bucket_of (listed l g)
unfolding bucket_of listed
bucket_listed l g =
    let t = tab (cell l list_base) g.n in
    let e : stirred g.kind (λ j. get_or t j 0) (length t) ≡ stirred g.kind (cell l list_base) g.n =
    ap (stirred g.kind (λ j. get_or t j 0)) (length_tab (cell l list_base) g.n) ∙ stirred_same g.kind _ _ g.n (λ j q. get_or_tab (cell l list_base) g.n j 0 q) in
    sym (ap (λ (a : ℕ). stir a ((g.low + 2 ^ 32 * g.high) % 4294967291) / 16777216) e)

-- the loop
module _ (l : List ℕ) (k n : ℕ) (P : (16384 ≤ length l) × (n ≤ 2048)) where
  abbrev Stirring : ℕ → ℕ → Type 0
  Stirring a j = (j ≤ n) × (a < 4294967296) × (a ≡ stirred k (cell l list_base) j)

  pub stir_none : (a : ℕ) → k < 4294967296 → a ≡ k → Stirring a 0
  unfolding stirred
  stir_none a h e = (omega arith, rw e h, e)

  module _ (a j : ℕ) (I : Stirring a j) where
    pub stir_word : j < n → list_base + j < length l
    stir_word h = omega (arith, P.0, P.1)

    pub stir_next : j < n → (x b : ℕ) → x ≡ cell l list_base j → b ≡ stir a x → Stirring b (j + 1)
    unfolding stirred
    stir_next h x b ex eb = (omega arith, rw eb (stir_small a x), rw add-one (eb ∙ ap₂ stir I.2 ex))

    pub stir_end : n ≤ j → a ≡ stirred k (cell l list_base) n
    stir_end h = I.2 ∙ ap (stirred k (cell l list_base)) (le_antisymm I.0 h)

-- ---- the last node of a bucket

module _ (B : ℕ → ℕ) (h : ℕ) where
  pub last_in_inside : (n : ℕ) → last_in B h n ≤ n
  unfolding last_in
  last_in_inside zero = omega arith
  last_in_inside (suc n) = by_eq (λ (x : ℕ). x ≤ suc n) (B n) h (λ e. le_refl (suc n)) (λ e. let i = last_in_inside n in omega arith)

  pub last_in_belongs : (n w : ℕ) → last_in B h n ≡ suc w → B w ≡ h
  unfolding last_in
  last_in_belongs zero w q = absurd (omega arith)
  last_in_belongs (suc n) w q = elim (ℕ_discrete (B n) h) [
    | yes e ↦ (let s : suc n ≡ suc w = rw (eq-eqb (B n) h e) at q in let i : n ≡ w = omega arith in rw (← i) e)
    | no e ↦ last_in_belongs n w (rw (ne_eqb (B n) h e) at q)
  ]

  pub last_in_same : (C : ℕ → ℕ) (n : ℕ) → ((v : ℕ) → v < n → B v ≡ C v) → last_in B h n ≡ last_in C h n
  unfolding last_in
  last_in_same C zero s = refl
  last_in_same C (suc n) s = ap₂ (λ (b x : ℕ). cond (eqb b h) (suc n) x) (s n (omega arith)) (last_in_same C n (λ v q. s v (omega arith)))

-- ---- chains that stay, begin and grow

-- words of the chains, and gates, that are the same
module _ (l m : List ℕ) (n : ℕ) (g : (v : ℕ) → v < n → gate_at m v ≡ gate_at l v) where
  buckets_same : (v : ℕ) → v < n → buckets_of l v ≡ buckets_of m v
  buckets_same v q = ap bucket_of (sym (g v q))

  pub chained_same : Chained l n → ((h : ℕ) → h < 256 → cell m head_base h ≡ cell l head_base h) → ((v : ℕ) → v < 512 → cell m link_base v ≡ cell l link_base v) → n ≤ 512 → Chained m n
  chained_same c hs ls few = record {
    heads = λ h q. hs h q ∙ c.heads h q ∙ last_in_same (buckets_of l) h (buckets_of m) n buckets_same;
    links = λ v q. ls v (omega arith) ∙ c.links v q ∙ ap (λ (h : ℕ). last_in (buckets_of l) h v) (buckets_same v q)
        ∙ last_in_same (buckets_of l) (buckets_of m v) (buckets_of m) v (λ u p. buckets_same u (omega arith));
  }

pub chained_none : (l : List ℕ) → ((h : ℕ) → h < 256 → cell l head_base h ≡ 0) → Chained l 0
unfolding last_in
chained_none l z = record { heads = λ h q. z h q; links = λ v q. absurd (omega arith) }

pub length_joined : (l : List ℕ) (v h : ℕ) → length (joined l v h) ≡ length l
unfolding joined
length_joined l v h = length_store _ _ _ _ ∙ length_store _ _ _ _

-- words before the chains stay
pub cell_joined : (l : List ℕ) (v h c j : ℕ) → c + j < head_base → cell (joined l v h) c j ≡ cell l c j
unfolding joined
cell_joined l v h c j q = cell_store_other _ head_base h (v + 1) c j (omega arith) ∙ cell_store_other l link_base v _ c j (omega arith)

module _ (l : List ℕ) (n h : ℕ) (z : 16384 ≤ length l) (c : Chained l n) (e : h ≡ buckets_of l n) (few : n < 512) where
  abbrev linked : List ℕ
  linked = store l link_base n (cell l head_base h)

  small : h < 256
  small = rw e (bucket_small (gate_at l n))

  heads_joined : (k : ℕ) → k < 256 → cell (joined l n h) head_base k ≡ last_in (buckets_of l) k (suc n)
  unfolding joined last_in
  heads_joined k q = elim (ℕ_discrete (buckets_of l n) k) [
    | yes d ↦ (let s : k ≡ h = sym d ∙ sym e in
        rw (eq-eqb (buckets_of l n) k d) (ap (cell (store linked head_base h (n + 1)) head_base) s ∙ cell_store linked head_base h (n + 1) (rw length_store (omega (arith, small))) ∙ omega arith))
    | no d ↦ (let s : k ≢ h = λ p. d (sym e ∙ sym p) in
        rw (ne_eqb (buckets_of l n) k d) (cell_store_other linked head_base h (n + 1) head_base k (omega arith) ∙ cell_store_other l link_base n (cell l head_base h) head_base k (omega arith) ∙ c.heads k q))
  ]

  links_joined : (v : ℕ) → v < suc n → cell (joined l n h) link_base v ≡ last_in (buckets_of l) (buckets_of l v) v
  unfolding joined
  links_joined v q = cell_store_other linked head_base h (n + 1) link_base v (omega (arith, small)) ∙ elim (ℕ_discrete v n) [
    | yes d ↦ rw d (cell_store l link_base n (cell l head_base h) (omega arith) ∙ c.heads h small ∙ ap (λ (k : ℕ). last_in (buckets_of l) k n) e)
    | no d ↦ cell_store_other l link_base n (cell l head_base h) link_base v (omega arith) ∙ c.links v (omega arith)
  ]

  -- node n put before its chain
  pub chained_joined : ((v : ℕ) → v < suc n → gate_at (joined l n h) v ≡ gate_at l v) → Chained (joined l n h) (n + 1)
  chained_joined g =
      let same : (v : ℕ) → v < suc n → buckets_of l v ≡ buckets_of (joined l n h) v = buckets_same l (joined l n h) (suc n) g in
      rw add-one (record {
        heads = λ k q. heads_joined k q ∙ last_in_same (buckets_of l) k (buckets_of (joined l n h)) (suc n) same;
        links = λ v q. links_joined v q ∙ ap (λ (k : ℕ). last_in (buckets_of l) k v) (same v q)
            ∙ last_in_same (buckets_of l) (buckets_of (joined l n h) v) (buckets_of (joined l n h)) v (λ u p. same u (omega arith));
      })

-- ---- the search down a chain

abbrev or_else : Option ℕ → Option ℕ → Option ℕ
or_else none r = r
or_else (some j) r = some j

-- of n nodes those from p on are looked through, and the first of them that is g is `found`
pub record Seeking (l : List ℕ) (n h : ℕ) (g : Gate) (p : ℕ) (found : core.Option ℕ) : Type 0 where
  pub inside : p ≤ n
  pub belongs : (w : ℕ) → p ≡ suc w → buckets_of l w ≡ h
  pub rest : find_gate g (nodes_of l n) ≡ or_else (find_gate g (nodes_of l p)) (as_option found)

module _ (g : Gate) (l : List ℕ) where
  find_skip : (h : Gate) (s : List Gate) → same_gate g h ≡ false → find_gate g (s ++ (h ∷ [])) ≡ find_gate g s
  find_skip h s f = go (find_gate g s) refl
    where
      go : (r : Option ℕ) → find_gate g s ≡ r → find_gate g (s ++ (h ∷ [])) ≡ find_gate g s
      go none e = find_none g h s e f ∙ sym e
      go (some j) e = find_some g h s j e ∙ sym e

  -- what is not in the gate's bucket is not the gate
  find_last : (n : ℕ) → find_gate g (nodes_of l n) ≡ find_gate g (nodes_of l (last_in (buckets_of l) (bucket_of g) n))
  unfolding last_in
  find_last zero = refl
  find_last (suc n) = elim (ℕ_discrete (buckets_of l n) (bucket_of g)) [
    | yes e ↦ rw (eq-eqb (buckets_of l n) (bucket_of g) e)
    | no e ↦ (let f : same_gate g (gate_at l n) ≡ false = by_bool (same_gate g (gate_at l n)) (λ t. absurd (e (sym (ap bucket_of (same_gate_eq g (gate_at l n) t))))) (λ t. t) in
        rw (ne_eqb (buckets_of l n) (bucket_of g) e) (ap (find_gate g) (nodes_of_next l n) ∙ find_skip (gate_at l n) (nodes_of l n) f ∙ find_last n))
  ]

  -- the node before, if it is the gate, comes before what was found behind it
  find_turn : (w : ℕ) (t : Bool) (r : core.Option ℕ) → t ≡ same_gate g (gate_at l w)
      → or_else (find_gate g (nodes_of l (suc w))) (as_option r) ≡ or_else (find_gate g (nodes_of l w)) (as_option (cond t (Some w) r))
  find_turn w t r e = ap (λ (x : List Gate). or_else (find_gate g x) (as_option r)) (nodes_of_next l w) ∙ go (find_gate g (nodes_of l w)) refl t e
    where
      go : (f : Option ℕ) → find_gate g (nodes_of l w) ≡ f → (t : Bool) → t ≡ same_gate g (gate_at l w)
          → or_else (find_gate g (nodes_of l w ++ (gate_at l w ∷ []))) (as_option r) ≡ or_else (find_gate g (nodes_of l w)) (as_option (cond t (Some w) r))
      go (some j) q t e = rw (find_some g (gate_at l w) (nodes_of l w) j q, q)
      go none q true e = rw (find_here g (gate_at l w) (nodes_of l w) q (sym e), q) (ap some (length_nodes_of l w))
      go none q false e = rw (find_none g (gate_at l w) (nodes_of l w) q (sym e), q)

  module _ (n h : ℕ) (S : Seeks l n h g) where
    below : (k : ℕ) → find_gate g (nodes_of l k) ≡ find_gate g (nodes_of l (last_in (buckets_of l) h k))
    below k = find_last k ∙ ap (λ (b : ℕ). find_gate g (nodes_of l (last_in (buckets_of l) b k))) (sym S.bucket)

    pub seek_small : h < 256
    seek_small = rw S.bucket (bucket_small g)

    pub seek_start : (p : ℕ) → p ≡ cell l head_base h → Seeking l n h g p None
    seek_start p e =
        let q : p ≡ last_in (buckets_of l) h n = e ∙ S.chained.heads h seek_small in
        rw q (record {
          inside = last_in_inside (buckets_of l) h n;
          belongs = last_in_belongs (buckets_of l) h n;
          rest = below n ∙ sym (or_none (find_gate g (nodes_of l (last_in (buckets_of l) h n))));
        })
      where
        or_none : (r : Option ℕ) → or_else r none ≡ r
        or_none none = refl
        or_none (some j) = refl

    -- at node w
    module _ (at : core.Option ℕ) (w : ℕ) (is : at ≡ Some w) (r : core.Option ℕ) (K : Seeking l n h g (counted at) r) where
      inside : w < n
      inside = let i = K.inside in rw is at i

      module _ (q : ℕ) (e : q ≡ cell l link_base w) where
        next_is : q ≡ last_in (buckets_of l) h w
        next_is = e ∙ S.chained.links w inside ∙ ap (λ (b : ℕ). last_in (buckets_of l) b w) (K.belongs w (ap counted is))

        -- numbers fall down a chain
        pub seek_less : q < counted at
        seek_less = rw is (omega (arith, next_is, last_in_inside (buckets_of l) h w))

        pub seek_next : (t : Bool) (s : core.Option ℕ) → t ≡ same_gate g (gate_at l w) → s ≡ cond t (Some w) r → Seeking l n h g q s
        seek_next t s et es =
            let i = inside in
            let a = last_in_inside (buckets_of l) h w in
            let turn : or_else (find_gate g (nodes_of l (counted at))) (as_option r) ≡ or_else (find_gate g (nodes_of l w)) (as_option s) =
            ap (λ (x : core.Option ℕ). or_else (find_gate g (nodes_of l (counted x))) (as_option r)) is ∙ find_turn w t r et ∙ ap (λ (x : core.Option ℕ). or_else (find_gate g (nodes_of l w)) (as_option x)) (sym es) in
            rw next_is (record {
              inside = omega arith;
              belongs = last_in_belongs (buckets_of l) h w;
              rest = K.rest ∙ turn ∙ ap (λ (x : Option ℕ). or_else x (as_option s)) (below w);
            })

    -- all are met
    pub seek_end : (at r : core.Option ℕ) → at ≡ None → Seeking l n h g (counted at) r → as_option r ≡ find_gate g (nodes_of l n)
    unfolding find_gate
    seek_end at r e K = sym (K.rest ∙ ap (λ (x : core.Option ℕ). or_else (find_gate g (nodes_of l (counted x))) (as_option r)) e ∙ ap (λ (x : List Gate). or_else (find_gate g x) (as_option r)) (nodes_of_none l))
