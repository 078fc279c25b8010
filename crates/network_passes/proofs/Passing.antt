-- What the pass left in the other area is what is written.
use mathlib.Core.Path.{◌≡◌, refl, sym, ap, ◌∙◌}
use mathlib.Core.Bool.{Bool, true, false}
use mathlib.Core.List.{List}
use Prim.Native.Nat.{ℕ, ◌+◌, ◌≤◌, ◌<◌}
use native.Mathlib.Omega.{arith}
use lib.ListN.{length}
use Rattle.model.specs.Answers.{Answer}
use Rattle.std.specs.Prelude.{Result, Ok, Err}
use Rattle.laws.specs.Lists.{tab}
use Rattle.laws.proofs.Tabs.{tab_ext}
use Rattle.model.specs.Gate.{size}
use Rattle.model.specs.Image.{image_of}
use Rattle.model.specs.Network.{translation, mapping_of, sorts, topo_sort, topo_order, cleanup, cleanup_order}
use Rattle.model.specs.Answers.{written, in_room}
use Rattle.tables.specs.Layout.{span, cell, tr_base}
use Rattle.tables.specs.Holding.{network_of}
use Rattle.tables.specs.Working.{Answered2}
use Rattle.tables.specs.declared.counts.Counts.{Counts}
use Rattle.tables.proofs.Holding.{size_network, nodes_few}
use Rattle.write_image.specs.Writing.{mapping_in}
use Rattle.write.specs.Mapping.{HeldMapped}
use Rattle.topo_sort.specs.Sorts.{Sortable, sorting_of, Sorted}
use Rattle.refusals.specs.Numbers.{numbered}
use Rattle.refusals.specs.declared.Refusal.{Refusal}
use Rattle.refusals.specs.declared.Refusal.TheVariants.{Looped}
use Rattle.cleanup.specs.Marking.{Cleanable, Cleaned}
use Rattle.network_passes.specs.Passes.{Passable, passed, cleanup_pass, sort_pass}

-- a mapping in the words, by what the words are
pub mapping_is : (from l : List ℕ) (c : Counts) (τ : ℕ → ℕ) → ((v : ℕ) → v < c.nodes → cell l tr_base v ≡ τ v) → mapping_in l c.nodes ≡ mapping_of (size (network_of from c)) τ
unfolding mapping_in
mapping_is from l c τ h = tab_ext (cell l tr_base) τ c.nodes h ∙ ap (tab τ) (sym (size_network from c))

module _ (from to : List ℕ) (c : Counts) (P : Passable from to c) where
  -- room for the mapping behind the result
  behind : (l : List ℕ) → span ≤ length l → tr_base + c.nodes ≤ length l
  behind l h = omega (arith, nodes_few from c P.held)

  -- ---- sort

  pub sort_asks : Sortable from to c
  sort_asks = record { held = P.held; room = P.room }

  -- the answer tells whether there is an order
  full : (b : Bool) → Ok tt ≡ sorting_of b → b ≡ true
  full true e = refl
  full false e = absurd cc

  none : (e : Refusal) (b : Bool) → Err e ≡ sorting_of b → (b ≡ false) × (e ≡ Looped)
  none e true q = absurd cc
  none e false q = (refl, cc)

  pub sort_looped : (l : List ℕ) (e : Refusal) → Sorted from l c (Err e) → (r : Result ℕ Refusal) (x : Refusal) → r ≡ Err x → x ≡ e → (out second : List ℕ)
      → Answered2 (passed sort_pass (network_of from c) (length out) (length second)) out second (numbered r) out second
  unfolding sort_pass
  sort_looped l e S r x p q out second =
      let z = none e (sorts (network_of from c)) S.answer in
      rw (p, q, z.1) (record { first = record { answer = rw z.0; result = rw z.0 }; second_is = rw z.0 })

  module _ (l : List ℕ) (S : Sorted from l c (Ok tt)) where
    pub sort_held : HeldMapped l c c.nodes
    sort_held = record { held = (S.holds refl).held; inside = behind l S.room }

    pub sort_written : (out second : List ℕ) (r : Answer) (out' second' : List ℕ)
        → Answered2 (in_room (length out) (length second) (written (image_of (network_of l c)) (mapping_in l c.nodes))) out second r out' second'
        → Answered2 (passed sort_pass (network_of from c) (length out) (length second)) out second r out' second'
    unfolding sort_pass
    sort_written out second r out' second' D =
        let z : sorts (network_of from c) ≡ true = full (sorts (network_of from c)) S.answer in
        let n : network_of l c ≡ topo_sort (network_of from c) = (S.holds refl).net in
        let m = mapping_is from l c (translation (size (network_of from c)) (topo_order (network_of from c))) (S.map refl) in
        rw (z, ← n, ← m) D

  -- ---- cleanup

  pub cleanup_asks : Cleanable from to c
  cleanup_asks = record { held = P.held; room = P.room }

  module _ (l : List ℕ) (d : Counts) (S : Cleaned from l c d) where
    -- as many words as a network has nodes, the old one or the new
    pub cleanup_held : (n : ℕ) → n ≤ 512 → HeldMapped l d n
    cleanup_held n h = record { held = S.holds.held; inside = let r = S.room in omega arith }

    pub old_few : c.nodes ≤ 512
    old_few = nodes_few from c P.held

    pub new_few : d.nodes ≤ 512
    new_few = nodes_few l d S.holds.held

    pub cleanup_written : (out second : List ℕ) (r : Answer) (out' second' : List ℕ)
        → Answered2 (in_room (length out) (length second) (written (image_of (network_of l d)) (mapping_in l c.nodes))) out second r out' second'
        → Answered2 (passed cleanup_pass (network_of from c) (length out) (length second)) out second r out' second'
    unfolding cleanup_pass
    cleanup_written out second r out' second' D =
        let n : network_of l d ≡ cleanup (network_of from c) = S.holds.net in
        let m = mapping_is from l c (translation (size (network_of from c)) (cleanup_order (network_of from c))) S.map in
        rw (← n, ← m) D

pub ruleset passes = (sort_asks, cleanup_asks, cleanup_held, old_few, new_few, cleanup_written)
