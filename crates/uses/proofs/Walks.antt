-- Laws of the loops that count uses.
use Prim.Native.Nat.{suc, zero, ℕ, ◌+◌, ◌<◌, ◌≤◌}
use mathlib.Core.Path.{ap, refl, sym, ◌∙◌, ◌≡◌}
use mathlib.Core.Bool.{Bool, false, true}
use mathlib.Core.List.{List, [], ◌++◌, ◌∷◌}
use native.Mathlib.Omega.{arith}
use native.Mathlib.Nat.{le_refl}
use native.Mathlib.Numerals.{add-one}
use mir.Syntax.{w64}
use mir.Val.{Fits}
use lib.ListN.{length}
use Rattle.laws.specs.Lists.{All, tab}
use Rattle.model.specs.Sharing.{takes}
use Rattle.pairs.specs.Lists.{area_size, zeroed}
use Rattle.tables.specs.Layout.{count_at, first_at, gate_at, input_at, ins_at}
use Rattle.uses.specs.Loading.{Between, Counting, Marked, Node, Source, lists_in}
use Rattle.uses.specs.Uses.{Named, bump, tally, tally_all, use_room}
use Rattle.laws.proofs.Choices.{by_bool}
use Rattle.laws.proofs.Lists.{all_append, all_of}
use Rattle.laws.proofs.Tabs.{get_or_tab, length_tab}
use Rattle.uses.proofs.Slots.{lists_next, lists_none, lists_skip}
use Rattle.uses.proofs.Tallies.{marked}
use Rattle.kinds.specs.declared.Family.{Family}

-- the first j inputs of node v
unfoldable pub ahead : List ℕ → ℕ → ℕ → List ℕ
ahead l v j = tab (λ k. input_at l (first_at l v + k)) j

pub ahead_none : (l : List ℕ) (v : ℕ) → ahead l v 0 ≡ []
unfolding ahead tab
ahead_none l v = refl

pub ahead_suc : (l : List ℕ) (v j : ℕ) → ahead l v (suc j) ≡ ahead l v j ++ (input_at l (first_at l v + j) ∷ [])
unfolding ahead tab
ahead_suc l v j = refl

pub ahead_all : (l : List ℕ) (v : ℕ) → ahead l v (count_at l v) ≡ ins_at l v
unfolding ahead ins_at
ahead_all l v = refl

-- ---- what a node allows

module _ (l : List ℕ) (v : ℕ) (N : Node l v) where
  pub ins_named : All Named (ins_at l v)
  unfolding ins_at
  ins_named = all_of Named (tab (λ k. input_at l (first_at l v + k)) (count_at l v)) 0 (λ j h.
      let q : j < count_at l v = rw length_tab at h in
      rw (get_or_tab (λ k. input_at l (first_at l v + k)) (count_at l v) j 0 q) (N.names j q))

  module _ (f n j : ℕ) (ef : f ≡ first_at l v) (en : n ≡ count_at l v) (h : j < n) where
    pub node_place : f + j < 2048
    node_place = omega (arith, N.ends)

    pub node_fits : Fits w64 (f + j)
    node_fits = record { fits = omega (arith, N.ends) }

    pub node_named : (s : ℕ) → s ≡ input_at l (f + j) → Named s
    node_named s e = rw (e, ef) (N.names j (omega arith))

pub source_few : (l : List ℕ) (n v : ℕ) → Source l n → v < n → v < 512
source_few l n v S h = omega (arith, S.few)

pub source_named : (f : Family) (l : List ℕ) (n : ℕ) → Source l n → (v : ℕ) → v ≤ n → All (All Named) (lists_in f l v)
source_named f l n S zero h = rw (lists_none f l) tt
source_named f l n S (suc v) h = by_bool (takes f (gate_at l v))
    (λ t. rw (lists_next f l v t) (all_append (All Named) (lists_in f l v) (ins_at l v ∷ []) (source_named f l n S v (omega arith)) (ins_named l v (S.nodes v h), tt)))
    (λ t. rw (lists_skip f l v t) (source_named f l n S v (omega arith)))

-- ---- count_gate

tally_snoc : (l m : List ℕ) (x : ℕ) → tally l (m ++ (x ∷ [])) ≡ bump (tally l m) x
unfolding tally
tally_snoc l [] x = refl
tally_snoc l (y ∷ m) x = tally_snoc (bump l y) m x

tally_none : (l : List ℕ) → l ≡ tally l []
unfolding tally
tally_none l = refl

pub record Tallied (from l₀ l : List ℕ) (v j : ℕ) : Type 0 where
  pub upto : j ≤ count_at from v
  pub same : length l ≡ length l₀
  pub words : l ≡ tally l₀ (ahead from v j)

pub gate_start : (from l : List ℕ) (v : ℕ) → Tallied from l l v 0
gate_start from l v = record { upto = omega arith; same = refl; words = rw (ahead_none from v) (tally_none l) }

module _ (from l₀ l : List ℕ) (v j : ℕ) (inv : Tallied from l₀ l v j) where
  pub gate_long : Counting from l₀ v → area_size ≤ length l
  gate_long c = omega (arith, c.long, inv.same)

  pub gate_step : (f n s : ℕ) (m : List ℕ) → f ≡ first_at from v → n ≡ count_at from v → j < n → s ≡ input_at from (f + j) → m ≡ bump l s → length m ≡ length l → Tallied from l₀ m v (j + 1)
  gate_step f n s m ef en h es em len = record {
    upto = omega arith;
    same = len ∙ inv.same;
    words = let q : s ≡ input_at from (first_at from v + j) = rw (← ef) es in rw (add-one j, ahead_suc, tally_snoc, ← inv.words, ← q) em;
  }

  pub gate_end : (n : ℕ) → n ≡ count_at from v → n ≤ j → l ≡ tally l₀ (ins_at from v)
  gate_end n en h =
      let a = inv.upto in
      let e : j ≡ count_at from v = omega arith in
      inv.words ∙ ap (tally l₀) (ap (ahead from v) e ∙ ahead_all from v)

pub ruleset gate_counts = (node_place, node_fits, node_named, gate_start, gate_long, gate_step, gate_end)

-- ---- count_uses

tally_all_snoc : (l : List ℕ) (gs : List (List ℕ)) (m : List ℕ) → tally_all l (gs ++ (m ∷ [])) ≡ tally (tally_all l gs) m
unfolding tally_all
tally_all_snoc l [] m = refl
tally_all_snoc l (g ∷ gs) m = tally_all_snoc (tally l g) gs m

tally_all_none : (l : List ℕ) → l ≡ tally_all l []
unfolding tally_all
tally_all_none l = refl

pub record Tallies (f : Family) (from l₀ l : List ℕ) (n v : ℕ) : Type 0 where
  pub upto : v ≤ n
  pub same : length l ≡ length l₀
  pub words : l ≡ tally_all l₀ (lists_in f from v)

pub uses_start : (f : Family) (from l : List ℕ) (n : ℕ) → Tallies f from l l n 0
uses_start f from l n = record { upto = omega arith; same = refl; words = rw (lists_none f from) (tally_all_none l) }

module _ (f : Family) (from l₀ l : List ℕ) (n v : ℕ) (inv : Tallies f from l₀ l n v) (h : v < n) where
  module _ (b : Between from l₀ n) where
    pub uses_few : v < 512
    uses_few = source_few from n v b.source h

    pub uses_gate : Counting from l v
    uses_gate = record { node = b.source.nodes v h; long = omega (arith, b.long, inv.same) }

  module _ (t : Bool) (et : t ≡ takes f (gate_at from v)) where
    pub uses_skip : t ≡ false → Tallies f from l₀ l n (v + 1)
    uses_skip q =
        let z : takes f (gate_at from v) ≡ false = sym et ∙ q in
        record { upto = omega arith; same = inv.same; words = rw (add-one v, lists_skip f from v z) inv.words }

    pub uses_next : t ≡ true → (m : List ℕ) → m ≡ tally l (ins_at from v) → length m ≡ length l → Tallies f from l₀ m n (v + 1)
    uses_next q m em len =
        let z : takes f (gate_at from v) ≡ true = sym et ∙ q in
        record { upto = omega arith; same = len ∙ inv.same; words = rw (add-one v, lists_next f from v z, tally_all_snoc, ← inv.words) em }

pub uses_end : (f : Family) (from l₀ l : List ℕ) (n v : ℕ) → Tallies f from l₀ l n v → n ≤ v → l ≡ tally_all l₀ (lists_in f from n)
uses_end f from l₀ l n v inv h = let a = inv.upto in let e : v ≡ n = omega arith in inv.words ∙ ap (λ k. tally_all l₀ (lists_in f from k)) e

pub ruleset uses_counts = (uses_start, uses_few, uses_gate, uses_skip, uses_next, uses_end)

-- ---- count_signal_usage

pub between_same : (from l m : List ℕ) (n : ℕ) → Between from l n → length m ≡ length l → Between from m n
between_same from l m n b e = record { source = b.source; long = omega (arith, b.long) }

pub mark_end : (f : Family) (from l m o : List ℕ) (n : ℕ) → Between from l n → m ≡ zeroed l use_room → o ≡ tally_all m (lists_in f from n) → Marked (lists_in f from n) l o
mark_end f from l m o n b em eo = marked l m o (lists_in f from n) b.long (source_named f from n b.source n (le_refl _)) em eo

pub ruleset marks = (between_same, mark_end)
