-- The turns of the search over the nodes, with premises as the code meets them.
use Prim.Native.Nat.{suc, zero, ℕ, ◌+◌, ◌-◌, ◌<◌, ◌≤◌}
use mathlib.Core.Path.{refl, sym, ◌≡◌}
use mathlib.Core.Bool.{Bool, false, true, ◌&&◌, ◌||◌}
use mathlib.Core.List.{List, [], ◌++◌, ◌∷◌}
use native.Mathlib.Omega.{arith}
use native.Mathlib.Nat.{le_antisymm}
use native.Mathlib.Numerals.{add-one}
use Rattle.model.specs.Gate.{Gate}
use Rattle.model.specs.Sharing.{any_repeats, repeats, takes}
use Rattle.std.specs.Prelude.{Ok, Err}
use Rattle.refusals.specs.Numbers.{numbered, unless}
use Rattle.refusals.specs.declared.Refusal.TheVariants.{Repeated}
use Rattle.repeats.specs.Reading.{Node, Nodes, repeats_refusal}
use Rattle.tables.specs.Holding.{Held}
use Rattle.tables.specs.Layout.{gate_at, ins_at, nodes_of}
use Rattle.laws.proofs.Choices.{by_bool}
use Rattle.tables.proofs.Building.{nodes_of_next, nodes_of_none}
use Rattle.tables.proofs.Holding.{nodes_few}
use Rattle.kinds.specs.declared.Family.TheVariants.{And}
use Rattle.tables.specs.declared.counts.Counts.{Counts}

any_append : (a b : List Gate) → any_repeats (a ++ b) ≡ (any_repeats a || any_repeats b)
unfolding any_repeats
any_append [] b = refl
any_append (g ∷ a) b = by_bool (takes And g && repeats g.ins) (λ e. rw e) (λ e. rw e (any_append a b))

or_false : (b : Bool) → (b || false) ≡ b
or_false true = refl
or_false false = refl

module _ (l : List ℕ) where
  any_next : (v : ℕ) → any_repeats (nodes_of l (suc v)) ≡ (any_repeats (nodes_of l v) || takes And (gate_at l v) && repeats (ins_at l v))
  unfolding any_repeats gate_at
  any_next v = rw (nodes_of_next l v, any_append) (rw or_false)

  -- a repeat among the first v nodes is one among more
  any_more : (v d : ℕ) → any_repeats (nodes_of l v) ≡ true → any_repeats (nodes_of l (d + v)) ≡ true
  any_more v zero h = let e : 0 + v ≡ v = omega arith in rw e h
  any_more v (suc d) h = let e : suc d + v ≡ suc (d + v) = omega arith in rw (e, any_next (d + v), any_more v d h)

-- what a caller that holds a network meets
pub held_nodes : (l : List ℕ) (c : Counts) → Held l c → Nodes l c.nodes
held_nodes l c H = record { long = H.long; few = nodes_few l c H; ends = H.ends }

pub node_at : (l : List ℕ) (n v : ℕ) → Nodes l n → v < n → Node l v
node_at l n v N h = record { long = N.long; few = (let q = N.few in omega arith); ends = N.ends v h }

-- none of the first v nodes meets 9
pub record Clear (l : List ℕ) (n v : ℕ) : Type 0 where
  pub none : any_repeats (nodes_of l v) ≡ false
  pub le : v ≤ n

pub clear_start : (l : List ℕ) (n : ℕ) → Clear l n 0
unfolding any_repeats
clear_start l n = record { none = rw (nodes_of_none l); le = omega arith }

module _ (l : List ℕ) (n v : ℕ) (c : Clear l n v) where
  pub clear_end : n ≤ v → false ≡ any_repeats (nodes_of l n)
  clear_end h = let e : v ≡ n = le_antisymm c.le h in sym (rw e at c.none)

  module _ (h : v < n) (t : Bool) (et : t ≡ takes And (gate_at l v)) where
    pub clear_skip : t ≡ false → Clear l n (v + 1)
    clear_skip e = record { none = rw (add-one, any_next l v, c.none, ← et, e); le = omega arith }

    module _ (s : t ≡ true) (r : Bool) (er : r ≡ repeats (ins_at l v)) where
      here : takes And (gate_at l v) && repeats (ins_at l v) ≡ r
      here = rw (← et, s, er)

      pub clear_next : r ≡ false → Clear l n (v + 1)
      clear_next e = record { none = rw (add-one, any_next l v, c.none, here) e; le = omega arith }

      pub met_here : r ≡ true → true ≡ any_repeats (nodes_of l n)
      met_here e =
          let q : (n - suc v) + suc v ≡ n = omega arith in
          let a : any_repeats (nodes_of l (suc v)) ≡ true = rw (any_next l v, c.none, here) e in
          sym (rw q at (any_more l (suc v) (n - suc v) a))

pub ruleset searched = (node_at, clear_start, clear_end, clear_skip, clear_next, met_here)

-- ---- the refusal

module _ (gs : List Gate) (t : Bool) (e : t ≡ any_repeats gs) where
  pub repeats_nine : t ≡ true → numbered {A = Unit} (Err Repeated) ≡ unless (repeats_refusal gs) tt
  unfolding repeats_refusal
  repeats_nine q = rw (← e, q)

  pub repeats_none : t ≡ false → numbered {A = Unit} (Ok tt) ≡ unless (repeats_refusal gs) tt
  unfolding repeats_refusal
  repeats_none q = rw (← e, q)
