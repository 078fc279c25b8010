-- One gate of the flattened network, put behind those before it: what each function asks and leaves.
use Rattle.std.specs.Prelude.{suc, ℕ, ◌+◌, ◌<◌, ◌≤◌, ◌≡◌, true, Option, List, [], ◌++◌, ◌∷◌, length}
use Rattle.kinds.specs.declared.Family.{Family}
use Rattle.model.specs.Gate.{Gate}
use Rattle.model.specs.Sharing.{inside}
use Rattle.model.proofs.Names.{In}
use Rattle.tables.specs.Building.{Packed}
use Rattle.tables.specs.Layout.{count_at, first_at, gate_at, ins_at, net_size, nodes_of}
use Rattle.merge_dependencies.specs.Pushing.{behind}

-- node v of `from` is put behind the nodes of l, all that there are below v
pub record Puts (from l : List ℕ) (v at : ℕ) : Type 0 where
  pub source : net_size ≤ length from
  pub node : v < 512
  pub ends : first_at from v + count_at from v ≤ 2048
  pub packed : Packed l v at

-- and an And or Xor names only these
pub record Flattens (from l : List ℕ) (v at : ℕ) : Type 0 where
  pub puts : Puts from l v at
  pub below : (f : Family) → inside f (gate_at from v) ≡ true → In (λ w. w < v) (ins_at from v)

-- from l, m has the gate g as its node v, its inputs from `at` on, if they have room
pub record Grew (l m : List ℕ) (v at : ℕ) (g : Gate) (r : Option ℕ) : Type 0 where
  pub answer : r ≡ behind at (length g.ins)
  pub packed : at + length g.ins ≤ 2048 → Packed m (suc v) (at + length g.ins)
  pub nodes : at + length g.ins ≤ 2048 → nodes_of m (suc v) ≡ nodes_of l v ++ (g ∷ [])
