-- Forms that theorems about networks speak of: what signals name, orders of nodes, ranks.
use Rattle.std.specs.Prelude.{◌≡◌, true, false, ℕ, ◌-◌, ◌/◌, ◌<◌, List, length, get_or}
use Rattle.laws.specs.Lists.{All, Distinct}
use Rattle.model.specs.Signal.{is_var}
use Rattle.model.specs.Gate.{Net, gate_at, size}
use Rattle.model.specs.Network.{vars, is_d, deps}
use Rattle.model.proofs.Names.{In}

-- the node that signal s names, if it names one, is below n: by the test and the number that code meets
abbrev pub Below : ℕ → ℕ → Type 0
Below n s = is_var s ≡ true → s / 2 - 1 < n

-- gates name nodes of the network only, and so do outputs
abbrev pub Inside : Net → Type 0
Inside N = (v : ℕ) → v < size N → All (λ d. d < size N) (deps N v)

abbrev pub OutsInside : Net → Type 0
OutsInside N = All (λ d. d < size N) (vars N.outs)

-- no loop among the nodes of K: combinational gates name lower ranks only
pub record Ranked (N : Net) (K : ℕ → Type 0) : Type 0 where
  pub rank : ℕ → ℕ
  pub below : (n : ℕ) → K n → is_d N n ≡ false → In (λ m. K m × (rank m < rank n)) (gate_at N n).ins

-- ---- orders of nodes, as `remap` takes them

-- v stands in the order; and v stands before place j
abbrev pub Kept : List ℕ → ℕ → Type 0
Kept order v = (j : ℕ) × (j < length order) × (get_or order j 0 ≡ v)

abbrev pub Before : List ℕ → ℕ → ℕ → Type 0
Before order j v = (k : ℕ) × (k < j) × (get_or order k 0 ≡ v)

-- nodes of N without repeats, with all that their gates and the outputs name
pub record Order (N : Net) (order : List ℕ) : Type 0 where
  pub distinct : Distinct order
  pub bound : All (λ o. o < size N) order
  pub ins : (n : ℕ) → Kept order n → In (Kept order) (gate_at N n).ins
  pub outs : In (Kept order) N.outs

-- each combinational gate stands after all that it names
abbrev pub Topo : Net → List ℕ → Type 0
Topo N order = (j : ℕ) → j < length order → is_d N (get_or order j 0) ≡ false → In (Before order j) (gate_at N (get_or order j 0)).ins
