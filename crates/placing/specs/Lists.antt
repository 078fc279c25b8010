-- A gate gathered into the list, as it is looked up, and normalized there.
use Rattle.std.specs.Prelude.{ℕ, ◌+◌, ◌≤◌, Bool, true, false, cond, List, length}
use Rattle.model.specs.Signal.{remap_order}
use Rattle.model.specs.Gate.{Gate}
use Rattle.model.specs.Normal.{Norm, copied, made, make_canonical}
use Rattle.model.specs.Network.{as_is}
use Rattle.tables.specs.Layout.{net_size, input_at}
use Rattle.translation.specs.Tables.{tr_of}
use Rattle.gates.specs.declared.Normalization.{Normalization}
use Rattle.gates.specs.declared.Normalization.TheVariants.{Copy, Node}
use Rattle.same_gate.specs.Listed.{list_base}
use Rattle.lookup.specs.Lists.{filled}
use Rattle.placing.specs.declared.list.Sweep.{Sweep}
use Rattle.placing.specs.declared.list.Sweep.TheVariants.{FlipFlops, Gates}

-- whether a sweep merges the flip-flops
abbrev pub of_flip_flops : Sweep → Bool
of_flip_flops FlipFlops = true
of_flip_flops Gates = false

-- the signal that a gate is looked up by: a flip-flop's is the old one
abbrev pub looked_up : Bool → (ℕ → ℕ) → ℕ → ℕ
looked_up cell τ s = cond cell s (remap_order τ s)

-- l with the n inputs of src from f on in its list, as they are looked up
unfoldable pub gathered : List ℕ → List ℕ → Bool → ℕ → ℕ → List ℕ
gathered src l c f n = filled l list_base (λ j. looked_up c (tr_of l) (input_at src (f + j))) n

-- dedup's parameter: each gate normalized, or looked up as it is
abbrev pub norm_of : Bool → Gate → Norm
norm_of true = make_canonical
norm_of false = as_is

-- a normalization with the table that its gate has
abbrev pub with_table : ℕ → Norm → Norm
with_table t (copied s) = copied s
with_table t (made g z) = made (record { kind = g.kind; ins = g.ins; table = t }) z

-- how many inputs a normalization's gate has
abbrev pub count_of : Normalization → ℕ
count_of (Copy s) = 0
count_of (Node k n z) = n

-- asked of the areas, for n inputs from f on
pub record Gathers (src l : List ℕ) (f n : ℕ) : Type 0 where
  pub source : net_size ≤ length src
  pub long : 16384 ≤ length l
  pub ends : f + n ≤ 2048
