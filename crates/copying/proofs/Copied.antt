-- Laws of copying: the words of a gate's inputs, a gate, the outputs.
use Prim.Native.Nat.{suc, ℕ, ◌+◌, ◌*◌, ◌<◌, ◌^◌, ◌≤◌}
use mathlib.Core.Path.{ap, refl, ◌∙◌, ◌≡◌}
use mathlib.Core.List.{List, [], ◌++◌, ◌∷◌}
use native.Mathlib.Omega.{arith}
use mir.Syntax.{w32}
use mir.Val.{Fits}
use lib.ListN.{length}
use Rattle.copying.specs.Copies.{Putting, put_copy}
use Rattle.laws.specs.Lists.{tab}
use Rattle.tables.specs.Building.{CopiesInputs, Packed, inputs_from, put_inputs, put_node}
use Rattle.tables.specs.Layout.{count_at, first_at, gate_at, high_at, ins_at, kind_at, low_at, net_size, nodes_of, put_gate, put_table}
use Rattle.tables.proofs.Building.{nodes_of_put_node, packed_put_node}

-- ---- copy_gate

module _ (from l : List ℕ) (v at : ℕ) (P : Putting from l v at) where
  pub gate_copies : (n f : ℕ) → n ≡ count_at from v → f ≡ first_at from v → CopiesInputs from l f at n
  gate_copies n f en ef = record { source = P.source; long = P.long; ends = omega (arith, P.ends); room = omega (arith, P.room) }

  -- what reading the node asks, and writing it
  pub gate_read : (v < 512) × (net_size ≤ length from)
  gate_read = (P.few, P.source)

  pub gate_room : (n : ℕ) → n ≡ length l → (v < 512) × (net_size ≤ n)
  gate_room n e = (P.few, rw e P.long)

  pub gate_at_lem : Fits w32 at
  gate_at_lem = record { fits = omega (arith, P.room) }

  pub gate_count : (n : ℕ) → n ≡ count_at from v → Fits w32 n
  gate_count n en = record { fits = omega (arith, P.room) }

  pub gate_done : (n f k lo hi : ℕ) (m o q : List ℕ) → n ≡ count_at from v → f ≡ first_at from v → k ≡ kind_at from v → lo ≡ low_at from v → hi ≡ high_at from v
      → m ≡ put_inputs l at (inputs_from from f) n → o ≡ put_gate m v k at n → q ≡ put_table o v lo hi → q ≡ put_copy from l v at
  unfolding put_copy put_node
  gate_done n f k lo hi m o q en ef ek el eh em eo eq = eq ∙ rw (eo, em, en, ef, ek, el, eh)

-- the gate that is put is the gate that is read
is_copy : (from : List ℕ) (v : ℕ) → record { kind = kind_at from v; ins = tab (inputs_from from (first_at from v)) (count_at from v); table = low_at from v + 2 ^ 32 * high_at from v } ≡ gate_at from v
unfolding gate_at ins_at inputs_from
is_copy from v = refl

module _ (from l : List ℕ) (v at : ℕ) (P : Packed l v at) (h : v < 512) (r : at + count_at from v ≤ 2048) where
  pub packed_put_copy : Packed (put_copy from l v at) (suc v) (at + count_at from v)
  unfolding put_copy
  packed_put_copy = packed_put_node l v at P (kind_at from v) (inputs_from from (first_at from v)) (count_at from v) (low_at from v) (high_at from v) h r

  pub nodes_of_put_copy : nodes_of (put_copy from l v at) (suc v) ≡ nodes_of l v ++ (gate_at from v ∷ [])
  unfolding put_copy
  nodes_of_put_copy =
      nodes_of_put_node l v at P (kind_at from v) (inputs_from from (first_at from v)) (count_at from v) (low_at from v) (high_at from v) h r
      ∙ ap (λ g. nodes_of l v ++ (g ∷ [])) (is_copy from v)
