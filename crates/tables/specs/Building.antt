-- A network put into an area gate after gate, as every pass does it.
use Rattle.std.specs.Prelude.{ℕ, zero, suc, ◌+◌, ◌<◌, ◌≤◌, List, length}
use Rattle.tables.specs.Layout.{net_size, first_at, count_at, input_at, put_gate, put_input, put_table, put_output}

-- l with f 0, .. f (n - 1) as its input words from `at` on
unfoldable pub put_inputs : List ℕ → ℕ → (ℕ → ℕ) → ℕ → List ℕ
put_inputs l at f zero = l
put_inputs l at f (suc n) = put_input (put_inputs l at f n) (at + n) (f n)

-- l with the gate of kind k and inputs f 0, .. f (n - 1) as its node v, its input words from `at` on
unfoldable pub put_node : List ℕ → ℕ → ℕ → ℕ → (ℕ → ℕ) → ℕ → ℕ → ℕ → List ℕ
put_node l v k at f n lo hi = put_table (put_gate (put_inputs l at f n) v k at n) v lo hi

-- l with f 0, .. f (m - 1) as its outputs
unfoldable pub put_outputs : List ℕ → (ℕ → ℕ) → ℕ → List ℕ
put_outputs l f zero = l
put_outputs l f (suc m) = put_output (put_outputs l f m) m (f m)

-- the input words from f on
unfoldable pub inputs_from : List ℕ → ℕ → ℕ → ℕ
inputs_from l f j = input_at l (f + j)

-- n of them, put from `at` on
pub record CopiesInputs (from l : List ℕ) (f at n : ℕ) : Type 0 where
  pub source : net_size ≤ length from
  pub long : net_size ≤ length l
  pub ends : f + n ≤ 2048
  pub room : at + n ≤ 2048

-- there is room in l: v nodes stand in it, and their input words are below `at`
pub record Packed (l : List ℕ) (v at : ℕ) : Type 0 where
  pub long : net_size ≤ length l
  pub few : v ≤ 512
  pub ends : (w : ℕ) → w < v → first_at l w + count_at l w ≤ at
  pub room : at ≤ 2048
