-- The values of a cycle as they stand in an area: a signal's, and those of a gate's inputs.
use Rattle.std.specs.Prelude.{◌≡◌, ℕ, zero, suc, ◌+◌, ◌/◌, ◌%◌, ◌≤◌, ◌<◌, Bool, true, List, length, eqb}
use Rattle.kinds.specs.Kinds.{kind_of, is_flip_flop}
use Rattle.laws.specs.Bools.{xor, bit}
use Rattle.model.specs.Signal.{is_inverted}
use Rattle.model.specs.Gate.{fits_code}
use Rattle.tables.specs.Layout.{net_size, kind_at, first_at, count_at, input_at, tr_base, stack_base, cell}

-- ---- where the values stand: from the tables behind a network to the stack, a word for each index that a signal can have

abbrev pub values_base : ℕ
values_base = tr_base

abbrev pub values_end : ℕ
values_end = stack_base

-- 0 for the constant, v + 1 for node v, 2047 - k for input k
unfoldable pub slot : ℕ → ℕ
slot s = s / 2 % 2048

abbrev pub is_odd : ℕ → Bool
is_odd n = eqb (n % 2) 1

-- a signal's value
unfoldable pub value_at : List ℕ → ℕ → Bool
value_at t s = xor (is_inverted s) (is_odd (cell t values_base (slot s)))

-- of the gate inputs from `first` on, the j-th
unfoldable pub input_value : List ℕ → List ℕ → ℕ → ℕ → Bool
input_value f t first j = value_at t (input_at f (first + j))

-- how many of the first n are one
unfoldable pub ones_to : (ℕ → Bool) → ℕ → ℕ
ones_to g zero = 0
ones_to g (suc n) = ones_to g n + bit (g n)

-- node v is a flip-flop
unfoldable pub dff_at : List ℕ → ℕ → Bool
dff_at f v = is_flip_flop (kind_of (kind_at f v))

-- ---- what is asked of the areas and the buffers

-- gate inputs can be read, and their values
pub record Reads (f t : List ℕ) (first count : ℕ) : Type 0 where
  pub long : net_size ≤ length f
  pub room : values_end ≤ length t
  pub ends : first + count ≤ 2048

-- node v has a gate of its kind's shape
pub record Gated (f t : List ℕ) (v : ℕ) : Type 0 where
  pub node : v < 512
  pub reads : Reads f t (first_at f v) (count_at f v)
  pub fits : fits_code (kind_at f v) (count_at f v) ≡ true
