-- Signals (document 01, "Signals and gates"; signal.rs): a word whose bit 0 is inversion and whose rest is the index.
use Rattle.std.specs.Prelude.{ℕ, zero, suc, ◌+◌, ◌-◌, ◌*◌, ◌/◌, ◌%◌, Bool, true, false, not, cond, ◌&&◌, eqb, ltb}
use Rattle.laws.specs.Bools.{xor, bit}

-- index k, inverted or not
unfoldable pub word_of : ℕ → Bool → ℕ
word_of k b = 2 * k + bit b

-- is_inverted
unfoldable pub is_inverted : ℕ → Bool
is_inverted s = eqb (s % 2) 1

-- ind
abbrev pub ind : ℕ → ℕ
ind s = s / 2

-- a signal inverted by b: the Rust's `^`
unfoldable pub flip : ℕ → Bool → ℕ
flip s b = word_of (s / 2) (xor (is_inverted s) b)

-- the Rust's `!`
abbrev pub neg : ℕ → ℕ
neg s = flip s true

-- without_inversion
unfoldable pub without_inversion : ℕ → ℕ
without_inversion s = word_of (s / 2) false

-- the constant of a truth value: the Rust's Signal::from(b)
abbrev pub from_bool : Bool → ℕ
from_bool b = flip 0 b

-- from_var and from_input
abbrev pub from_var : ℕ → ℕ
from_var v = 2 * suc v

abbrev pub from_input : ℕ → ℕ
from_input v = 4294967294 - 2 * v

-- bit 31 marks an input
abbrev pub is_input : ℕ → Bool
is_input s = not (ltb s 2147483648)

abbrev pub is_constant : ℕ → Bool
is_constant s = eqb (s / 2) 0

-- is_var: a node's, neither an input's nor a constant
unfoldable pub is_var : ℕ → Bool
is_var s = not (is_input s) && not (is_constant s)

-- ---- what an index names

pub data Ref : Type 0 where
  rzero : Ref
  rnode : ℕ → Ref
  rinput : ℕ → Ref

unfoldable pub ref_ix : ℕ → Ref
ref_ix k = elim k [ zero ↦ rzero | suc w ↦ cond (ltb w 1073741823) (rnode w) (rinput (2147483646 - w)) ]

unfoldable pub ref : ℕ → Ref
ref s = ref_ix (s / 2)

-- remap_order: a translation takes each node to a signal; constants and inputs stay
abbrev pub remap_ref : (ℕ → ℕ) → Ref → ℕ → ℕ
remap_ref τ rzero s = s
remap_ref τ (rnode w) s = flip (τ w) (is_inverted s)
remap_ref τ (rinput k) s = s

unfoldable pub remap_order : (ℕ → ℕ) → ℕ → ℕ
remap_order τ s = remap_ref τ (ref s) s
