-- A gate's value by the values of a cycle that stand in an area, and what a node shows.
use Rattle.std.specs.Prelude.{ℕ, ◌+◌, ◌*◌, ◌^◌, Bool, false, not, cond, List, eqb, ltb}
use Rattle.kinds.specs.Kinds.{kind_of}
use Rattle.kinds.specs.declared.Kind.{Kind}
use Rattle.kinds.specs.declared.Kind.TheVariants.{And2, Xor2, And3, Xor3, Maj, Mux, AndN, OrN, NandN, NorN, XorN, XnorN, Buf, Dff, Lut}
use Rattle.laws.specs.Lists.{tab}
use Rattle.model.specs.Evaluate.{value_of, truths}
use Rattle.tables.specs.Layout.{kind_at, first_at, count_at, low_at, high_at}
use Rattle.signal_values.specs.Signals.{is_odd, input_value, dff_at}

-- a gate's value by the number n of its inputs that are one
abbrev pub ones_value : Kind → ℕ → ℕ → Bool
ones_value And2 count n = eqb n count
ones_value Xor2 count n = is_odd n
ones_value And3 count n = eqb n count
ones_value Xor3 count n = is_odd n
ones_value Maj count n = ltb 1 n
ones_value Mux count n = false
ones_value AndN count n = eqb n count
ones_value OrN count n = ltb 0 n
ones_value NandN count n = not (eqb n count)
ones_value NorN count n = eqb n 0
ones_value XorN count n = is_odd n
ones_value XnorN count n = not (is_odd n)
ones_value Buf count n = ltb 0 n
ones_value Dff count n = false
ones_value Lut count n = false

-- the gate of node v, and what the node shows
unfoldable pub gate_value_at : List ℕ → List ℕ → ℕ → Bool
gate_value_at f t v = value_of (kind_of (kind_at f v)) (tab (input_value f t (first_at f v)) (count_at f v)) (low_at f v + 2 ^ 32 * high_at f v)

unfoldable pub shown_at : List ℕ → List ℕ → List ℕ → ℕ → Bool
shown_at f t st v = cond (dff_at f v) (truths st v) (gate_value_at f t v)
