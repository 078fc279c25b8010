-- What a network means (document 01, "Evaluation"): the value of a gate, one cycle, runs, and a cycle in bytes.
use Rattle.std.specs.Prelude.{◌≡◌, ℕ, ◌+◌, ◌*◌, ◌/◌, ◌%◌, ◌^◌, ◌<◌, Bool, true, false, not, cond, ◌&&◌, ◌||◌, List, [], ◌∷◌, ◌++◌, map, length, get_or, eqb, ltb}
use Rattle.laws.specs.Bools.{xor, bit}
use Rattle.laws.specs.Lists.{tab, some_below}
use Rattle.kinds.specs.Kinds.{kind_of}
use Rattle.kinds.specs.declared.Kind.{Kind}
use Rattle.kinds.specs.declared.Kind.TheVariants.{And2, Xor2, And3, Xor3, Maj, Mux, AndN, OrN, NandN, NorN, XorN, XnorN, Buf, Dff, Lut}
use Rattle.model.specs.Signal.{Ref, rzero, rnode, rinput, is_inverted, ref}
use Rattle.model.specs.Gate.{Gate, Net, is_dff, gate_at, size}

abbrev pub all_of : List Bool → Bool
all_of [] = true
all_of (b ∷ bs) = b && all_of bs

abbrev pub any_of : List Bool → Bool
any_of [] = false
any_of (b ∷ bs) = b || any_of bs

abbrev pub odd_of : List Bool → Bool
odd_of [] = false
odd_of (b ∷ bs) = xor b (odd_of bs)

-- input k has weight 2^k
abbrev pub weight : List Bool → ℕ
weight [] = 0
weight (b ∷ bs) = bit b + 2 * weight bs

abbrev pub at : List Bool → ℕ → Bool
at l k = get_or l k false

-- a combinational gate's value from its inputs' values and its table
unfoldable pub value_of : Kind → List Bool → ℕ → Bool
value_of And2 l t = all_of l
value_of Xor2 l t = odd_of l
value_of And3 l t = all_of l
value_of Xor3 l t = odd_of l
value_of Maj l t = at l 0 && at l 1 || at l 0 && at l 2 || at l 1 && at l 2
value_of Mux l t = cond (at l 0) (at l 1) (at l 2)
value_of AndN l t = all_of l
value_of OrN l t = any_of l
value_of NandN l t = not (all_of l)
value_of NorN l t = not (any_of l)
value_of XorN l t = odd_of l
value_of XnorN l t = not (odd_of l)
value_of Buf l t = at l 0
value_of Dff l t = false
value_of Lut l t = eqb (t / 2 ^ weight l % 2) 1

-- a flip-flop's next state, from its inputs' values (d, en, res) and its state: en zero holds; en one with res one stores
-- zero; else d is stored
unfoldable pub next_state : List Bool → Bool → Bool
next_state l q = cond (at l 1) (cond (at l 2) false (at l 0)) q

-- a signal's value: i the inputs' values, v the nodes'
abbrev pub ref_value : (ℕ → Bool) → (ℕ → Bool) → Ref → Bool
ref_value i v rzero = false
ref_value i v (rnode w) = v w
ref_value i v (rinput k) = i k

unfoldable pub signal_value : (ℕ → Bool) → (ℕ → Bool) → ℕ → Bool
signal_value i v s = xor (is_inverted s) (ref_value i v (ref s))

-- a gate's value: i the inputs' values, v the nodes'
unfoldable pub gate_value : (ℕ → Bool) → (ℕ → Bool) → Gate → Bool
gate_value i v g = value_of (kind_of g.kind) (map (signal_value i v) g.ins) g.table

-- ---- one cycle: i the inputs' values, st the nodes' states, v the nodes' values

-- what a node shows during the cycle: a flip-flop its state q, any other gate its value
unfoldable pub shows : (ℕ → Bool) → (ℕ → Bool) → Gate → Bool → Bool
shows i v g q = cond (is_dff g) q (gate_value i v g)

-- a valuation that every gate agrees with: what a cycle is, in a network sorted or not
abbrev pub Consistent : Net → (ℕ → Bool) → (ℕ → Bool) → (ℕ → Bool) → Type 0
Consistent N i st v = (n : ℕ) → n < size N → v n ≡ shows i v (gate_at N n) (st n)

-- the forward pass: gates in order, each over the values l of the nodes before it
unfoldable pub forward : (ℕ → Bool) → (ℕ → Bool) → List Gate → List Bool → List Bool
forward i st [] l = l
forward i st (g ∷ gs) l = forward i st gs (l ++ (shows i (at l) g (st (length l)) ∷ []))

-- the valuation of a sorted network
unfoldable pub evaluate : Net → (ℕ → Bool) → (ℕ → Bool) → ℕ → Bool
evaluate N i st n = at (forward i st N.nodes []) n

unfoldable pub outputs : Net → (ℕ → Bool) → (ℕ → Bool) → List Bool
outputs N i v = map (signal_value i v) N.outs

-- the states after the cycle: all flip-flops change together, by the values v of the cycle; no other node's state changes
unfoldable pub next : Net → (ℕ → Bool) → (ℕ → Bool) → (ℕ → Bool) → ℕ → Bool
next N i v st n = cond (is_dff (gate_at N n)) (next_state (map (signal_value i v) (gate_at N n).ins) (st n)) (st n)

-- ---- runs: from a state, over a list of input vectors

-- a valuation for all inputs and states, and one that every gate agrees with throughout
abbrev pub Eval : Type 0
Eval = (ℕ → Bool) → (ℕ → Bool) → ℕ → Bool

abbrev pub Solves : Net → Eval → Type 0
Solves N ev = (i st : ℕ → Bool) → Consistent N i st (ev i st)

-- the outputs of every cycle, and the state behind the last one, by the valuation ev
abbrev pub run_by : Net → Eval → (ℕ → Bool) → List (List Bool) → List (List Bool)
run_by N ev st [] = []
run_by N ev st (i ∷ is) = outputs N (at i) (ev (at i) st) ∷ run_by N ev (next N (at i) (ev (at i) st) st) is

abbrev pub after_by : Net → Eval → (ℕ → Bool) → List (List Bool) → ℕ → Bool
after_by N ev st [] = st
after_by N ev st (i ∷ is) = after_by N ev (next N (at i) (ev (at i) st) st) is

-- the same of a sorted network, by the forward pass
abbrev pub run : Net → (ℕ → Bool) → List (List Bool) → List (List Bool)
run N st is = run_by N (evaluate N) st is

abbrev pub after : Net → (ℕ → Bool) → List (List Bool) → ℕ → Bool
after N st is = after_by N (evaluate N) st is

-- "A fresh run starts them at zero"
abbrev pub all_zero : ℕ → Bool
all_zero n = false

abbrev pub run_from_zero : Net → List (List Bool) → List (List Bool)
run_from_zero N is = run N all_zero is

-- ---- a cycle in bytes: a byte per input, a state byte per node, a byte per output

-- a byte's truth value, and the truth values of bytes
abbrev pub truth : ℕ → Bool
truth b = eqb b 1

abbrev pub truths : List ℕ → ℕ → Bool
truths l k = truth (get_or l k 0)

-- the nodes' values in the cycle
unfoldable pub cycle_values : Net → List ℕ → List ℕ → ℕ → Bool
cycle_values N inputs state = evaluate N (truths inputs) (truths state)

unfoldable pub output_bytes : Net → List ℕ → List ℕ → List ℕ
output_bytes N inputs state = map bit (outputs N (truths inputs) (cycle_values N inputs state))

-- a node's state byte after the cycle: "the state bytes of flip-flops only" are written
unfoldable pub state_byte : Net → List ℕ → List ℕ → ℕ → ℕ
state_byte N inputs state n =
    cond (is_dff (gate_at N n)) (bit (next N (truths inputs) (cycle_values N inputs state) (truths state) n)) (get_or state n 0)

unfoldable pub state_bytes : Net → List ℕ → List ℕ → List ℕ
state_bytes N inputs state = tab (state_byte N inputs state) (size N)

-- 13: "a lent result buffer is shorter than the result; in evaluation, inputs or state too short as well"
unfoldable pub cycle_short : Net → ℕ → ℕ → ℕ → Bool
cycle_short N inputs state outputs = ltb outputs (length N.outs) || ltb inputs N.inputs || ltb state (size N)

-- 14: "an input byte or a flip-flop's state byte above 1"
unfoldable pub input_above : Net → List ℕ → Bool
input_above N inputs = some_below (λ k. ltb 1 (get_or inputs k 0)) N.inputs

unfoldable pub state_above : Net → List ℕ → Bool
state_above N state = some_below (λ n. is_dff (gate_at N n) && ltb 1 (get_or state n 0)) (size N)

-- 13, 14, or 0; `room` is the length lent for the outputs
unfoldable pub cycle_refusal : Net → List ℕ → List ℕ → ℕ → ℕ
cycle_refusal N inputs state room =
    cond (cycle_short N (length inputs) (length state) room) 13
    (cond (input_above N inputs || state_above N state) 14 0)
