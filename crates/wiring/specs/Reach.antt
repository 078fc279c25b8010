-- The signals, by reach: how many nodes there must be for a signal to name something.
use Rattle.std.specs.Prelude.{ℕ, suc, Bool, true, cond, ◌&&◌, ◌||◌, List, [], ◌∷◌, take, drop, leb, ltb}
use Rattle.model.specs.Signal.{Ref, rzero, rnode, rinput, ref}
use Rattle.model.specs.Gate.{Gate, is_dff}
use Rattle.model.specs.Normal.{most}
use Rattle.model.specs.Image.{gates_from}
use Rattle.wiring.specs.declared.Wiring.{Wiring}

abbrev pub reach_ref : ℕ → Ref → ℕ
reach_ref i rzero = 0
reach_ref i (rnode v) = suc v
reach_ref i (rinput k) = cond (ltb k i) 0 4294967295

unfoldable pub reach_of : ℕ → ℕ → ℕ
reach_of i s = cond (ltb s 4294967296) (reach_ref i (ref s)) 4294967295

-- the greatest of a list
unfoldable pub reach_all : ℕ → List ℕ → ℕ
reach_all i [] = 0
reach_all i (s ∷ l) = most (reach_of i s) (reach_all i l)

-- of the k words from a position on
unfoldable pub reach_from : ℕ → ℕ → List ℕ → ℕ → ℕ
reach_from i k ws at = reach_all i (take k (drop at ws))

-- each gate reaches nothing absent; each combinational gate, the first being node v, no further than its own number
unfoldable pub named_reach : ℕ → ℕ → List Gate → Bool
named_reach i n [] = true
named_reach i n (g ∷ gs) = leb (reach_all i g.ins) n && named_reach i n gs

unfoldable pub sorted_reach : ℕ → ℕ → List Gate → Bool
sorted_reach i v [] = true
sorted_reach i v (g ∷ gs) = (is_dff g || leb (reach_all i g.ins) v) && sorted_reach i (suc v) gs

-- k records from a position on, the first being node v
unfoldable pub wiring_from : ℕ → ℕ → ℕ → ℕ → List ℕ → ℕ → Wiring
wiring_from i n v k ws at = record { named = named_reach i n (gates_from k ws at); sorted = sorted_reach i v (gates_from k ws at) }
