-- What the new nodes of a factoring pass leave room for.
use Rattle.std.specs.Prelude.{min, ℕ, ◌+◌, ◌-◌, ◌/◌, cond, List, [], ◌∷◌, length}
use Rattle.model.specs.Gate.{Gate}
use Rattle.model.specs.Sharing.{takes}
use Rattle.kinds.specs.declared.Family.{Family}

-- the gate inputs of a network whose gates of the pass are Bufs
unfoldable pub buf_inputs : Family → List Gate → ℕ
buf_inputs f [] = 0
buf_inputs f (g ∷ gs) = cond (takes f g) 1 (length g.ins) + buf_inputs f gs

-- how many new nodes 12 lets in
unfoldable pub room_of : Family → List Gate → ℕ
room_of f gs = min (512 - length gs) ((2048 - buf_inputs f gs) / 2)
