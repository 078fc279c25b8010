-- The inputs stand at the front.
use native.Mathlib.Omega.{arith}
use Rattle.gates.proofs.Fronts.{put_is}
use Rattle.gates.proofs.made.Goals as goal

pub returns : goal.returns
returns g c = put_is _ _ _ _ _ _ c.loop-i.invariant (omega arith) (omega arith)
