-- `factor_pass`: each need by its law.
use native.Mathlib.Omega.{arith}
use Rattle.factor_gates.proofs.Passings.{pass_few, pass_pairs}
use Rattle.factor_gates.proofs.pass.factor_pass.Goals as goal

pub returns-then-pair_places-gt4096 : goal.returns-then-pair_places-gt4096
returns-then-pair_places-gt4096 c = pass_pairs _ _ _ _ _ c.load_lists-g.ensures _ c.pair_places.ensures (omega arith)

pub grow_shared-requires : goal.grow_shared-requires
grow_shared-requires c = (c.load_lists-g.ensures, pass_few _ _ _ c.pair_places.ensures (omega arith))
