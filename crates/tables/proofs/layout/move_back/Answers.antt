-- `move_back`: the words not yet read lie before those put.
use native.Mathlib.Omega.{arith}
use mathlib.Core.Path.{◌∙◌}
use Rattle.tables.proofs.Building.{back_start, back_next, back_end}
use Rattle.tables.proofs.layout.move_back.Goals as goal

pub loop-j-init : goal.loop-j-init
loop-j-init c = back_start _ _ _ _

pub loop-j-preserved : goal.loop-j-preserved
loop-j-preserved c = c.put_input.ensures ∙ back_next _ _ _ _ _ _ _ c.loop-j.invariant (omega arith) (omega arith) c.requires.1 _ c.input_at-s.ensures

pub returns : goal.returns
returns c = back_end _ _ _ _ _ _ c.loop-j.invariant (omega arith)
