-- `move_forward`: the words not yet read lie behind those put.
use mathlib.Core.Path.{refl, ap, ◌∙◌}
use native.Mathlib.Nat.{le_antisymm}
use Rattle.tables.specs.Building.{inputs_from, put_inputs}
use Rattle.tables.proofs.Building.{forward_next}
use Rattle.tables.proofs.layout.move_forward.Goals as goal

pub loop-j-init : goal.loop-j-init
unfolding put_inputs
loop-j-init c = refl

pub loop-j-preserved : goal.loop-j-preserved
loop-j-preserved c = c.put_input.ensures ∙ forward_next _ _ _ _ _ c.loop-j.invariant c.requires.1 _ c.input_at-s.ensures

pub returns : goal.returns
returns c = c.loop-j.invariant ∙ ap (put_inputs _ _ (inputs_from _ _)) (le_antisymm c.loop-j.auto.j-end c.loop-j-test.false)
