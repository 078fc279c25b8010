use mathlib.Core.Path.{◌∙◌}
use Rattle.laws.proofs.Turns.{turn_up}
use Rattle.count_down.proofs.Downs.{downs_turn, downs_next}
use Rattle.count_down.proofs.count_down.Goals as goal

pub down_one-top-requires : goal.down_one-top-requires
down_one-top-requires c = downs_turn _ _ _ _ _ _ _ _ _ c.requires c.loop-j.invariant.2 c.loop-j-test.true c.input_at.ensures

pub loop-j-preserved : goal.loop-j-preserved
loop-j-preserved c = (turn_up c.loop-j-test.true, c.down_one-top.auto.to ∙ c.loop-j.invariant.1, downs_next _ _ _ _ _ _ _ _ _ _ c.loop-j.invariant.2 c.input_at.ensures c.down_one-top.ensures)
