-- `down_one`: a count above one goes down.
use mathlib.Core.Path.{ap}
use mathlib.Core.Bool.{not}
use Rattle.count_down.proofs.Downs.{lower_more}
use Rattle.count_down.proofs.down_one.Goals as goal

pub returns-then-n-gt1 : goal.returns-then-n-gt1
returns-then-n-gt1 c = lower_more _ _ c.is_node.ensures _ _ _ _ _ (ap not c.if-not-is_node.false) c.node_of-d.ensures c.word-n.ensures c.if-n-gt1.true c.put_word.ensures
