-- `push_signal`: what it leaves, by law.
use mathlib.Core.Path.{ap}
use mathlib.Core.Bool.{not}
use Rattle.cleanup.proofs.Pushes.{push_done}
use Rattle.cleanup.proofs.push_signal.Goals as goal

pub returns : goal.returns
returns c = push_done _ _ c.is_node.ensures _ _ c.requires _ _ (ap not c.if-not-is_node.false) c.node_of-d.ensures c.put_word.ensures
