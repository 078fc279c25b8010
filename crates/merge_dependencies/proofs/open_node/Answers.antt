-- `open_node`: each need by its law.
use Rattle.merge_dependencies.proofs.Words.{open_nodes}
use borrow.Author.Rules.{rules}
use Rattle.merge_dependencies.proofs.open_node.Goals as goal

pub returns-then-at-n : goal.returns-then-at-n
returns-then-at-n c = search (rules, open_nodes)

pub move_inputs-requires : goal.move_inputs-requires
move_inputs-requires c = search (rules, open_nodes)

pub returns : goal.returns
returns c = search (rules, open_nodes)
