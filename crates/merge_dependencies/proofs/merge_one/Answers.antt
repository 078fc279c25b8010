-- `merge_one`: each need by its law.
use Rattle.merge_dependencies.proofs.Openings.{ones}
use borrow.Author.Rules.{rules}
use Rattle.merge_dependencies.proofs.merge_one.Goals as goal

pub var-requires : goal.var-requires
var-requires c = search (rules, ones)

pub open_node-requires : goal.open_node-requires
open_node-requires c = search (rules, ones)

pub returns-then-opens : goal.returns-then-opens
returns-then-opens c = search (rules, ones)

pub returns : goal.returns
returns c = search (rules, ones)
