-- `load_body`: each need by its law.
use Rattle.load_body.proofs.Loads.{loads}
use borrow.Author.Rules.{rules}
use Rattle.load_body.proofs.load_body.Goals as goal

pub load_nodes-end-requires : goal.load_nodes-end-requires
load_nodes-end-requires c = search (rules, loads)

pub load_outputs-requires : goal.load_outputs-requires
load_outputs-requires c = search (rules, loads)

pub returns : goal.returns
returns c = search (rules, loads)
