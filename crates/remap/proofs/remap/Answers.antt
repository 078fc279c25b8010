-- `remap`: each need by its law.
use borrow.Author.Rules.{rules}
use Rattle.remap.proofs.Whole.{whole}
use Rattle.remap.proofs.remap.Goals as goal

pub number_nodes-requires : goal.number_nodes-requires
number_nodes-requires c = search (rules, whole)

pub remap_nodes-requires : goal.remap_nodes-requires
remap_nodes-requires c = search (rules, whole)

pub remap_outputs-requires : goal.remap_outputs-requires
remap_outputs-requires c = search (rules, whole)

pub returns : goal.returns
returns c = search (rules, whole)
