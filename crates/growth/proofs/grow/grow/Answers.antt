-- `grow`: each need by its law.
use borrow.Author.Rules.{rules}
use Rattle.growth.proofs.Wholes.{grow_done, grows}
use Rattle.growth.proofs.grow.grow.Goals as goal

pub put_nodes-at-requires : goal.put_nodes-at-requires
put_nodes-at-requires c = search (rules, grows)

pub put_pairs-requires : goal.put_pairs-requires
put_pairs-requires c = search (rules, grows)

pub copy_outputs-requires : goal.copy_outputs-requires
copy_outputs-requires c = search (rules, grows)

pub overflow_add-result : goal.overflow_add-result
overflow_add-result c = search (rules, grows)

pub shape_of-to : goal.shape_of-to
shape_of-to c = search (rules, grows)

pub returns : goal.returns
returns c = grow_done _ _ _ _ _ c.requires _ _ c.put_nodes-at.ensures _ c.put_pairs.ensures _ c.copy_outputs.ensures
