-- `put_buf`: each need by its law.
use borrow.Author.Rules.{rules}
use Rattle.growth.proofs.Growings.{puts}
use Rattle.growth.proofs.grow.put_buf.Goals as goal

pub put_input-requires : goal.put_input-requires
put_input-requires c = search (rules, puts)

pub overflow_cast-at : goal.overflow_cast-at
overflow_cast-at c = search (rules, puts)

pub put_gate-requires : goal.put_gate-requires
put_gate-requires c = search (rules, puts)

pub put_table-requires : goal.put_table-requires
put_table-requires c = search (rules, puts)

pub shape_of-to : goal.shape_of-to
shape_of-to c = search (rules, puts)

pub returns : goal.returns
returns c = search (rules, puts)
