-- `put_table`: each need by its law.
use borrow.Author.Rules.{rules}
use Rattle.listing.proofs.Lines.{tables}
use Rattle.listing.proofs.put_table.Goals as goal

pub returns-then-kind_at : goal.returns-then-kind_at
returns-then-kind_at c = search (rules, tables)

pub returns-else-kind_at : goal.returns-else-kind_at
returns-else-kind_at c = search (rules, tables)
