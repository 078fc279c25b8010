-- `put_number`: each need by its law.
use borrow.Author.Rules.{rules}
use Rattle.listing.proofs.Texts.{numbers}
use Rattle.listing.proofs.text.+put_number.Goals as goal

pub returns-then-n-lt10 : goal.returns-then-n-lt10
returns-then-n-lt10 t c = search (rules, numbers)

pub returns-else-n-lt10 : goal.returns-else-n-lt10
returns-else-n-lt10 t c = search (rules, numbers)
