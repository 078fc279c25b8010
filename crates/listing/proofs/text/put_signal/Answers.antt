-- `put_signal`: each need by its law.
use borrow.Author.Rules.{rules}
use Rattle.listing.proofs.Texts.{signals}
use Rattle.listing.proofs.text.put_signal.Goals as goal

pub returns-then-is_constant : goal.returns-then-is_constant
returns-then-is_constant c = search (rules, signals)

pub returns-then-is_input : goal.returns-then-is_input
returns-then-is_input c = search (rules, signals)

pub returns-else-is_input : goal.returns-else-is_input
returns-else-is_input c = search (rules, signals)
