-- `put_all`: each need by its law.
use borrow.Author.Rules.{rules}
use Rattle.text_parts.proofs.Puts.{bytes}
use Rattle.listing.proofs.text.put_all.Goals as goal

pub loop-b-init : goal.loop-b-init
loop-b-init c = search (rules, bytes)

pub loop-b-preserved : goal.loop-b-preserved
loop-b-preserved c = search (rules, bytes)
