-- `put_outputs`: each need by its law.
use borrow.Author.Rules.{rules}
use Rattle.listing.proofs.Lines.{outputs}
use Rattle.listing.proofs.put_outputs.Goals as goal

pub loop-o-init : goal.loop-o-init
loop-o-init c = search (rules, outputs)

pub loop-o-preserved : goal.loop-o-preserved
loop-o-preserved c = search (rules, outputs)
