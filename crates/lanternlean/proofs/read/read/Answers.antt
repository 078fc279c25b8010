-- `read`: its work gets a long area, and what `lend` gives is the promise.
use borrow.Author.Rules.{rules}
use Rattle.model.specs.Entries.{read_outcome}
use Rattle.lending.proofs.Entered.{lent_a, entered}
use Rattle.lanternlean.specs.Works.{read_work}
use Rattle.lanternlean.proofs.read.read.Goals as goal

pub lend-requires : goal.lend-requires
lend-requires c = λ h o s p q i j k l. let m = lent_a _ _ h _ k in search rules

pub returns : goal.returns
unfolding read_outcome read_work
returns c = entered _ _ _ _ _ _ _ _ _ _ c.lend.ensures.short (λ h. let g = c.lend.ensures.gives h in search rules) c.lend.ensures.cleared
