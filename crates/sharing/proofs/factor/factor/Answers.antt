-- `factor`: its work gets long areas, and what `lend` gives is the promise.
use borrow.Author.Rules.{rules}
use Rattle.model.specs.Entries.{factor_outcome}
use Rattle.lending.proofs.Entered.{lent_areas, entered}
use Rattle.sharing.specs.Works.{imaged_work, factor_pass}
use Rattle.sharing.proofs.factor.factor.Goals as goal

pub lend-requires : goal.lend-requires
lend-requires c = λ h o s p q i j k l. let m = lent_areas _ _ h _ _ k l in search rules

pub returns : goal.returns
unfolding factor_outcome imaged_work factor_pass
returns c = entered _ _ _ _ _ _ _ _ _ _ c.lend.ensures.short (λ h. let g = c.lend.ensures.gives h in search rules) c.lend.ensures.cleared
