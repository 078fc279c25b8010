-- `flatten`: its work gets long areas, and what `lend` gives is the promise.
use borrow.Author.Rules.{rules}
use Rattle.model.specs.Entries.{flatten_outcome}
use Rattle.stages.specs.Stages.{flat_refusal}
use Rattle.lending.proofs.Entered.{lent_areas, entered}
use Rattle.sharing.specs.Works.{imaged_work, flatten_pass}
use Rattle.sharing.proofs.flattening.flatten.Goals as goal

pub lend-requires : goal.lend-requires
lend-requires c = λ h o s p q i j k l. let m = lent_areas _ _ h _ _ k l in search rules

pub returns : goal.returns
unfolding flatten_outcome imaged_work flatten_pass flat_refusal
returns c = entered _ _ _ _ _ _ _ _ _ _ c.lend.ensures.short (λ h. let g = c.lend.ensures.gives h in search rules) c.lend.ensures.cleared
