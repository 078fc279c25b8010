-- `cleanup`: its work gets long areas, and what `lend` gives is the promise.
use borrow.Author.Rules.{rules}
use Rattle.model.specs.Entries.{cleanup_outcome}
use Rattle.network_passes.specs.Passes.{cleanup_pass}
use Rattle.network_work.specs.Works.{cleanup_work}
use Rattle.lending.proofs.Entered.{lent_areas, entered2}
use Rattle.network.proofs.cleaning.cleanup.Goals as goal

pub lend-requires : goal.lend-requires
lend-requires c = λ h o s p q i j k l. let m = lent_areas _ _ h _ _ k l in search rules

pub returns : goal.returns
unfolding cleanup_outcome cleanup_work cleanup_pass
returns c = entered2 _ _ _ _ _ _ _ _ _ _ c.lend.ensures.short (λ h. let g = c.lend.ensures.gives h in search rules) c.lend.ensures.cleared
