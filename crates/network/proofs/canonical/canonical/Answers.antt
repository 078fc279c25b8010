-- `canonical`: its work gets long areas, and what `lend` gives is the promise.
use borrow.Author.Rules.{rules}
use Rattle.model.specs.Entries.{canonical_outcome}
use Rattle.network_work.specs.Works.{dedup_pass, dedup_work}
use Rattle.lending.proofs.Entered.{lent_areas, entered2}
use Rattle.network.proofs.canonical.canonical.Goals as goal

pub lend-requires : goal.lend-requires
lend-requires c = λ h o s p q i j k l. let m = lent_areas _ _ h _ _ k l in search rules

pub returns : goal.returns
unfolding canonical_outcome dedup_work dedup_pass
returns c = entered2 _ _ _ _ _ _ _ _ _ _ c.lend.ensures.short (λ h. let g = c.lend.ensures.gives h in search rules) c.lend.ensures.cleared
