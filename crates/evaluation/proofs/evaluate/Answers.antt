-- `evaluate`: its work gets long areas, and what `lend` gives is the promise.
use borrow.Author.Rules.{rules}
use Rattle.model.specs.Entries.{evaluate_outcome}
use Rattle.lending.proofs.Entered.{lent_a, lent_b, entered2}
use Rattle.evaluation.specs.Works.{evaluate_work}
use Rattle.evaluation.proofs.evaluate.Goals as goal

pub lend-requires : goal.lend-requires
lend-requires c = λ h o s p q i j k l. let m = lent_a _ _ h _ k in let n = lent_b _ _ h _ l in search rules

pub returns : goal.returns
unfolding evaluate_outcome evaluate_work
returns c = entered2 _ _ _ _ _ _ _ _ _ _ c.lend.ensures.short (λ h. let g = c.lend.ensures.gives h in search rules) c.lend.ensures.cleared
