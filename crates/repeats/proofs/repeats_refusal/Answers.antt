-- `repeats_refusal`: each need by its law.
use Rattle.repeats.proofs.Searched.{repeats_nine, repeats_none}
use Rattle.repeats.proofs.repeats_refusal.Goals as goal

pub returns-then-any_repeats : goal.returns-then-any_repeats
returns-then-any_repeats c = repeats_nine _ _ c.any_repeats.ensures c.if-any_repeats.true

pub returns : goal.returns
returns c = repeats_none _ _ c.any_repeats.ensures c.if-any_repeats.false
