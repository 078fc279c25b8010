-- By the callees.
use Rattle.signal_values.specs.Signals.{dff_at}
use mathlib.Core.Path.{ap, ◌∙◌}
use Rattle.kinds.specs.Kinds.{is_flip_flop, kind_of}
use Rattle.signal_values.proofs.is_dff.Goals as goal

pub returns : goal.returns
unfolding dff_at
returns c = c.is_flip_flop_code.ensures ∙ ap (λ k. is_flip_flop (kind_of k)) c.kind_at.ensures
