-- Networks whose And (or Xor) gates of two or more inputs list no signal twice: what factoring asks, and canonical gives.
use mathlib.Core.Path.{◌≡◌}
use mathlib.Core.Bool.{true}
use Rattle.laws.specs.Lists.{All, Distinct}
use Rattle.kinds.specs.declared.Family.{Family}
use Rattle.model.specs.Gate.{Gate, Net}
use Rattle.model.specs.Sharing.{takes}

abbrev pub Tidy : Family → Net → Type 0
Tidy f N = All (λ (g : Gate). takes f g ≡ true → Distinct g.ins) N.nodes
