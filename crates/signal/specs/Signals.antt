-- What the signal's functions say beside the model.
use Rattle.std.specs.Prelude.{ℕ, List, get_or}
use Rattle.model.specs.Signal.{remap_order}

-- remap through a translation that is a list
abbrev pub remapped : List ℕ → ℕ → ℕ
remapped t s = remap_order (λ v. get_or t v 0) s
