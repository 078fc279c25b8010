-- `clear_table`: what the library's `fill` leaves.
use Rattle.translation.proofs.Cleared.{clear_filled}
use Rattle.translation.proofs.clear_table.Goals as goal

pub returns : goal.returns
returns c = clear_filled _ _ _ _ c.requires (c.fill.ensures.after (λ y e. e))
