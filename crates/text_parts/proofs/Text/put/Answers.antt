-- `Text::put`: within the buffer, or past its end.
use mathlib.Core.Path.{refl}
use native.Mathlib.Omega.{arith}
use Rattle.text_parts.proofs.Puts.{byte_put, byte_past}
use Rattle.text_parts.proofs.Text.put.Goals as goal

pub returns-then-at-self : goal.returns-then-at-self
returns-then-at-self c = byte_put _ _ _ c.saturating_add-self.ensures refl refl

pub returns-else-at-self : goal.returns-else-at-self
returns-else-at-self c = byte_past _ _ _ c.saturating_add-self.ensures refl (omega arith) refl
