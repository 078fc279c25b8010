-- What the contracts of `uses` cite.
use Rattle.kinds.specs.declared.Family.{Family}
pub mod Uses
pub mod Loading
