-- The low 11 bits of an index.
use borrow.Author.Rules.{rules}
use Rattle.signal_values.proofs.Turns.{turns}
use Rattle.signal_values.proofs.slot.Goals as goal

pub returns : goal.returns
returns c = search (rules, turns)
