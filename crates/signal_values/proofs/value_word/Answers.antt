-- One reading: the word at the slot, against the inversion.
use borrow.Author.Rules.{rules}
use Rattle.signal_values.proofs.Turns.{turns}
use Rattle.signal_values.proofs.value_word.Goals as goal

pub word-x-requires : goal.word-x-requires
word-x-requires c = search (rules, turns)

pub returns : goal.returns
returns c = search (rules, turns)
