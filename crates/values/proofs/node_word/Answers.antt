-- A flip-flop shows its state, any other gate its value.
use Rattle.signal_values.proofs.Bits.{bit_odd}
use Rattle.values.proofs.Dispatch.{shown_state, ways}
use borrow.Author.Rules.{rules}
use Rattle.values.proofs.node_word.Goals as goal

pub returns-then-is_dff : goal.returns-then-is_dff
returns-then-is_dff c = bit_odd _ _ _ c.from.ensures (shown_state _ _ _ _ _ c.is_dff.ensures c.if-is_dff.true)

pub returns : goal.returns
returns c = search (rules, ways)
