-- The weight is below 64, so the shift is; the table's bit is the quotient's parity.
use Rattle.mux_and_lut.proofs.Choosing.{chooses}
use borrow.Author.Rules.{rules}
use Rattle.mux_and_lut.proofs.lut.Goals as goal

pub overflow_shr-result : goal.overflow_shr-result
overflow_shr-result c = search (rules, chooses)

pub returns : goal.returns
returns c = search (rules, chooses)
