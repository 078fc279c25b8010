-- Pass after pass.
use borrow.Author.Rules.{rules}
use Rattle.evaluate.proofs.Turns.{turns}
use Rattle.evaluate.proofs.cycle.Goals as goal

pub forward-requires : goal.forward-requires
forward-requires c = search (rules, turns)

pub put_outputs-requires : goal.put_outputs-requires
put_outputs-requires c = search (rules, turns)

pub put_states-requires : goal.put_states-requires
put_states-requires c = search (rules, turns)

pub returns : goal.returns
returns c = search (rules, turns)
