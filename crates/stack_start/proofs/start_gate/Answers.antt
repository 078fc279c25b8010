-- `start_gate`: each need by its law.
use borrow.Author.Rules.{rules}
use Rattle.stack_start.proofs.Starts.{start_flip, start_skip, start_push}
use Rattle.stack_start.proofs.start_gate.Goals as goal

pub returns-then-is_flip_flop_code : goal.returns-then-is_flip_flop_code
returns-then-is_flip_flop_code c = search (rules, start_flip)

pub returns-then-word-gt0 : goal.returns-then-word-gt0
returns-then-word-gt0 c = search (rules, start_skip)

pub returns : goal.returns
returns c = search (rules, start_push)
