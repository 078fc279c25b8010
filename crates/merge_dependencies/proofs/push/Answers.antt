-- `push`: each need by its law.
use Rattle.merge_dependencies.proofs.Words.{pushes}
use borrow.Author.Rules.{rules}
use Rattle.merge_dependencies.proofs.push.Goals as goal

pub returns-then-at-lt2048 : goal.returns-then-at-lt2048
returns-then-at-lt2048 c = search (rules, pushes)

pub returns : goal.returns
returns c = search (rules, pushes)
