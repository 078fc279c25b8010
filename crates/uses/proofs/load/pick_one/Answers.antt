-- `pick_one`: each need by its law.
use borrow.Author.Rules.{rules}
use Rattle.uses.proofs.Picking.{ones}
use Rattle.uses.proofs.load.pick_one.Goals as goal

pub returns-then-is_once-once : goal.returns-then-is_once-once
returns-then-is_once-once c = search (rules, ones)

pub put_sig-requires : goal.put_sig-requires
put_sig-requires c = search (rules, ones)

pub returns : goal.returns
returns c = search (rules, ones)
