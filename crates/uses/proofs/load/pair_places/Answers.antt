use borrow.Author.Rules.{rules}
use Rattle.uses.proofs.Picking.{places}
use Rattle.uses.proofs.load.pair_places.Goals as goal

pub loop-i-preserved : goal.loop-i-preserved
loop-i-preserved c = search (rules, places)

pub returns : goal.returns
returns c = search (rules, places)
