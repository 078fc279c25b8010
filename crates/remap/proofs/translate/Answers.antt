-- `translate`: the words from the table on are the mapping.
use borrow.Author.Rules.{rules}
use Rattle.remap.proofs.Mapping.{map_done}
use Rattle.remap.proofs.translate.Goals as goal

pub returns : goal.returns
returns c = search (rules, map_done)
