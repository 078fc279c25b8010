-- `listing`: the bytes, where they have room.
use borrow.Author.Rules.{rules}
use Rattle.listing.proofs.Answering.{answering}
use Rattle.listing.proofs.listing.Goals as goal

pub returns : goal.returns
returns c = search (rules, answering)
