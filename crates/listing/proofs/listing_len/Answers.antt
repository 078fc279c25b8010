-- `listing_len`: each need by its law.
use borrow.Author.Rules.{rules}
use Rattle.listing.proofs.Answering.{listing_whole}
use Rattle.listing.proofs.listing_len.Goals as goal

pub returns : goal.returns
returns c = search (rules, listing_whole)
