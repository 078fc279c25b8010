-- `put_listing`: each need by its law.
use borrow.Author.Rules.{rules}
use Rattle.text_parts.proofs.Puts.{put_back}
use Rattle.listing.proofs.Lines.{outputs_held, listing_put}
use Rattle.listing.proofs.put_listing.Goals as goal

pub put_outputs-requires : goal.put_outputs-requires
put_outputs-requires c = search (rules, outputs_held)

pub returns : goal.returns
returns c = put_back (listing_put _ c.args.counts c.put_counts.ensures c.put_nodes.ensures c.put_outputs.ensures) (search rules)
