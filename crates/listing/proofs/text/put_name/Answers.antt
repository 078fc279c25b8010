-- `put_name`: the letter, then the number.
use Rattle.text_parts.proofs.Puts.{wrote_then}
use Rattle.listing.proofs.text.put_name.Goals as goal

pub returns : goal.returns
returns c = wrote_then c.put.ensures c.put_number.ensures
