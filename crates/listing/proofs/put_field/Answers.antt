-- `put_field`: each need by its law.
use Rattle.text_parts.proofs.Puts.{wrote_then}
use Rattle.listing.proofs.put_field.Goals as goal

pub returns : goal.returns
returns c = wrote_then c.put_all.ensures c.put_number.ensures
