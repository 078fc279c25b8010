-- `record_at`: each need by its law.
use Rattle.image_record.proofs.Places.{at_none, part_at}
use Rattle.image_record.proofs.record_at.Goals as goal

pub returns-in-Some : goal.returns-in-Some
returns-in-Some c = part_at _ _ _ c.in-Some.ensures

pub returns-in-None : goal.returns-in-None
returns-in-None c = at_none _ _ c.in-None.ensures
