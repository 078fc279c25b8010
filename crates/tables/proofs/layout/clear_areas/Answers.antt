-- One area, then the other.
use Rattle.tables.proofs.layout.clear_areas.Goals as goal

pub returns : goal.returns
returns c = record { area_a = c.clear.ensures; area_b = c.clear-2.ensures }
