-- `remap_gate`: each need by its law.
use Rattle.remap.proofs.Moves.{place_done}
use Rattle.remap.proofs.remap_gate.Goals as goal

pub returns : goal.returns
returns c = place_done _ _ _ _ _ _ c.requires _ c.count_at-n.ensures _ _ _ _ c.first_at.ensures c.kind_at.ensures c.low_at.ensures c.high_at.ensures _ _ _ c.copy_inputs.ensures c.put_gate.ensures c.put_table.ensures
