-- `copy_gate`: each need by its law.
use mathlib.Core.Path.{◌∙◌}
use Rattle.copying.proofs.Copied.{gate_read, gate_room, gate_copies, gate_at_lem, gate_count, gate_done}
use Rattle.copying.proofs.copy_gate.Goals as goal

pub count_at-n-requires : goal.count_at-n-requires
count_at-n-requires c = gate_read _ _ _ _ c.requires

pub first_at-requires : goal.first_at-requires
first_at-requires c = gate_read _ _ _ _ c.requires

pub copy_inputs-requires : goal.copy_inputs-requires
copy_inputs-requires c = gate_copies _ _ _ _ c.requires _ _ c.count_at-n.ensures c.first_at.ensures

pub kind_at-requires : goal.kind_at-requires
kind_at-requires c = gate_read _ _ _ _ c.requires

pub overflow_cast-at : goal.overflow_cast-at
overflow_cast-at c = gate_at_lem _ _ _ _ c.requires

pub overflow_cast-n : goal.overflow_cast-n
overflow_cast-n c = gate_count _ _ _ _ c.requires _ c.count_at-n.ensures

pub put_gate-requires : goal.put_gate-requires
put_gate-requires c = gate_room _ _ _ _ c.requires _ c.copy_inputs.auto.to

pub low_at-requires : goal.low_at-requires
low_at-requires c = gate_read _ _ _ _ c.requires

pub high_at-requires : goal.high_at-requires
high_at-requires c = gate_read _ _ _ _ c.requires

pub put_table-requires : goal.put_table-requires
put_table-requires c = gate_room _ _ _ _ c.requires _ (c.put_gate.auto.net ∙ c.copy_inputs.auto.to)

pub shape_of-to : goal.shape_of-to
shape_of-to c = c.put_table.auto.net ∙ c.put_gate.auto.net ∙ c.copy_inputs.auto.to

pub returns : goal.returns
returns c = gate_done _ _ _ _ c.requires _ _ _ _ _ _ _ _ c.count_at-n.ensures c.first_at.ensures c.kind_at.ensures c.low_at.ensures c.high_at.ensures c.copy_inputs.ensures c.put_gate.ensures c.put_table.ensures
