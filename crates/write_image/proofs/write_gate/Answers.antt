-- `write_gate`: each need by its law.
use Rattle.write_image.proofs.Writes.{head_room, gate_inputs, gate_table, gate_put}
use Rattle.write_image.proofs.write_gate.Goals as goal

pub put_word-requires : goal.put_word-requires
put_word-requires c = head_room _ _ _ _ c.requires

pub write_inputs-requires : goal.write_inputs-requires
write_inputs-requires c = gate_inputs _ _ _ _ c.requires _ c.count_at-n.ensures _ c.first_at.ensures _ c.put_word.auto.dst

pub write_table-requires : goal.write_table-requires
write_table-requires c = gate_table _ _ _ _ c.requires _ c.count_at-n.ensures c.put_word.new.dst _ c.put_word.auto.dst c.write_inputs.auto.out

pub returns : goal.returns
returns c = gate_put _ _ _ _ c.requires _ c.count_at-n.ensures _ _ c.kind_at.ensures c.first_at.ensures _ _ _ _ c.put_word.ensures c.write_inputs.ensures c.write_table.ensures
