-- `give_gate`: each need by its law.
use borrow.Author.Rules.{rules}
use Rattle.give_back.proofs.Givings.{gate_gives, gives_done}
use Rattle.give_back.proofs.give_gate.Goals as goal

pub start_at-f-requires : goal.start_at-f-requires
start_at-f-requires c = search (rules, gate_gives)

pub left_at-m-requires : goal.left_at-m-requires
left_at-m-requires c = search (rules, gate_gives)

pub overflow_add-f : goal.overflow_add-f
overflow_add-f c = search (rules, gate_gives)

pub pick_signals-w-requires : goal.pick_signals-w-requires
pick_signals-w-requires c = search (rules, gate_gives)

pub overflow_add-m : goal.overflow_add-m
overflow_add-m c = search (rules, gate_gives)

pub overflow_cast-m : goal.overflow_cast-m
overflow_cast-m c = search (rules, gate_gives)

pub put_left-requires : goal.put_left-requires
put_left-requires c = search (rules, gate_gives)

pub shape_of-to : goal.shape_of-to
shape_of-to c = search (rules, gate_gives)

pub returns : goal.returns
returns c = gives_done _ _ _ _ c.requires _ _ c.start_at-f.ensures c.left_at-m.ensures _ _ c.pick_signals-w.ensures _ c.put_left.ensures
