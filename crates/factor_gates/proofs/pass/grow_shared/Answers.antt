-- `grow_shared`: each need by its law.
use Rattle.factor_gates.proofs.Passings.{pass_source, pass_loaded, pass_nodes, pass_old, pass_room, pass_ended, pass_grown}
use Rattle.factor_gates.proofs.pass.grow_shared.Goals as goal

pub room_for-requires : goal.room_for-requires
room_for-requires c = pass_source _ _ _ _ _ c.requires.0

pub run-requires : goal.run-requires
run-requires c = pass_loaded _ _ _ _ _ c.requires.0

pub invariant_of-p : goal.invariant_of-p
invariant_of-p c = record { old = pass_old _ _ _ _ _ c.requires.0; fits = pass_nodes _ _ _ _ _ c.requires.0 _ c.room_for.ensures }

pub returns-in_default : goal.returns-in_default
returns-in_default c = let pre = c.requires in
    pass_room _ _ _ _ _ pre.0 _ c.room_for.ensures pre.1 _ _ c.run.ensures c.in_default.is

pub grow-requires : goal.grow-requires
grow-requires c = let pre = c.requires in
    pass_ended _ _ _ _ _ pre.0 _ c.room_for.ensures pre.1 _ _ c.run.ensures _ c.in-Some.is

pub returns : goal.returns
returns c = let pre = c.requires in
    pass_grown _ _ _ _ _ pre.0 _ c.room_for.ensures pre.1 _ _ c.run.ensures _ c.in-Some.is _ _ c.grow.ensures
