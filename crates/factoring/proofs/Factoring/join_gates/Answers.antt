use Rattle.laws.proofs.Turns.{turn_less}
use Rattle.factoring.proofs.Rounds.{gates_start, gates_next, gates_full, gates_end}
use Rattle.factoring.proofs.Turns.{ready_of}
use Rattle.factoring.proofs.Factoring.join_gates.Goals as goal

pub loop-i-init : goal.loop-i-init
loop-i-init c = gates_start _ _ _ _ _ (ready_of _ _ _ _ _ c.args.self.old c.args.self.fits c.requires.laid c.requires.more)

pub join_gate-requires : goal.join_gate-requires
join_gate-requires c = let r = c.loop-i.invariant.ready in record { laid = r.laid; more = r.more; gate = c.loop-i-test.true }

pub returns-in_err-m : goal.returns-in_err-m
returns-in_err-m c = rw c.from_residual.ensures (gates_full _ _ _ _ _ _ _ _ c.loop-i.invariant _ _ c.join_gate.ensures c.loop-i-test.true c.in_err-m.was)

pub loop-i-smaller : goal.loop-i-smaller
loop-i-smaller c = turn_less c.loop-i-test.true

pub loop-i-preserved : goal.loop-i-preserved
loop-i-preserved c = gates_next _ _ _ _ _ _ _ _ c.loop-i.invariant _ _ c.join_gate.ensures c.loop-i-test.true _ c.in_ok-m.was c.join_gate.auto.area

pub shape_of-area : goal.shape_of-area
shape_of-area c = c.loop-i.invariant.same

pub returns : goal.returns
returns c = gates_end _ _ _ _ _ _ _ _ c.loop-i.invariant c.loop-i-test.false
