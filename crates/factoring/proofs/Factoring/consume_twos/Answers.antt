use Rattle.laws.proofs.Turns.{turn_less}
use Rattle.factoring.proofs.Turns.{ready_of, twos_start, twos_next, twos_full, twos_end}
use Rattle.factoring.proofs.Factoring.consume_twos.Goals as goal

pub loop-i-init : goal.loop-i-init
loop-i-init c = twos_start _ _ _ _ _ (ready_of _ _ _ _ _ c.args.self.old c.args.self.fits c.requires.laid c.requires.more)

pub consume_at-requires : goal.consume_at-requires
consume_at-requires c = let r = c.loop-i.invariant.ready in record { laid = r.laid; more = r.more; gate = c.loop-i-test.true }

pub returns-in_err-m : goal.returns-in_err-m
returns-in_err-m c = rw c.from_residual.ensures (twos_full _ _ _ _ _ _ _ _ c.loop-i.invariant _ _ c.consume_at.ensures c.loop-i-test.true c.in_err-m.was)

pub loop-i-smaller : goal.loop-i-smaller
loop-i-smaller c = turn_less c.loop-i-test.true

pub loop-i-preserved : goal.loop-i-preserved
loop-i-preserved c = twos_next _ _ _ _ _ _ _ _ c.loop-i.invariant _ _ c.consume_at.ensures c.loop-i-test.true _ c.in_ok-m.was c.consume_at.auto.area

pub shape_of-area : goal.shape_of-area
shape_of-area c = c.loop-i.invariant.same

pub returns : goal.returns
returns c = twos_end _ _ _ _ _ _ _ _ c.loop-i.invariant c.loop-i-test.false
