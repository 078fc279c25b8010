use Rattle.factoring.proofs.Turns.{ready_of}
use Rattle.factoring.proofs.Rounds.{round_start, round_gate, round_end, round_full, round_ready, round_next, round_less}
use Rattle.factoring.proofs.Factoring.join_gate.Goals as goal

pub loop-self-init : goal.loop-self-init
loop-self-init c = round_start _ _ _ _ _ _ (ready_of _ _ _ _ _ c.args.self.old c.args.self.fits c.requires.laid c.requires.more) c.requires.gate

pub left_at-m-requires : goal.left_at-m-requires
left_at-m-requires c = round_gate _ _ _ _ _ _ _ _ c.loop-self.invariant

pub shape_of-area-then-m-le1 : goal.shape_of-area-then-m-le1
shape_of-area-then-m-le1 c = c.loop-self.invariant.same

pub returns-then-m-le1 : goal.returns-then-m-le1
returns-then-m-le1 c = round_end _ _ _ _ _ _ _ _ c.loop-self.invariant _ c.left_at-m.ensures c.if-m-le1.true

pub overflow_sub-self : goal.overflow_sub-self
overflow_sub-self c = c.loop-self.invariant.ready.more

pub shape_of-area-then-self-t : goal.shape_of-area-then-self-t
shape_of-area-then-self-t c = c.loop-self.invariant.same

pub returns-then-self-t : goal.returns-then-self-t
returns-then-self-t c = round_full _ _ _ _ _ _ _ _ c.loop-self.invariant _ c.left_at-m.ensures c.if-m-le1.false c.if-self-t.true

pub join_round-t-requires : goal.join_round-t-requires
join_round-t-requires c = (round_ready _ _ _ _ _ _ _ _ c.loop-self.invariant _ c.left_at-m.ensures c.if-m-le1.false c.if-self-t.false, c.loop-self.invariant.below)

pub loop-self-smaller : goal.loop-self-smaller
loop-self-smaller c = round_less _ _ _ _ _ _ _ _ c.loop-self.invariant _ c.left_at-m.ensures c.if-m-le1.false c.if-self-t.false _ _ c.join_round-t.ensures

pub loop-self-preserved : goal.loop-self-preserved
loop-self-preserved c = round_next _ _ _ _ _ _ _ _ c.loop-self.invariant _ c.left_at-m.ensures c.if-m-le1.false c.if-self-t.false _ _ c.join_round-t.ensures c.join_round-t.auto.area
