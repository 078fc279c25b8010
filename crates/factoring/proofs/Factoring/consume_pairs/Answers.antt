use Rattle.laws.proofs.Turns.{turn_less}
use Rattle.factoring.proofs.Turns.{ready_of, at_count, ready_one, pairs_start, pairs_end, pairs_full, pairs_next}
use Rattle.factoring.proofs.Factoring.consume_pairs.Goals as goal

pub loop-a-init : goal.loop-a-init
loop-a-init c = pairs_start _ _ _ _ _ (ready_of _ _ _ _ _ c.args.self.old c.args.self.fits c.requires.laid c.requires.more)

pub find_best_pair-requires : goal.find_best_pair-requires
find_best_pair-requires c = c.loop-a.invariant.ready.laid

pub shape_of-area : goal.shape_of-area
shape_of-area c = c.loop-a.invariant.same

pub returns : goal.returns
returns c = pairs_end _ _ _ _ _ _ _ c.loop-a.invariant _ c.find_best_pair.ensures c.in_default.is

pub shape_of-area-then-self-m : goal.shape_of-area-then-self-m
shape_of-area-then-self-m c = c.loop-a.invariant.same

pub returns-then-self-m : goal.returns-then-self-m
returns-then-self-m c = pairs_full _ _ _ _ _ _ _ c.loop-a.invariant _ c.find_best_pair.ensures _ _ c.in-Some.is c.if-self-m.true

pub replace_pair-requires : goal.replace_pair-requires
replace_pair-requires c = ready_one _ _ _ _ _ c.loop-a.invariant.ready c.if-self-m.false

pub overflow_add-m : goal.overflow_add-m
overflow_add-m c = at_count _ _ _ _ _ c.loop-a.invariant.ready c.if-self-m.false

pub loop-a-smaller : goal.loop-a-smaller
loop-a-smaller c = turn_less c.if-self-m.false

pub loop-a-preserved : goal.loop-a-preserved
loop-a-preserved c = pairs_next _ _ _ _ _ _ _ c.loop-a.invariant _ c.find_best_pair.ensures _ _ c.in-Some.is _ c.if-self-m.false c.replace_pair.auto.area c.replace_pair.ensures
