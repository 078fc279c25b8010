-- `consume_at`: each need by its law.
use mathlib.Core.Path.{refl}
use Rattle.factoring.proofs.Turns.{ready_of, at_gate, at_count, at_stay, at_first, at_second, at_fits, at_full, at_done, ready_one}
use Rattle.factoring.proofs.Factoring.consume_at.Goals as goal

pub left_at-requires : goal.left_at-requires
left_at-requires c = at_gate _ _ _ _ _ _ (ready_of _ _ _ _ _ c.args.self.old c.args.self.fits c.requires.laid c.requires.more) c.requires.gate

pub shape_of-area-then-left_at-ne2 : goal.shape_of-area-then-left_at-ne2
shape_of-area-then-left_at-ne2 c = refl

pub returns-then-left_at-ne2 : goal.returns-then-left_at-ne2
returns-then-left_at-ne2 c = at_stay _ _ _ _ _ _ (ready_of _ _ _ _ _ c.args.self.old c.args.self.fits c.requires.laid c.requires.more) c.requires.gate _ c.left_at.ensures c.if-left_at-ne2.true

pub shape_of-area-then-self-k : goal.shape_of-area-then-self-k
shape_of-area-then-self-k c = refl

pub returns-then-self-k : goal.returns-then-self-k
returns-then-self-k c = at_full _ _ _ _ _ _ (ready_of _ _ _ _ _ c.args.self.old c.args.self.fits c.requires.laid c.requires.more) c.requires.gate _ c.left_at.ensures c.if-left_at-ne2.false c.if-self-k.true

pub start_at-f-requires : goal.start_at-f-requires
start_at-f-requires c = at_gate _ _ _ _ _ _ (ready_of _ _ _ _ _ c.args.self.old c.args.self.fits c.requires.laid c.requires.more) c.requires.gate

pub sig_at-a-requires : goal.sig_at-a-requires
sig_at-a-requires c = at_first _ _ _ _ _ _ (ready_of _ _ _ _ _ c.args.self.old c.args.self.fits c.requires.laid c.requires.more) c.requires.gate _ c.left_at.ensures c.if-left_at-ne2.false _ c.start_at-f.ensures

pub overflow_add-f : goal.overflow_add-f
overflow_add-f c = at_fits _ _ _ _ _ _ (ready_of _ _ _ _ _ c.args.self.old c.args.self.fits c.requires.laid c.requires.more) c.requires.gate _ c.left_at.ensures c.if-left_at-ne2.false _ c.start_at-f.ensures

pub sig_at-b-requires : goal.sig_at-b-requires
sig_at-b-requires c = at_second _ _ _ _ _ _ (ready_of _ _ _ _ _ c.args.self.old c.args.self.fits c.requires.laid c.requires.more) c.requires.gate _ c.left_at.ensures c.if-left_at-ne2.false _ c.start_at-f.ensures

pub replace_pair-requires : goal.replace_pair-requires
replace_pair-requires c = ready_one _ _ _ _ _ (ready_of _ _ _ _ _ c.args.self.old c.args.self.fits c.requires.laid c.requires.more) c.if-self-k.false

pub overflow_add-result : goal.overflow_add-result
overflow_add-result c = at_count _ _ _ _ _ (ready_of _ _ _ _ _ c.args.self.old c.args.self.fits c.requires.laid c.requires.more) c.if-self-k.false

pub shape_of-area : goal.shape_of-area
shape_of-area c = c.replace_pair.auto.area

pub returns : goal.returns
returns c = at_done _ _ _ _ _ _ (ready_of _ _ _ _ _ c.args.self.old c.args.self.fits c.requires.laid c.requires.more) c.requires.gate _ c.left_at.ensures c.if-left_at-ne2.false _ _ _ _ c.if-self-k.false c.start_at-f.ensures c.sig_at-a.ensures c.sig_at-b.ensures (rw (c.min.ensures, c.max.ensures) at c.replace_pair.ensures)
