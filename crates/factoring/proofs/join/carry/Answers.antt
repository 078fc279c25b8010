-- `carry`: each need by its law.
use Rattle.factoring.proofs.Joining.{carry_double, carry_none, carry_place, carry_last, carry_sum, carry_to, carry_one}
use Rattle.factoring.proofs.join.carry.Goals as goal

pub overflow_mul-e : goal.overflow_mul-e
overflow_mul-e c = carry_double _ _ _ _ c.requires

pub returns-then-m-e : goal.returns-then-m-e
returns-then-m-e c = carry_none _ _ _ _ c.if-m-e.true

pub overflow_add-f : goal.overflow_add-f
overflow_add-f c = carry_place _ _ _ _ c.requires

pub sig_at-s-requires : goal.sig_at-s-requires
sig_at-s-requires c = carry_last _ _ _ _ c.requires c.if-m-e.false

pub overflow_add-f-2 : goal.overflow_add-f-2
overflow_add-f-2 c = carry_sum _ _ _ _ c.requires

pub put_sig-requires : goal.put_sig-requires
put_sig-requires c = carry_to _ _ _ _ c.requires c.if-m-e.false

pub shape_of-area : goal.shape_of-area
shape_of-area c = c.put_sig.auto.area

pub returns : goal.returns
returns c = carry_one _ _ _ _ _ _ c.if-m-e.false c.sig_at-s.ensures c.put_sig.ensures
