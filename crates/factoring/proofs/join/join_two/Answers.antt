-- `join_two`: each need by its law.
use mathlib.Core.Path.{◌∙◌}
use Rattle.factoring.proofs.Joining.{two_double, two_place, two_behind, two_node, two_sum, two_first, two_sig, two_done}
use Rattle.factoring.proofs.join.join_two.Goals as goal

pub overflow_mul-k : goal.overflow_mul-k
overflow_mul-k c = two_double _ _ _ _ c.requires

pub overflow_add-k : goal.overflow_add-k
overflow_add-k c = two_place _ _ _ _ c.requires

pub overflow_add-w : goal.overflow_add-w
overflow_add-w c = two_node _ _ _ _ c.requires

pub sig_at-a-requires : goal.sig_at-a-requires
sig_at-a-requires c = two_first _ _ _ _ c.requires

pub overflow_add-k-2 : goal.overflow_add-k-2
overflow_add-k-2 c = two_behind _ _ _ _ c.requires

pub sig_at-b-requires : goal.sig_at-b-requires
sig_at-b-requires c = (c.requires.1, c.requires.0)

pub put_pair-requires : goal.put_pair-requires
put_pair-requires c = (c.requires.2, c.requires.0)

pub overflow_add-f : goal.overflow_add-f
overflow_add-f c = two_sum _ _ _ _ c.requires

pub node_word-requires : goal.node_word-requires
node_word-requires c = c.requires.2

pub put_sig-requires : goal.put_sig-requires
put_sig-requires c = two_sig _ _ _ _ c.requires _ c.put_pair.auto.area

pub shape_of-area : goal.shape_of-area
shape_of-area c = c.put_sig.auto.area ∙ c.put_pair.auto.area

pub returns : goal.returns
returns c = two_done _ _ _ _ _ _ _ _ _ c.sig_at-a.ensures c.sig_at-b.ensures c.put_pair.ensures c.node_word.ensures c.put_sig.ensures
