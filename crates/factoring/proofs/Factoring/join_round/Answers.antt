-- `join_round`: each need by its law.
use mathlib.Core.Path.{refl, ◌∙◌}
use Rattle.factoring.proofs.Joining.{round_gate, round_node, round_joins, round_carries, round_less, round_word, round_count, round_done}
use Rattle.factoring.proofs.Factoring.join_round.Goals as goal

pub start_at-f-requires : goal.start_at-f-requires
start_at-f-requires c = round_gate _ _ _ _ _ c.requires.0 c.requires.1 _ refl

pub left_at-m-requires : goal.left_at-m-requires
left_at-m-requires c = round_gate _ _ _ _ _ c.requires.0 c.requires.1 _ refl

pub overflow_add-self : goal.overflow_add-self
overflow_add-self c = round_node _ _ _ _ _ c.requires.0 c.requires.1

pub join_pairs-requires : goal.join_pairs-requires
join_pairs-requires c = round_joins _ _ _ _ _ c.requires.0 c.requires.1 _ _ c.start_at-f.ensures c.left_at-m.ensures

pub carry-requires : goal.carry-requires
carry-requires c = round_carries _ _ _ _ _ c.requires.0 c.requires.1 _ _ c.start_at-f.ensures c.left_at-m.ensures _ c.join_pairs.auto.area

pub overflow_sub-m : goal.overflow_sub-m
overflow_sub-m c = round_less _ _ _ _ _ c.requires.0 c.requires.1 _ _ c.start_at-f.ensures c.left_at-m.ensures

pub overflow_cast-m : goal.overflow_cast-m
overflow_cast-m c = round_word _ _ _ _ _ c.requires.0 c.requires.1 _ _ c.start_at-f.ensures c.left_at-m.ensures

pub put_left-requires : goal.put_left-requires
put_left-requires c = round_gate _ _ _ _ _ c.requires.0 c.requires.1 _ (c.carry.auto.area ∙ c.join_pairs.auto.area)

pub overflow_add-result : goal.overflow_add-result
overflow_add-result c = round_count _ _ _ _ _ c.requires.0 c.requires.1 _ _ c.start_at-f.ensures c.left_at-m.ensures

pub shape_of-area : goal.shape_of-area
shape_of-area c = c.put_left.auto.area ∙ c.carry.auto.area ∙ c.join_pairs.auto.area

pub returns : goal.returns
returns c = round_done _ _ _ _ _ c.requires.0 c.requires.1 _ _ c.start_at-f.ensures c.left_at-m.ensures _ _ c.join_pairs.ensures _ c.carry.ensures c.put_left.ensures
