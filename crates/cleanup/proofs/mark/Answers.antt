-- `mark`: each need by its law.
use mathlib.Core.Path.{refl, ◌∙◌}
use Rattle.cleanup.proofs.Walks.{walk_stack, walk_node, walk_mark, walk_skip, walk_ins, walk_done}
use Rattle.cleanup.proofs.mark.Goals as goal

pub overflow_sub-top : goal.overflow_sub-top
overflow_sub-top c = c.requires.1

pub number-v-requires : goal.number-v-requires
number-v-requires c = walk_stack _ _ _ _ c.requires.0 c.requires.1

pub word-requires : goal.word-requires
word-requires c = walk_mark _ _ _ _ c.requires.0 _ _ c.requires.1 refl c.number-v.ensures

pub shape_of-to-then-word-gt0 : goal.shape_of-to-then-word-gt0
shape_of-to-then-word-gt0 c = refl

pub returns-then-word-gt0 : goal.returns-then-word-gt0
returns-then-word-gt0 c = walk_skip _ _ _ _ c.requires.0 _ _ c.requires.1 refl c.number-v.ensures _ c.word.ensures c.if-word-gt0.true

pub put_word-requires : goal.put_word-requires
put_word-requires c = walk_mark _ _ _ _ c.requires.0 _ _ c.requires.1 refl c.number-v.ensures

pub first_at-requires : goal.first_at-requires
first_at-requires c = (walk_node _ _ _ _ c.requires.0 _ _ c.requires.1 refl c.number-v.ensures, c.requires.0.ok.long)

pub count_at-requires : goal.count_at-requires
count_at-requires c = (walk_node _ _ _ _ c.requires.0 _ _ c.requires.1 refl c.number-v.ensures, c.requires.0.ok.long)

pub push_inputs-requires : goal.push_inputs-requires
push_inputs-requires c = walk_ins _ _ _ _ c.requires.0 _ _ c.requires.1 refl c.number-v.ensures _ c.word.ensures c.if-word-gt0.false _ c.put_word.ensures _ _ c.first_at.ensures c.count_at.ensures

pub shape_of-to : goal.shape_of-to
shape_of-to c = c.push_inputs.auto.to ∙ c.put_word.auto.area

pub returns : goal.returns
returns c = walk_done _ _ _ _ c.requires.0 _ _ c.requires.1 refl c.number-v.ensures _ c.word.ensures c.if-word-gt0.false _ c.put_word.ensures _ _ c.first_at.ensures c.count_at.ensures _ _ c.push_inputs.ensures
