-- `visit`: each need by its law.
use mathlib.Core.Path.{refl}
use borrow.Author.Rules.{rules}
use Rattle.stack_search.proofs.Visits.{visit_stack, visit_node, visit_mark, visit_fits, visit_skip, visit_pos, visit_downs, visit_done}
use Rattle.stack_search.proofs.visit.Goals as goal

pub number-v-requires : goal.number-v-requires
number-v-requires c = search (rules, visit_stack)

pub word-requires : goal.word-requires
word-requires c = search (rules, visit_mark)

pub returns-then-word-gt0 : goal.returns-then-word-gt0
returns-then-word-gt0 c = search (rules, visit_skip)

pub put_word-requires : goal.put_word-requires
put_word-requires c = search (rules, visit_mark)

pub overflow_sub-next : goal.overflow_sub-next
overflow_sub-next c = search (rules, visit_pos)

pub overflow_cast-v : goal.overflow_cast-v
overflow_cast-v c = search (rules, visit_fits)

pub first_at-requires : goal.first_at-requires
first_at-requires c = search (rules, visit_node)

pub count_at-requires : goal.count_at-requires
count_at-requires c = search (rules, visit_node)

pub count_down-end-requires : goal.count_down-end-requires
count_down-end-requires c = visit_downs _ _ _ _ _ c.requires.0 _ _ c.requires.1 refl c.number-v.ensures _ c.word.ensures c.if-word-gt0.false _ _ _ c.put_word.ensures refl c.put_word-2.ensures _ _ c.first_at.ensures c.count_at.ensures

pub returns : goal.returns
returns c = visit_done _ _ _ _ _ c.requires.0 _ _ c.requires.1 refl c.number-v.ensures _ c.word.ensures c.if-word-gt0.false _ _ _ c.put_word.ensures refl c.put_word-2.ensures _ _ _ _ c.first_at.ensures c.count_at.ensures c.count_down-end.ensures
