use Prim.Native.Nat.{zero-le}
use mathlib.Core.Path.{refl}
use Rattle.laws.proofs.Turns.{turn_less}
use Rattle.dedup.proofs.Endings.{number_none, number_cast, number_node, number_word, number_next, number_end}
use Rattle.dedup.proofs.sweep.number_nodes.Goals as goal

pub loop-v-init : goal.loop-v-init
loop-v-init c = (zero-le, refl, number_none _)

pub overflow_cast-v : goal.overflow_cast-v
overflow_cast-v c = number_cast _ _ c.requires _ _ c.loop-v.invariant c.loop-v-test.true

pub from_var-requires : goal.from_var-requires
from_var-requires c = number_node _ _ c.requires _ _ c.loop-v.invariant c.loop-v-test.true

pub put_word-requires : goal.put_word-requires
put_word-requires c = number_word _ _ c.requires _ _ c.loop-v.invariant c.loop-v-test.true

pub loop-v-smaller : goal.loop-v-smaller
loop-v-smaller c = turn_less c.loop-v-test.true

pub loop-v-preserved : goal.loop-v-preserved
loop-v-preserved c = number_next _ _ c.requires _ _ c.loop-v.invariant c.loop-v-test.true _ _ c.from_var.ensures c.put_word.auto.area c.put_word.ensures

pub shape_of-to : goal.shape_of-to
shape_of-to c = c.loop-v.invariant.1

pub returns : goal.returns
returns c = number_end _ _ c.requires _ _ c.loop-v.invariant c.loop-v-test.false
