use Prim.Native.Nat.{zero-le}
use mathlib.Core.Path.{refl, ◌∙◌}
use Rattle.laws.proofs.Turns.{turn_up}
use Rattle.remap.proofs.Numbers.{number_none, number_place, number_next, number_done}
use Rattle.remap.proofs.number_nodes.Goals as goal

pub loop-k-init : goal.loop-k-init
loop-k-init c = (zero-le, refl, number_none _ _ _ _ c.requires c.clear_table.ensures)

pub put_word-requires : goal.put_word-requires
put_word-requires c = number_place _ _ _ _ c.requires c.clear_table.ensures _ _ c.loop-k.invariant.2 _ c.loop-k-test.true c.number-v.ensures

pub loop-k-preserved : goal.loop-k-preserved
loop-k-preserved c = (turn_up c.loop-k-test.true, c.put_word.auto.area ∙ c.loop-k.invariant.1, number_next _ _ _ _ c.requires c.clear_table.ensures _ _ c.loop-k.invariant.2 _ c.loop-k-test.true c.number-v.ensures _ _ c.from_var.ensures c.put_word.ensures)

pub returns : goal.returns
returns c = number_done _ _ _ _ c.requires c.clear_table.ensures _ _ c.loop-k.invariant.2 c.loop-k.invariant.0 c.loop-k-test.false
