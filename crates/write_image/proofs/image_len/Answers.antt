use Prim.Native.Nat.{zero-le}
use Rattle.write_image.proofs.Writes.{node_held, len_none, len_next, len_fits, len_all, len_add, len_add4, len_mul}
use Rattle.write_image.proofs.image_len.Goals as goal

pub loop-v-init : goal.loop-v-init
loop-v-init c = (zero-le, len_none _)

pub record_len-n-requires : goal.record_len-n-requires
record_len-n-requires c = node_held _ _ _ c.requires c.loop-v-test.true

pub overflow_add-n : goal.overflow_add-n
overflow_add-n c = len_fits _ _ c.requires _ _ c.loop-v.invariant c.loop-v-test.true _ c.record_len-n.ensures

pub loop-v-preserved : goal.loop-v-preserved
loop-v-preserved c = len_next _ _ c.requires _ _ c.loop-v.invariant c.loop-v-test.true _ c.record_len-n.ensures

pub overflow_add-result : goal.overflow_add-result
overflow_add-result c = len_add _ _ c.requires _ _ c.loop-v.invariant c.loop-v-test.false

pub overflow_add-result-2 : goal.overflow_add-result-2
overflow_add-result-2 c = len_add4 _ _ c.requires _ _ c.loop-v.invariant c.loop-v-test.false

pub overflow_mul-result : goal.overflow_mul-result
overflow_mul-result c = len_mul _ _ c.requires _ _ c.loop-v.invariant c.loop-v-test.false

pub returns : goal.returns
returns c = len_all _ _ c.requires _ _ c.loop-v.invariant c.loop-v-test.false
