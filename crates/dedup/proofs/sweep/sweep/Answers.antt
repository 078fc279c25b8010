-- `sweep`: each need by its law.
use Prim.Native.Nat.{zero-le}
use mathlib.Core.Path.{refl, ap, ◌∙◌}
use Rattle.kinds.specs.Kinds.{is_flip_flop}
use Rattle.laws.proofs.Turns.{turn_up}
use Rattle.dedup.proofs.Sweeps.{sweep_kind, sweep_asks, sweep_turn, sweep_skip, sweep_end}
use Rattle.dedup.proofs.sweep.sweep.Goals as goal
use Rattle.dedup.proofs.sweep.sweep.Goals.{then-takes, else-takes}

pub loop-v-init : goal.loop-v-init
loop-v-init c = (c.requires, zero-le, refl)

pub kind_at-requires : goal.kind_at-requires
kind_at-requires c = sweep_kind _ _ _ _ _ _ _ c.loop-v.invariant.0 c.loop-v-test.true

pub dedup_node-built-requires : goal.dedup_node-built-requires
dedup_node-built-requires c = sweep_asks _ _ _ _ _ _ _ c.loop-v.invariant.0 c.loop-v-test.true _ _ c.kind_at.ensures (c.is_flip_flop.ensures ∙ ap is_flip_flop c.kind_of.ensures) _ c.takes.ensures c.if-takes.true

pub loop-v-preserved : goal.loop-v-preserved
loop-v-preserved c = (
  elim c.if-takes.branch [
    | then-takes w ↦ rw (w.to-is, w.built-is) (sweep_turn _ _ _ _ _ _ _ c.loop-v.invariant.0 c.loop-v-test.true _ _ c.kind_at.ensures (c.is_flip_flop.ensures ∙ ap is_flip_flop c.kind_of.ensures) _ c.takes.ensures w.if-takes.true _ _ w.dedup_node-built.ensures)
    | else-takes w ↦ rw (w.to-is, w.built-is) (sweep_skip _ _ _ _ _ _ _ c.loop-v.invariant.0 c.loop-v-test.true _ _ c.kind_at.ensures (c.is_flip_flop.ensures ∙ ap is_flip_flop c.kind_of.ensures) _ c.takes.ensures w.if-takes.false)
  ],
  turn_up c.loop-v-test.true,
  c.if-takes.auto.to ∙ c.loop-v.invariant.2,
)

pub shape_of-to : goal.shape_of-to
shape_of-to c = c.loop-v.invariant.2

pub returns : goal.returns
returns c = sweep_end _ _ _ _ _ _ _ c.loop-v.invariant.0 c.loop-v.invariant.1 c.loop-v-test.false
