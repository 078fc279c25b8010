use Rattle.std.proofs.lemmas.Result.{err_from_is_err_and}
use Rattle.refusals.proofs.Numbers.{refused_ok_or}
use Rattle.flatten.proofs.Wholes.{nodes_start, nodes_flattens, nodes_next, nodes_full, nodes_end}
use Rattle.flatten.proofs.flatten_nodes.Goals as goal

pub loop-v-init : goal.loop-v-init
loop-v-init c = nodes_start _ _ _ _ c.requires

pub flatten_gate-requires : goal.flatten_gate-requires
flatten_gate-requires c = nodes_flattens _ _ _ _ c.requires _ _ _ c.loop-v.invariant c.loop-v-test.true

pub returns-in_err-at : goal.returns-in_err-at
returns-in_err-at c =
    let p = err_from_is_err_and c.from_residual.result c.from_residual.ensures.1 in
    let e = c.in_err-at.ensures in
    nodes_full _ _ _ _ c.requires _ _ _ c.loop-v.invariant c.loop-v-test.true _ _ c.flatten_gate.ensures e.ok_part _ (refused_ok_or _ _ _ _ _ e.value e.ok_part p.1 p.2)

pub loop-v-preserved : goal.loop-v-preserved
loop-v-preserved c = nodes_next _ _ _ _ c.requires _ _ _ c.loop-v.invariant c.loop-v-test.true _ _ c.flatten_gate.ensures _ c.in_ok-at.ensures.ok_part c.flatten_gate.auto.to

pub shape_of-to : goal.shape_of-to
shape_of-to c = c.loop-v.invariant.same

pub returns : goal.returns
returns c = nodes_end _ _ _ _ c.requires _ _ _ c.loop-v.invariant c.loop-v-test.false
