-- `dedup`: each need by its law.
use mathlib.Core.Path.{refl}
use native.Mathlib.Omega.{arith}
use Rattle.tables.proofs.Holding.{nodes_few, outs_few}
use Rattle.dedup.proofs.Sweeps.{sweep_start, sweep_over}
use Rattle.dedup.proofs.Finish.{finished}
use Rattle.dedup.proofs.dedup.Goals as goal

pub empty_chains-requires : goal.empty_chains-requires
empty_chains-requires c = c.requires.long

pub number_nodes-requires : goal.number_nodes-requires
number_nodes-requires c = omega (arith, nodes_few _ _ c.requires.held, c.requires.long)

pub sweep-cells-requires : goal.sweep-cells-requires
sweep-cells-requires c = let a = c.args in sweep_start a.from.now a.to.now _ _ a.c a.canonical _ c.requires c.empty_chains.ensures c.number_nodes.ensures refl refl

pub sweep-all-requires : goal.sweep-all-requires
sweep-all-requires c = sweep_over _ _ _ _ _ c.sweep-cells.ensures

pub remap_outputs-requires : goal.remap_outputs-requires
remap_outputs-requires c = omega (arith, outs_few _ _ c.requires.held)

pub returns : goal.returns
returns c = let a = c.args in
    finished a.from.now a.to.now _ _ _ _ a.c a.canonical _ _ _ c.requires c.sweep-cells.ensures c.sweep-all.ensures c.remap_cells.ensures c.remap_outputs.ensures refl refl refl
