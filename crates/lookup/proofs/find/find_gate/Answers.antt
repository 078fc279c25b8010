-- `find_gate`: each need by its law.
use native.Mathlib.Omega.{arith}
use Rattle.lookup.proofs.Chains.{seek_small, seek_start, seek_less, seek_next, seek_end}
use Rattle.lookup.proofs.find.find_gate.Goals as goal
use Rattle.lookup.proofs.find.find_gate.Goals.{then-same_gate, else-same_gate}

pub node_at-at-requires : goal.node_at-at-requires
node_at-at-requires c = omega (arith, c.requires.searched.long, seek_small _ _ _ _ c.requires)

pub loop-at-init : goal.loop-at-init
loop-at-init c = seek_start _ _ _ _ c.requires _ c.node_at-at.ensures

pub loop-at-smaller : goal.loop-at-smaller
loop-at-smaller c = seek_less _ _ _ _ c.requires _ _ c.in-Some.is _ c.loop-at.invariant _ c.node_at-at-in-Some.ensures

pub loop-at-preserved : goal.loop-at-preserved
loop-at-preserved c = elim c.if-same_gate.branch [
  | then-same_gate w ↦ seek_next _ _ _ _ c.requires _ _ c.in-Some.is _ c.loop-at.invariant _ c.node_at-at-in-Some.ensures _ _ c.same_gate.ensures (rw w.if-same_gate.true w.found-is)
  | else-same_gate w ↦ seek_next _ _ _ _ c.requires _ _ c.in-Some.is _ c.loop-at.invariant _ c.node_at-at-in-Some.ensures _ _ c.same_gate.ensures (rw w.if-same_gate.false w.found-is)
]

pub returns : goal.returns
returns c = seek_end _ _ _ _ c.requires _ _ c.in_default.is c.loop-at.invariant
