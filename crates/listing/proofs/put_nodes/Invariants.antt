-- `put_nodes`: what its loop keeps.
use Prim.Native.Nat.{◌≤◌}
use Rattle.model.specs.Listing.{numbered, node_line}
use Rattle.tables.specs.Layout.{nodes_of}
use Rattle.text_parts.specs.Putting.{Wrote}
use Rattle.listing.proofs.put_nodes.Given as goal

abbrev pub invariant-loop-v : goal.invariant-loop-v
invariant-loop-v l = (l.v ≤ l.fn.counts.nodes) × Wrote l.initial.to (numbered node_line 0 (nodes_of l.from l.v)) l.to
