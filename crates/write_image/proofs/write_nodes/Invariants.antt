-- `write_nodes`: what its loop keeps.
use Prim.Native.Nat.{◌≤◌}
use mathlib.Core.Path.{◌≡◌}
use lib.ListN.{length}
use Rattle.model.specs.Image.{gates_words}
use Rattle.tables.specs.Layout.{nodes_of}
use Rattle.write_image.specs.Writing.{Put}
use Rattle.write_image.proofs.write_nodes.Given as goal

abbrev pub invariant-loop-v : goal.invariant-loop-v
invariant-loop-v l = (l.v ≤ l.nodes) × (length l.out ≡ length l.initial.out) × Put l.initial.out 0 (gates_words (nodes_of l.from l.v)) l.out l.at
